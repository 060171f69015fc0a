-- An accepted append keeps what was there, in any file that opens.
use mathlib.Core.Path.{◌≡◌, refl, sym, ap, ◌∙◌}
use mathlib.Core.List.{List, [], ◌∷◌, ◌++◌}
use Prim.Native.Nat.{ℕ, zero, suc, ◌+◌, ◌^◌, ◌≤◌, ◌<◌}
use native.Mathlib.Omega.{arith}
use lib.Dec.{eqb}
use lib.ListN.{length, get_or, take, drop, length-append, length-drop, get_or-append}
use lib.Seq.{take-append_seam, length-take-le, get_or-append_seam, drop-append_seam, take-length}
use Rattle.words.specs.Bytes.{Bytes}
use Rattle.words.proofs.Each.{Each, none, more}
use Rattle.words.proofs.Tests.{either}
use Rattle.words.proofs.Bytes.{bytes_take, bytes_drop, number-below}
use Rattle.answers.proofs.Checks.{none_fails}
use Rattle.block_rules.specs.Block.{block}
use Rattle.exam_rules.specs.File.{Entry, entry, File, block_of, appended}
use Rattle.exam_rules.specs.Reading.{trailer_at, directory_at, entries_in, entry_at, entries_at, file_in, index_of, entry_of}
use Rattle.exam_rules.specs.Numbers.{directory_number, open_in_number, find_number, block_in}
use Rattle.exam_rules.specs.Calls.{Appends, Made}
use Rattle.exam_rules.proofs.Directory.{block_within, block-long, index_of_entry}
use Rattle.exam_rules.proofs.Opens.{Opens, OpensIn, opens_in, trails-ends, body-long, entries-many, parts-long}
use Rattle.exam_rules.proofs.Parts.{part_of_first}
use Rattle.exam_rules.proofs.Changes.{changes_number}
use Rattle.exam_rules.proofs.Accept.{find_tells, find_passes}
use Rattle.exam_rules.proofs.Back.{Small, Good}
use Rattle.exam_rules.proofs.Holds.{Holds, holds_parts, holds-opens, appended-holds}

-- ---- what is read from bytes fits its fields

smalls_read : (f : List ℕ) (n at : ℕ) → Bytes f → Each Small (entries_at f at n)
unfolding entry_at
smalls_read f zero at h = none
smalls_read f (suc n) at h =
    more
    (record {
      slot = number-below 4 (drop at f) (bytes_drop at f h);
      offset = number-below 4 (drop (at + 4) f) (bytes_drop (at + 4) f h);
      size = number-below 4 (drop (at + 8) f) (bytes_drop (at + 8) f h);
    })
    (smalls_read f n (at + 12) h)

pub good_read : (f : List ℕ) (exam : ℕ) → Bytes f → Opens f exam → Good (file_in f)
unfolding file_in
good_read f exam h o =
    record {
      edition = o.trailer.edition;
      t = o.trailer.t;
      named = rw o.own o.named;
      exam = number-below 8 (drop (trailer_at f + 8) f) (bytes_drop (trailer_at f + 8) f h);
      few = rw (entries-many f) o.trailer.few;
      size = omega (arith, parts-long f o.trailer, o.trailer.small);
      smalls = smalls_read f (entries_in f) (directory_at f) h;
      directory = o.directory;
    }

-- ---- a slot that is found stays where it is

index_kept : (s : ℕ) (es : List Entry) (x : Entry) → index_of s es < length es → index_of s (es ++ (x ∷ [])) ≡ index_of s es
index_kept s [] x = λ h. absurd (omega arith)
index_kept s (e ∷ es) x = either (eqb e.slot s) (λ q. rw q (λ h. refl)) (λ q. rw q (λ h. ap suc (index_kept s es x (omega arith))))

entry_kept : (f : File) (slot s : ℕ) (blk : List ℕ) → index_of s f.entries < length f.entries → entry_of s (appended f slot blk) ≡ entry_of s f
unfolding entry_of
entry_kept f slot s blk h =
    let x = entry slot (length f.body) (length blk) in
    rw (index_kept s f.entries x h) (get_or-append f.entries _ (entry s 0 0) (index_of s f.entries) h)

block-kept : (f : File) (slot s : ℕ) (blk : List ℕ) → directory_number f ≡ 0 → index_of s f.entries < length f.entries
    → block_of (appended f slot blk) (entry_of s f) ≡ block_of f (entry_of s f)
unfolding block_of entry_of
block-kept f slot s blk z h =
    let e = get_or f.entries (index_of s f.entries) (entry s 0 0) in
    sym (part_of_first e.size e.offset (length f.body) (f.body ++ blk) (block_within f _ _ z h))
    ∙ ap (λ (x : List ℕ). take e.size (drop e.offset x)) (take-append_seam f.body blk)

-- what a found slot tells of its file
module _ (b : List ℕ) (l exam s : ℕ) (z : find_number b l exam s ≡ 0) where
  found_below : index_of s (file_in (take l b)).entries < length (file_in (take l b)).entries
  found_below = (find_tells b l exam s z).1

  found-opens : OpensIn b l exam
  found-opens = opens_in b l exam (find_tells b l exam s z).0

  pub found-size : 8 ≤ (entry_of s (file_in (take l b))).size
  unfolding entry_of
  found-size = block-long (file_in (take l b)) _ (entry s 0 0) found-opens.is.directory found_below

  -- the block ends before the directory, so within the file, and is the bytes at its place in the buffer
  pub found-ends : (entry_of s (file_in (take l b))).offset + (entry_of s (file_in (take l b))).size ≤ directory_at (take l b)
  unfolding entry_of
  found-ends = omega (arith, block_within (file_in (take l b)) _ (entry s 0 0) found-opens.is.directory found_below, body-long (take l b))

  pub found_within : (entry_of s (file_in (take l b))).offset + (entry_of s (file_in (take l b))).size ≤ l
  found_within = omega (arith, found-ends, trails-ends (take l b) found-opens.is.trailer, found-opens.long)

  pub found_part : block_in b l s ≡ take (entry_of s (file_in (take l b))).size (drop (entry_of s (file_in (take l b))).offset b)
  unfolding block_in block_of file_in
  found_part =
      let x = entry_of s (file_in (take l b)) in
      part_of_first x.size x.offset (directory_at (take l b)) (take l b) found-ends ∙ part_of_first x.size x.offset l b found_within

  -- so it has the entry's bytes, at least 8 of them
  pub found-long : 8 ≤ length (block_in b l s)
  found-long =
      let x = entry_of s (file_in (take l b)) in
      rw (found_part, length-take-le x.size (drop x.offset b) (simp length-drop (omega (arith, found_within, found-opens.within)))) found-size

-- ---- the call

-- an accepted append to a file that keeps the rules and fits its fields
module _ {b : List ℕ} {l exam slot : ℕ} {words fcm dfcm bench b' fcm' dfcm' bench' : List ℕ} {r : Made} (g : Good (file_in (take l b))) (w : slot < 2 ^ 32)
    (c : Appends b l exam slot words fcm dfcm bench r b' fcm' dfcm' bench') (e : r.number ≡ 0) where
  abbrev old : File
  old = file_in (take l b)

  opened-old : OpensIn b l exam
  opened-old = opens_in b l exam (none_fails _ _ (sym (changes_number c.file) ∙ e)).0

  -- leaves one that opens for the same exam number
  pub good-opens : open_in_number b' r.length exam ≡ 0
  unfolding file_in
  good-opens = rw opened-old.is.own at (holds-opens (appended-holds g w c e))

  -- a slot that was found is found, with the same entry and the same block
  pub good-keeps : (s : ℕ) → find_number b l exam s ≡ 0
      → (find_number b' r.length exam s ≡ 0) × (entry_of s (file_in (take r.length b')) ≡ entry_of s old) × (block_in b' r.length s ≡ block_in b l s)
  unfolding block_in
  good-keeps s z =
      let blk = block old.t words in
      let x = entry slot (length old.body) (length blk) in
      let i = (find_tells b l exam s z).1 in
      let p = holds_parts (appended-holds g w c e) in
      let k = entry_kept old slot s blk i in
      let es = (file_in (take r.length b')).entries in
      let j : index_of s es < length es = rw p (omega (arith, i, index_kept s old.entries x i, length-append old.entries (x ∷ []))) in (
        find_passes b' r.length exam s good-opens j,
        rw p k,
        rw (p, k) (block-kept old slot s blk opened-old.is.directory i),
      )

  -- the new slot is found, with the new block
  pub good-finds : (find_number b' r.length exam slot ≡ 0) × (block_in b' r.length slot ≡ block old.t words)
  unfolding block_in block_of entry_of
  good-finds =
      let blk = block old.t words in
      let held = appended-holds g w c e in
      let x = entry slot (length old.body) (length blk) in
      let f = appended old slot blk in
      let p = holds_parts held in
      let n = length old.entries in
      let at : (d : Entry) → get_or f.entries n d ≡ x = λ d. get_or-append_seam old.entries x [] d in
      let below : n < length f.entries = omega (arith, length-append old.entries (x ∷ [])) in
      let i : index_of slot f.entries ≡ n = rw (at x) at (index_of_entry f n x held.good.directory below) in (
        find_passes b' r.length exam slot good-opens (rw (p, i) below),
        rw (p, i, at _, drop-append_seam) (take-length blk),
      )

-- an accepted append to any file of bytes that opens: it keeps the rules and fits its fields
module _ {b : List ℕ} {l exam slot : ℕ} {words fcm dfcm bench b' fcm' dfcm' bench' : List ℕ} {r : Made} (bytes : Bytes b) (w : slot < 2 ^ 32)
    (c : Appends b l exam slot words fcm dfcm bench r b' fcm' dfcm' bench') (e : r.number ≡ 0) where
  abbrev before : File
  before = file_in (take l b)

  keeps-rules : Good before
  keeps-rules = good_read (take l b) exam (bytes_take l b bytes) (opens_in b l exam (none_fails _ _ (sym (changes_number c.file) ∙ e)).0).is

  -- the buffer holds the file with one block more
  pub more-holds : Holds b' r.length (appended before slot (block before.t words))
  more-holds = appended-holds keeps-rules w c e

  -- and it opens for the same exam number
  pub more-opens : open_in_number b' r.length exam ≡ 0
  more-opens = good-opens keeps-rules w c e

  -- a slot that was found is found, with the same entry and the same block
  pub slot_kept : (s : ℕ) → find_number b l exam s ≡ 0
      → (find_number b' r.length exam s ≡ 0) × (entry_of s (file_in (take r.length b')) ≡ entry_of s before) × (block_in b' r.length s ≡ block_in b l s)
  slot_kept s z = good-keeps keeps-rules w c e s z

  -- the new slot is found, with the new block
  pub slot-new : (find_number b' r.length exam slot ≡ 0) × (block_in b' r.length slot ≡ block before.t words)
  slot-new = good-finds keeps-rules w c e
