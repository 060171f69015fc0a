-- A buffer that holds a file: what create, append and replace leave in it, and what opening and reading it tell.
use mathlib.Core.Path.{◌≡◌, sym, ap, ◌∙◌}
use mathlib.Core.List.{List, [], ◌∷◌, ◌++◌}
use Prim.Native.Nat.{ℕ, ◌+◌, ◌^◌, ◌≤◌, ◌<◌}
use native.Mathlib.Omega.{arith}
use lib.ListN.{length, take, drop, length-append, length-take}
use lib.Seq.{take_at, length-take-le}
use Rattle.words.proofs.Each.{none, each_more}
use Rattle.answers.specs.Answers.{over}
use Rattle.answers.proofs.Checks.{none_fails, afterwards-new}
use Rattle.block_rules.specs.Block.{block}
use Rattle.block_rules.proofs.Lengths.{length-block, block-at_most}
use Rattle.exam_rules.specs.File.{entry, File, file_length, file_bytes, empty, appended, replaced}
use Rattle.exam_rules.specs.Reading.{file_in, index_of, entry_of}
use Rattle.exam_rules.specs.Numbers.{most_bytes, open_in_number, next_slot}
use Rattle.exam_rules.specs.Calls.{made, Changes, Appends, Replaces, Made}
use Rattle.exam_rules.proofs.Directory.{edition-one, directory-empty, directory-more}
use Rattle.exam_rules.proofs.Opens.{parts-long, opens_in}
use Rattle.exam_rules.proofs.Lengths.{length-file}
use Rattle.exam_rules.proofs.Changes.{changes_number}
use Rattle.exam_rules.proofs.Accept.{append-takes, find_tells, replace_tells}
use Rattle.exam_rules.proofs.Back.{Good, parts_back, opens_in_back}
use Rattle.exam_rules.proofs.Resized.{length-resized, length-replaced, directory-replaced, smalls-replaced}

-- ---- files that keep the rules stay so

pub good_more : (f : File) (slot : ℕ) (b : List ℕ) → Good f → slot < 2 ^ 32 → length f.entries < 1024 → next_slot 0 f.entries ≤ slot → 8 ≤ length b
    → file_length f + 12 + length b ≤ most_bytes → Good (appended f slot b)
good_more f slot b g s n h l z =
    let e = entry slot (length f.body) (length b) in
    let le : length (f.entries ++ (e ∷ [])) ≡ length f.entries + 1 = length-append f.entries (e ∷ []) in
    let lb : length (f.body ++ b) ≡ length f.body + length b = length-append f.body b in
    record {
      edition = g.edition;
      t = g.t;
      named = g.named;
      exam = g.exam;
      few = omega arith;
      size = omega arith;
      smalls = each_more g.smalls (record { slot = s; offset = omega arith; size = omega arith });
      directory = directory-more f slot b g.directory h l;
    }

good-replaced : (f : File) (slot : ℕ) (b : List ℕ) → Good f → index_of slot f.entries < length f.entries → 8 ≤ length b
    → file_length (replaced f (entry_of slot f) b) ≤ most_bytes → Good (replaced f (entry_of slot f) b)
good-replaced f slot b g h l z =
    record {
      edition = g.edition;
      t = g.t;
      named = g.named;
      exam = g.exam;
      few = omega (arith, length-resized (entry_of slot f).slot (length b) f.entries, g.few);
      size = z;
      smalls = smalls-replaced f slot b g.directory h l (omega arith) g.smalls;
      directory = directory-replaced f slot b g.directory h l;
    }

pub good-empty : (exam t : ℕ) → t ≤ 16 → 0 < exam → exam < 2 ^ 64 → Good (empty exam t)
good-empty exam t h n l =
    record { edition = edition-one; t = h; named = n; exam = l; few = omega arith; size = omega arith; smalls = none; directory = directory-empty exam t }

-- ---- a buffer that holds a file

-- the first l bytes of the buffer are the bytes of a file that keeps the rules
pub record Holds (b : List ℕ) (l : ℕ) (f : File) : Type 0 where
  pub within : l ≤ length b
  pub bytes : take l b ≡ file_bytes f
  pub good : Good f

pub holds-length : {b : List ℕ} {l : ℕ} {f : File} → Holds b l f → l ≡ file_length f
holds-length {b} {l} {f} h = omega (arith, ap length h.bytes, length-take-le l b h.within, length-file f)

pub holds_parts : {b : List ℕ} {l : ℕ} {f : File} → Holds b l f → file_in (take l b) ≡ f
holds_parts {f = f} h = rw h.bytes (parts_back f h.good)

pub holds-opens : {b : List ℕ} {l : ℕ} {f : File} → Holds b l f → open_in_number b l f.exam ≡ 0
holds-opens {b} {l} {f} h = opens_in_back f h.good b l h.within h.bytes

-- so does every buffer that begins with the same bytes
pub copied-holds : {b c : List ℕ} {l : ℕ} {f : File} → Holds b l f → take l c ≡ take l b → Holds c l f
copied-holds {b} {c} {l} h e =
    record { within = omega (arith, ap length e, length-take-le l b h.within, length-take l c); bytes = e ∙ h.bytes; good = h.good }

-- a call that makes a file leaves a buffer that holds it
pub changed-holds : {k : ℕ} {f : File} {b b' : List ℕ} {r : Made} → Changes k f b r b' → r.number ≡ 0 → Good f → Holds b' r.length f
unfolding made
changed-holds {k} {f} {b} {b'} {r} c e g =
    let z : k ≡ 0 = sym (changes_number c) ∙ e in
    let l : r.length ≡ file_length f = ap (λ (x : Made). x.length) c.answer ∙ afterwards-new _ _ 0 z in
    let o : b' ≡ over (file_bytes f) b = c.file_left ∙ afterwards-new _ _ b z in
    record {
      within = omega (arith, ap length o, length-append (file_bytes f) (drop (length (file_bytes f)) b), length-file f);
      bytes = rw (l, o) (take_at (file_bytes f) _ _ (length-file f));
      good = g;
    }

-- an accepted append to a file that keeps the rules leaves a buffer that holds it with one block more
pub appended-holds : {b : List ℕ} {l exam slot : ℕ} {words fcm dfcm bench b' fcm' dfcm' bench' : List ℕ} {r : Made} → Good (file_in (take l b)) → slot < 2 ^ 32
    → Appends b l exam slot words fcm dfcm bench r b' fcm' dfcm' bench' → r.number ≡ 0
    → Holds b' r.length (appended (file_in (take l b)) slot (block (file_in (take l b)).t words))
appended-holds {b} {l} {exam} {slot} {words} {fcm} {dfcm} {bench} g w c e =
    let f = file_in (take l b) in
    let z = sym (changes_number c.file) ∙ e in
    let k = append-takes b l exam slot words fcm dfcm bench z in
    let o = opens_in b l exam (none_fails _ _ z).0 in
    changed-holds c.file e
    (good_more f slot (block f.t words) g w k.few k.above (omega (arith, length-block f.t words))
    (omega (arith, k.file_room, block-at_most f.t words, parts-long (take l b) o.is.trailer, o.long)))

-- so does an accepted replace, with another block in its slot's place
pub replaced-holds : {b : List ℕ} {l exam slot : ℕ} {words fcm dfcm bench b' fcm' dfcm' bench' : List ℕ} {r : Made} → Good (file_in (take l b))
    → Replaces b l exam slot words fcm dfcm bench r b' fcm' dfcm' bench' → r.number ≡ 0
    → Holds b' r.length (replaced (file_in (take l b)) (entry_of slot (file_in (take l b))) (block (file_in (take l b)).t words))
replaced-holds {b} {l} {exam} {slot} {words} {fcm} {dfcm} {bench} g c e =
    let f = file_in (take l b) in
    let blk = block f.t words in
    let k = replace_tells b l exam slot (length words) (length fcm) (length dfcm) (length bench) (sym (changes_number c.file) ∙ e) in
    let o = find_tells b l exam slot k.0 in
    let i = opens_in b l exam o.0 in
    changed-holds c.file e
    (good-replaced f slot blk g o.1 (omega (arith, length-block f.t words))
    (omega (arith, length-replaced f slot blk g.directory o.1, k.1.small, block-at_most f.t words, parts-long (take l b) i.is.trailer, i.long)))
