-- Appending to a file that was opened or refused.
use mathlib.Core.Path.{◌≡◌, sym, ap, ap₂, ◌∙◌}
use mathlib.Core.List.{List, ◌++◌, append_assoc}
use Prim.Native.Nat.{ℕ, zero, suc, ◌+◌, ◌-◌, ◌*◌, ◌/◌, ◌%◌, ◌^◌, ◌≤◌, ◌<◌}
use native.Mathlib.Omega.{arith}
use lib.ListN.{length, take, drop, length-append}
use lib.Seq.{take-append-le, drop-append_seam}
use Rattle.words.specs.Bytes.{Bytes, number, field}
use Rattle.words.proofs.Bytes.{field_below}
use Rattle.answers.specs.Answers.{over}
use Rattle.answers.proofs.Checks.{fails_here, fails_later, last_decides, afterwards-new}
use Rattle.block_rules.specs.Numbers.{t_of}
use Rattle.block_rules.specs.Inside.{PacksAll}
use Rattle.block_rules.proofs.Lengths.{block-at_most}
use Rattle.block_rules.proofs.Round.{written-block}
use Rattle.exam_rules.specs.File.{entry, entry_bytes, directory_bytes, trailer_bytes, file_length, file_bytes, appended}
use Rattle.exam_rules.specs.Reading.{entry_at, entries_at, file_in}
use Rattle.exam_rules.specs.Numbers.{next_slot, append_number}
use Rattle.exam_rules.specs.Calls.{opened, appends_number, Appends, Done, Refused}
use Rattle.exam_rules.specs.Inside.{entries_listed, Standing}
use Rattle.exam_rules.specs.declared.Trailer.{Trailer}
use Rattle.exam_rules.proofs.Opens.{opens_in, refused-tells, done-tells, standing}
use Rattle.exam_rules.proofs.Parts.{tells-edition, tells-t, tells-entries, tells-start, entries_are, t-small}
use Rattle.exam_rules.proofs.Changes.{append-stopped, change_done, makes}
use Rattle.exam_rules.proofs.Listed.{listed-part}
use Rattle.exam_rules.proofs.Entries.{directory_snoc, entries_in_first}
use Rattle.exam_rules.proofs.Stands.{stands-ends, stands-body, stands-exam, stands-directory}
use Rattle.exam_rules.proofs.Accept.{Appendable, appendable}
use Rattle.exam_rules.proofs.Stored.{packed_all, bench-within}
use Rattle.exam_writing.specs.Inside.{Adding, Adds}

-- ---- the lowest slot that may come next

next_last : (f : List ℕ) (m at lowest : ℕ) → next_slot lowest (entries_at f at (suc m)) ≡ field 4 (at + 12 * m) f + 1
unfolding entry_at
next_last f zero at lowest =
    let e : at + 12 * 0 ≡ at = omega arith in
    rw e
next_last f (suc m) at lowest =
    let e : at + 12 * suc m ≡ (at + 12) + 12 * m = omega arith in
    rw e (next_last f m (at + 12) (field 4 at f + 1))

-- the last entry of a directory, where so much stands before it and behind it
module _ (d before last after : List ℕ) (e : d ≡ (before ++ last) ++ after) (twelve : length last ≡ 12) where
  last_field : field 4 0 last ≡ field 4 (length before) d
  last_field =
      rw (e, append_assoc before last after, drop-append_seam before (last ++ after)) (ap number (sym (take-append-le 4 last after (omega (arith, twelve)))))

  pub last_small : Bytes d → field 4 0 last < 2 ^ 32
  last_small bytes = rw last_field (field_below 4 (length before) d bytes)

  pub next_of : (x : ℕ) → length after ≡ length d % 12 → x ≡ field 4 0 last → x + 1 ≡ next_slot 0 (entries_listed d)
  unfolding entries_listed
  next_of x left q =
      let m = length before / 12 in
      let long : length d ≡ length before + 12 + length after =
      ap length e ∙ length-append (before ++ last) after ∙ ap (λ (k : ℕ). k + length after) (length-append before last ∙ ap (λ (k : ℕ). length before + k) twelve) in
      let many : length d / 12 ≡ suc m = omega (arith, long, left) in
      let there : 0 + 12 * m ≡ length before = omega (arith, long, left) in
      rw (many, next_last d m 0 0, there) (ap (λ (k : ℕ). k + 1) (q ∙ last_field))

-- ---- the file that adding a block makes

module _ (b : List ℕ) (l exam : ℕ) (tr : Trailer) (o : opened b l exam ≡ Done tr) (h : Bytes b) (slot : ℕ) (blk : List ℕ) where
  grown : (b' : List ℕ) (size : ℕ) → Adding b blk tr → Adds b blk tr slot exam b' size
      → (size ≡ file_length (appended (file_in (take l b)) slot blk)) × (b' ≡ over (file_bytes (appended (file_in (take l b)) slot blk)) b)
  grown b' size r a =
      let st = standing b l exam tr o in
      let f = file_in (take l b) in
      let g = appended f slot blk in
      let old = take (12 * tr.entries) (drop tr.start b) in
      let new = entry_bytes (entry slot tr.start (length blk)) in
      let tra = trailer_bytes tr.edition tr.t exam (tr.entries + 1) size in
      let many : length g.entries ≡ tr.entries + 1 = length-append f.entries _ ∙ ap (λ (k : ℕ). k + 1) (tells-entries (take l b) tr st) in
      let long : length g.body ≡ tr.start + length blk = length-append f.body blk ∙ ap (λ (k : ℕ). k + length blk) (tells-start (take l b) tr st) in
      let sz : size ≡ file_length g = omega (arith, a.end, many, long) in
      let dir : directory_bytes g.entries ≡ old ++ new =
      directory_snoc f.entries _ ∙ ap₂ (λ (x : List ℕ) (k : ℕ). x ++ entry_bytes (entry slot k (length blk))) (stands-directory b l exam tr o h) (tells-start (take l b) tr st) in
      let x-is : blk ++ old ++ new ++ tra ≡ blk ++ (directory_bytes g.entries ++ trailer_bytes f.edition f.t f.exam (length g.entries) (file_length g)) =
      rw (← sz, dir, many, tells-edition (take l b) tr st, tells-t (take l b) tr st, stands-exam b l exam tr o) (simp append_assoc) in (
        sz,
        makes b b' _ g tr.start blk (omega (arith, r.room)) (ap (λ (y : List ℕ). y ++ blk) (stands-body b l exam tr o)) (omega (arith, r.room, sz, a.end)) x-is a.bytes,
      )

-- ---- the directory of a file that is open

module _ (b : List ℕ) (l exam : ℕ) (tr : Trailer) (o : opened b l exam ≡ Done tr) where
  -- the directory stands in the buffer
  pub directory-within : tr.start + 12 * tr.entries ≤ length b
  directory-within = omega (arith, stands-ends b l exam tr o, (opens_in b l exam (done-tells b l exam tr o).0).within)

  -- the directory's bytes, as the code cuts them out of the buffer
  abbrev directory : List ℕ
  directory = take (tr.start + 12 * tr.entries - tr.start) (drop tr.start b)

  -- the lowest slot that may come next, read from those
  pub next_read : (next : ℕ) → next ≡ next_slot 0 (entries_listed directory) → next ≡ next_slot 0 (file_in (take l b)).entries
  next_read next q =
      let es : entries_listed directory ≡ (file_in (take l b)).entries =
      listed-part b tr.start tr.entries _ (omega arith) (omega (arith, directory-within))
      ∙ sym (entries_in_first b tr.entries tr.start l (omega (arith, stands-ends b l exam tr o)))
      ∙ entries_are (take l b) tr (standing b l exam tr o) in
      rw es at q

-- ---- append

module _ (b : List ℕ) (l exam slot : ℕ) (words fcm dfcm bench : List ℕ) where
  -- where opening refused
  pub append-refused : (k : ℕ) → Refused k ≡ opened b l exam → Appends b l exam slot words fcm dfcm bench (record { number = k; length = 0 }) b fcm dfcm bench
  append-refused k e =
      let t = refused-tells b l exam k (sym e) in
      append-stopped b l exam slot words fcm dfcm bench k (fails_here _ _ _ t.0 t.1) t.1

  -- where the file is open
  module _ (tr : Trailer) (o : opened b l exam ≡ Done tr) where
    st : Standing (take l b) tr
    st = standing b l exam tr o

    module _ (next n : ℕ) (q : next ≡ next_slot 0 (file_in (take l b)).entries)
        (r : n ≡ append_number tr.entries next slot tr.t (length words) (length fcm) (length dfcm) l (length b) (length bench)) where
      -- the number that the code finds is the call's
      append-number : n ≡ appends_number b l exam slot words fcm dfcm bench
      append-number =
          (rw (← (tells-entries (take l b) tr st), ← (tells-t (take l b) tr st), q) at r) ∙ fails_later _ _ _ (done-tells b l exam tr o).0 (last_decides _)

      pub opened-refused : (n ≡ 0 → ⊥) → Appends b l exam slot words fcm dfcm bench (record { number = n; length = 0 }) b fcm dfcm bench
      opened-refused h = append-stopped b l exam slot words fcm dfcm bench n append-number h

      module _ (z : n ≡ 0) where
        pub opened-appendable : Appendable tr.entries next slot tr.t (length words) (length fcm) (length dfcm) l (length b) (length bench)
        opened-appendable = appendable _ _ _ _ _ _ _ _ _ _ (t-small (take l b) tr st) (sym r ∙ z)

        module _ (k : ℕ) (fcm' dfcm' bench' : List ℕ) (p : PacksAll (t_of (length fcm)) words bench fcm' dfcm' bench' k) where
          packs : PacksAll (file_in (take l b)).t words bench fcm' dfcm' bench' k
          packs = rw (← (tells-t (take l b) tr st)) at (packed_all tr.t words fcm dfcm bench (t-small (take l b) tr st) opened-appendable.stores k fcm' dfcm' bench' p)

          pub bench-holds : k ≤ length bench'
          bench-holds = bench-within packs

          pub adding : Adding b (take k bench') tr
          adding =
              let c = opened-appendable in
              let lk = ap length (written-block packs) in
              let m = block-at_most (file_in (take l b)).t words in
              let e = stands-ends b l exam tr o in
              record { few = c.few; room = omega (arith, c.stores.room); small = omega (arith, c.stores.small) }

          pub opened-done : Bytes b → (size : ℕ) (b' : List ℕ) → Adds b (take k bench') tr slot exam b' size
              → Appends b l exam slot words fcm dfcm bench (record { number = 0; length = size }) b' fcm' dfcm' bench'
          opened-done h size b' s =
              let g = grown b l exam tr o h slot (take k bench') b' size adding s in
              let y = sym append-number ∙ z in
              record {
                file = change_done _ size _ b b' y (rw (written-block packs) at g.0) (rw (written-block packs) at g.1);
                fcm_left = packs.fcm ∙ sym (afterwards-new _ _ fcm y);
                dfcm_left = packs.dfcm ∙ sym (afterwards-new _ _ dfcm y);
                bench_left = packs.out ∙ sym (afterwards-new _ _ bench y);
              }
