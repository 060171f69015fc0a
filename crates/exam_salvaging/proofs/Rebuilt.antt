-- The new file written, and the answer.
use mathlib.Core.Path.{◌≡◌, sym, ap, ◌∙◌}
use mathlib.Core.List.{List, ◌++◌}
use Prim.Native.Nat.{ℕ, ◌+◌, ◌-◌, ◌*◌, ◌≤◌}
use native.Mathlib.Omega.{arith}
use lib.ListN.{length, take, length-append}
use lib.Seq.{sets}
use Rattle.words.proofs.Stores.{join}
use Rattle.answers.proofs.Checks.{sets_over, afterwards-new, afterwards-old}
use Rattle.exam_rules.specs.File.{File, directory_bytes, trailer_bytes, file_length, file_bytes}
use Rattle.exam_rules.specs.Pieces.{entries_of}
use Rattle.exam_rules.specs.Numbers.{salvage_number}
use Rattle.exam_rules.specs.Salvage.{whole_blocks, numbered, salvaged_file}
use Rattle.exam_rules.specs.Calls.{salvaged, salvages_number, Salvages}
use Rattle.exam_rules.proofs.Lengths.{length-directory, length-file}
use Rattle.exam_rules.proofs.Accept.{salvage_takes}
use Rattle.exam_rules.proofs.Salvage.{blocks-few, blocks-within, salvaged-many, salvaged-first}
use Rattle.exam_writing.specs.Inside.{Trails}
use Rattle.exam_salvaging.specs.Inside.{FoundIn, new_length, Rebuilding, Rebuilds}
use Rattle.exam_salvaging.specs.declared.Found.{Found}

pub found-few : {old : List ℕ} {s : Found} → FoundIn old s → s.kept ≤ 1024
found-few {old} f = omega (arith, f.kept, blocks-few 1024 old)

pub found_within : {old : List ℕ} {s : Found} → FoundIn old s → s.end ≤ length old
found_within {old} f = omega (arith, f.end, blocks-within 1024 0 old)

module _ (old : List ℕ) (s : Found) (f : FoundIn old s) (exam t : ℕ) where
  abbrev file : File
  file = salvaged_file old exam t

  found-kept : s.kept ≡ length file.entries
  found-kept = f.kept ∙ sym (salvaged-many old exam t)

  found-end : s.end ≡ length file.body
  unfolding salvaged_file
  found-end = f.end

  found-length : new_length s.kept s.end ≡ file_length file
  found-length = omega (arith, found-kept, found-end)

  -- so the number that is worked out from them is salvage's
  pub found_number : (b : List ℕ) (n : ℕ) → n ≡ salvage_number exam t (new_length s.kept s.end) (length b) → n ≡ salvages_number old b exam t
  found_number b n e = e ∙ ap (λ (l : ℕ). salvage_number exam t l (length b)) found-length

  pub rebuilding : (b : List ℕ) → salvage_number exam t (new_length s.kept s.end) (length b) ≡ 0 → Rebuilding b old s
  rebuilding b z = record { found = f; room = (salvage_takes exam t _ (length b) z).buffer_room }

  pub rebuilt : (b b1 b2 b3 : List ℕ) → new_length s.kept s.end ≤ length b → b1 ≡ sets b 0 (take s.end old)
      → b2 ≡ sets b1 s.end (directory_bytes (entries_of 0 (numbered 0 (whole_blocks 1024 old))))
      → (l : ℕ) → Trails b2 (record { edition = 1; t = t; entries = s.kept; start = s.end }) exam b3 l
      → Rebuilds b old exam t b3 l
  unfolding salvaged_file file_bytes
  rebuilt b b1 b2 b3 room p1 p2 l p3 =
      let long : l ≡ file_length file = p3.end ∙ found-length in
      let body : take s.end old ≡ file.body = rw found-end (salvaged-first old exam t) in
      let dir = directory_bytes file.entries in
      let q2 : b2 ≡ sets b 0 (file.body ++ dir) = join b b1 b2 file.body dir 0 s.end (rw body at p1) p2 (omega (arith, found-end)) in
      let trail : trailer_bytes 1 t exam s.kept l ≡ trailer_bytes 1 t exam (length file.entries) (file_length file) = rw (found-kept, long) in
      let q3 =
      join b b2 b3 (file.body ++ dir) (trailer_bytes 1 t exam (length file.entries) (file_length file)) 0 (s.end + 12 * s.kept) q2 (rw trail at p3.bytes)
      (omega (arith, length-append file.body dir, length-directory file.entries, found-kept, found-end)) in
      record { end = long; bytes = q3 ∙ sets_over (file_bytes file) b (omega (arith, length-file file, found-length)) }

pub salvage_refused : (old b : List ℕ) (exam t n : ℕ) → n ≡ salvages_number old b exam t → (n ≡ 0 → ⊥)
    → Salvages old b exam t (record { number = n; length = 0; kept = 0; left_over = 0; renumbered = 0 }) b
unfolding salvaged
salvage_refused old b exam t n e h =
    let f = salvaged_file old exam t in
    let u : salvages_number old b exam t ≡ 0 → ⊥ = λ z. h (e ∙ z) in
    record {
      answer =
          cc
          (afterwards-old _ (file_length f) 0 u, afterwards-old _ (length f.entries) 0 u, afterwards-old _ (length old - length f.body) 0 u, afterwards-old {A = ℕ} _ 1 0 u);
      file_left = sym (afterwards-old _ _ b u);
    }

pub salvage_done : (old b b' : List ℕ) (exam t l : ℕ) (s : Found) → FoundIn old s → salvages_number old b exam t ≡ 0 → Rebuilds b old exam t b' l
    → Salvages old b exam t (record { number = 0; length = l; kept = s.kept; left_over = length old - s.end; renumbered = 1 }) b'
unfolding salvaged
salvage_done old b b' exam t l s g z r =
    let f = salvaged_file old exam t in
    record {
      answer =
          cc (
            z,
            afterwards-new _ (file_length f) 0 z,
            afterwards-new _ (length f.entries) 0 z,
            afterwards-new _ (length old - length f.body) 0 z,
            afterwards-new {A = ℕ} _ 1 0 z,
            r.end,
            found-kept old s g exam t,
            found-end old s g exam t,
          );
      file_left = r.bytes ∙ sym (afterwards-new _ _ b z);
    }
