-- The entries that a directory's bytes list, read twelve bytes after twelve.
use mathlib.Core.Path.{◌≡◌, refl, sym, ap, ap₂, ◌∙◌}
use mathlib.Core.List.{List, [], ◌∷◌, ◌++◌}
use mathlib.Core.Bool.{Bool, cond}
use Prim.Native.Nat.{ℕ, zero, suc, ◌+◌, ◌*◌, ◌/◌, ◌≤◌, ◌<◌}
use native.Mathlib.Omega.{arith}
use native.Mathlib.Nat.{add-zero, zero-add}
use lib.ListN.{length, get_or, take, drop, length-append, length-drop, take-append-drop}
use lib.Seq.{length-take-le, take-append_seam, drop-append_seam, drop-append-add, drop-drop}
use Rattle.std.proofs.Common.{Some, None, Bor}
use Rattle.std.specs.Iterator.{AlwaysYields}
use Rattle.std.specs.List.{position, position_or_len}
use Rattle.std.proofs.lemmas.Iterator.{YieldsList}
use Rattle.std.proofs.lemmas.List.Recursion.{is_position_or_len}
use lib.Dec.{eqb, ltb}
use borrow.Author.Tests.{ltb-true, ltb-false}
use Rattle.std.specs.declared.slice.ChunksExact.{ChunksExact}
use Rattle.std.specs.Slice.Iter.{chunks_exact_rest, chunks_exact_size, chunks_exact_steps}
use Rattle.words.specs.Bytes.{Bytes, number, field}
use Rattle.words.proofs.Tests.{either}
use Rattle.words.proofs.Bytes.{bytes_take, bytes_drop}
use Rattle.exam_rules.specs.File.{Entry}
use Rattle.exam_rules.specs.Reading.{entry_at, entries_at, index_of}
use Rattle.exam_rules.specs.Inside.{entries_listed}
use Rattle.exam_rules.proofs.Directory.{length-entries}
use Rattle.exam_rules.proofs.Parts.{entry-there}
use Rattle.exam_rules.proofs.Entries.{entry_in_first, entries_in_first}

-- what stands behind c is read as it would be alone
module _ (c f : List ℕ) where
  field_behind : (k at : ℕ) → field k (length c + at) (c ++ f) ≡ field k at f
  field_behind k at = ap (λ (l : List ℕ). number (take k l)) (drop-append-add c f at)

  entry_behind : (at : ℕ) → entry_at (c ++ f) (length c + at) ≡ entry_at f at
  unfolding entry_at
  entry_behind at =
      let offset : length c + at + 4 ≡ length c + (at + 4) = omega arith in
      let size : length c + at + 8 ≡ length c + (at + 8) = omega arith in
      rw (offset, size, field_behind 4 at, field_behind 4 (at + 4), field_behind 4 (at + 8))

  entries_behind : (n at : ℕ) → entries_at (c ++ f) (length c + at) n ≡ entries_at f at n
  entries_behind zero at = refl
  entries_behind (suc n) at =
      let next : length c + at + 12 ≡ length c + (at + 12) = omega arith in
      rw next (ap₂ (λ (e : Entry) (es : List Entry). e ∷ es) (entry_behind at) (entries_behind n (at + 12)))

-- the first twelve bytes are the first entry
pub listed-next : (c r : List ℕ) → length c ≡ 12 → entries_listed (c ++ r) ≡ entry_at c 0 ∷ entries_listed r
unfolding entries_listed
listed-next c r h =
    let n : length (c ++ r) / 12 ≡ suc (length r / 12) = omega (arith, length-append c r) in
    let first : entry_at (c ++ r) 0 ≡ entry_at c 0 = sym (entry_in_first (c ++ r) 0 12 (omega arith)) ∙ ap (λ (l : List ℕ). entry_at l 0) (rw h at (take-append_seam c r)) in
    rw n (ap₂ (λ (x : Entry) (es : List Entry). x ∷ es) first (rw h at (entries_behind c r (length r / 12) 0)))

-- fewer bytes list none
pub listed-none : (d : List ℕ) → length d < 12 → entries_listed d ≡ []
unfolding entries_listed
listed-none d h =
    let n : length d / 12 ≡ 0 = omega arith in
    rw n

-- a part of a file lists the entries that stand there
pub listed-part : (f : List ℕ) (at n m : ℕ) → m ≡ 12 * n → at + m ≤ length f → entries_listed (take m (drop at f)) ≡ entries_at f at n
unfolding entries_listed
listed-part f at n m e h =
    let k : length (take m (drop at f)) / 12 ≡ n = omega (arith, length-take-le m (drop at f) (simp length-drop (omega arith))) in
    let a : length (take at f) ≡ at = length-take-le at f (omega arith) in
    let b = entries_behind (take at f) (drop at f) n 0 in
    rw k (entries_in_first (drop at f) n 0 m (omega arith) ∙ sym (rw (a, add-zero at, take-append-drop at f) at b))

-- ---- a walk over a directory's bytes, an entry a turn

pub record Turning (walk : ChunksExact ℕ) : Type 0 where
  pub size : chunks_exact_size walk ≡ 12
  pub bytes : Bytes (chunks_exact_rest walk)

-- the entries that are left
abbrev pub left : ChunksExact ℕ → List Entry
left walk = entries_listed (chunks_exact_rest walk)

pub left-none : (walk after : ChunksExact ℕ) → Turning walk → chunks_exact_steps walk None after → left walk ≡ []
left-none walk after t st = listed-none _ (omega (arith, t.size, st.1.0))

module _ (walk after : ChunksExact ℕ) (t : Turning walk) (its : Bor (List ℕ)) (st : chunks_exact_steps walk (Some its) after) where
  pub left-next : left walk ≡ entry_at its.now 0 ∷ left after
  left-next = ap entries_listed st.1.0 ∙ listed-next its.now (chunks_exact_rest after) (st.1.1 ∙ t.size)

  pub its-bytes : Bytes its.now
  its-bytes i = rw (sym (take-append_seam its.now (chunks_exact_rest after))) (bytes_take (length its.now) _ (rw st.1.0 at t.bytes) i)

  pub turns : Turning after
  turns = record { size = st.0 ∙ t.size; bytes = λ i. rw (sym (drop-append_seam its.now (chunks_exact_rest after))) (bytes_drop (length its.now) _ (rw st.1.0 at t.bytes) i) }

-- a chain over the bytes gives the entries
yields_all : (n : ℕ) (walk : ChunksExact ℕ) → chunks_exact_size walk ≡ 12 → length (chunks_exact_rest walk) / 12 ≡ n
    → AlwaysYields chunks_exact_steps (λ (its : Bor (List ℕ)). entry_at its.now 0) walk (left walk)
yields_all zero walk z e =
    rw (listed-none (chunks_exact_rest walk) (omega arith)) (λ its after st. omega (arith, z, st.1.1, ap length st.1.0, length-append its.now (chunks_exact_rest after)))
yields_all (suc n) walk z e =
    let bytes = chunks_exact_rest walk in
    let parts : entries_listed bytes ≡ entry_at (take 12 bytes) 0 ∷ entries_listed (drop 12 bytes) =
    ap entries_listed (sym (take-append-drop 12 bytes)) ∙ listed-next (take 12 bytes) (drop 12 bytes) (length-take-le 12 bytes (omega arith)) in
    rw parts (
      λ after st. omega (arith, z, st.1.0),
      λ its after st.
          let h : length its.now ≡ 12 = st.1.1 ∙ z in
          let first : take 12 bytes ≡ its.now = ap (λ (l : List ℕ). take 12 l) st.1.0 ∙ (rw h at (take-append_seam its.now (chunks_exact_rest after))) in
          let behind : drop 12 bytes ≡ chunks_exact_rest after = ap (λ (l : List ℕ). drop 12 l) st.1.0 ∙ (rw h at (drop-append_seam its.now (chunks_exact_rest after))) in
          rw (first, behind) (refl, yields_all n after (st.0 ∙ z) (omega (arith, ap length behind, length-drop 12 bytes))),
    )

pub yields : (directory : List ℕ) (walk : ChunksExact ℕ) → chunks_exact_rest walk ≡ directory → chunks_exact_size walk ≡ 12
    → YieldsList chunks_exact_steps (λ (its : Bor (List ℕ)). entry_at its.now 0) walk (entries_listed directory)
yields directory walk e z = rw (← e) (record { runs = yields_all _ walk z refl })

-- ---- the entry of a slot

pub listed-there : (d : List ℕ) (i : ℕ) (e : Entry) → i < length (entries_listed d) → (get_or (entries_listed d) i e ≡ entry_at (drop (12 * i) d) 0) × (12 * i + 12 ≤ length d)
unfolding entries_listed entry_at
listed-there d i e h =
    let below : i < length d / 12 = omega (arith, length-entries d (length d / 12) 0) in (
      entry-there d (length d / 12) 0 i e below ∙ (rw (zero-add (12 * i), ← (drop-drop 4 (12 * i) d), ← (drop-drop 8 (12 * i) d))),
      omega arith,
    )

abbrev pub has : ℕ → Entry → Bool
has slot e = eqb e.slot slot

index-position : (slot : ℕ) (es : List Entry) → index_of slot es ≡ position_or_len (has slot) es
index-position slot = is_position_or_len (index_of slot) (has slot) refl (λ e es. ap (λ (n : ℕ). cond (eqb e.slot slot) 0 n) (omega arith))

pub position-there : (slot : ℕ) (es : List Entry) (i : ℕ) → position (has slot) es ≡ Some i → (i ≡ index_of slot es) × (i < length es)
position-there slot es i q =
    let n = index_of slot es in
    let r = rw (← (index-position slot es)) at q in
    either (ltb n (length es)) (λ t. let e : n ≡ i = cc (rw t at r) in (sym e, omega (arith, ltb-true _ _ t))) (λ t. absurd (cc (rw t at r)))

pub position-missing : (slot : ℕ) (es : List Entry) → position (has slot) es ≡ None → length es ≤ index_of slot es
position-missing slot es q =
    let n = index_of slot es in
    let r = rw (← (index-position slot es)) at q in
    either (ltb n (length es)) (λ t. absurd (cc (rw t at r))) (λ t. ltb-false _ _ t)
