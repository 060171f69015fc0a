-- The bytes of entries that were read are those that they were read from.
use mathlib.Core.Path.{◌≡◌, refl, sym, ap, ap₂, ◌∙◌}
use mathlib.Core.List.{List, [], ◌∷◌, ◌++◌, map, append_assoc, append-nil}
use Prim.Native.Nat.{ℕ, zero, suc, ◌+◌, ◌-◌, ◌*◌, ◌/◌, ◌%◌, ◌≤◌, ◌<◌}
use native.Mathlib.Omega.{arith}
use lib.Dec.{eqb}
use lib.ListN.{length, take, drop, length-drop}
use lib.Seq.{sets, take-add, drop-drop}
use Rattle.words.specs.Bytes.{Bytes, low_bytes, number, field}
use Rattle.words.proofs.Bytes.{bytes_drop}
use Rattle.words.proofs.Stores.{sets-append, sets-sets, put_again}
use Rattle.words.proofs.Tests.{either}
use Rattle.exam_rules.specs.File.{Entry, entry, entry_bytes, directory_bytes, moved, resized}
use Rattle.exam_rules.specs.Reading.{entry_at, entries_at, index_of}
use Rattle.exam_rules.proofs.Parts.{part_of_first}

bytes_back : (k : ℕ) (l : List ℕ) → Bytes l → k ≤ length l → low_bytes k (number (take k l)) ≡ take k l
bytes_back zero l h n = refl
bytes_back (suc k) [] h n = absurd (omega arith)
bytes_back (suc k) (x ∷ l) h n =
    let b : x < 256 = h 0 in
    let r : (x + 256 * number (take k l)) % 256 ≡ x = omega arith in
    let q : (x + 256 * number (take k l)) / 256 ≡ number (take k l) = omega arith in
    rw (r, q) (ap (λ (y : List ℕ). x ∷ y) (bytes_back k l (λ i. h (suc i)) (omega arith)))

field_back : (f : List ℕ) (at : ℕ) → Bytes f → at + 4 ≤ length f → low_bytes 4 (field 4 at f) ≡ take 4 (drop at f)
field_back f at h n = bytes_back 4 (drop at f) (bytes_drop at f h) (simp length-drop (omega arith))

entry_back : (f : List ℕ) (at : ℕ) → Bytes f → at + 12 ≤ length f → entry_bytes (entry_at f at) ≡ take 12 (drop at f)
unfolding entry_bytes entry_at
entry_back f at h n =
    let x = take 4 (drop at f) in
    let a : take 8 (drop at f) ≡ x ++ take 4 (drop (at + 4) f) = take-add 4 4 (drop at f) ∙ ap (λ (y : List ℕ). x ++ take 4 y) (drop-drop 4 at f) in
    let b : take 12 (drop at f) ≡ take 8 (drop at f) ++ take 4 (drop (at + 8) f) = take-add 8 4 (drop at f) ∙ ap (λ (y : List ℕ). take 8 (drop at f) ++ take 4 y) (drop-drop 8 at f) in
    ap₂ (λ (x y : List ℕ). x ++ y) (ap₂ (λ (x y : List ℕ). x ++ y) (field_back f at h (omega arith)) (field_back f (at + 4) h (omega arith))) (field_back f (at + 8) h (omega arith))
    ∙ sym (b ∙ ap (λ (y : List ℕ). y ++ take 4 (drop (at + 8) f)) a)

-- the directory's bytes are those that its entries were read from
pub directory_back : (f : List ℕ) (n at : ℕ) → Bytes f → at + 12 * n ≤ length f → directory_bytes (entries_at f at n) ≡ take (12 * n) (drop at f)
directory_back f zero at h l = refl
directory_back f (suc n) at h l =
    let e : 12 * suc n ≡ 12 + 12 * n = omega arith in
    ap₂ (λ (x y : List ℕ). x ++ y) (entry_back f at h (omega arith)) (directory_back f n (at + 12) h (omega arith))
    ∙ ap (λ (y : List ℕ). take 12 (drop at f) ++ take (12 * n) y) (sym (drop-drop 12 at f))
    ∙ sym (take-add 12 (12 * n) (drop at f))
    ∙ ap (λ (k : ℕ). take k (drop at f)) (sym e)

pub directory_snoc : (es : List Entry) (e : Entry) → directory_bytes (es ++ (e ∷ [])) ≡ directory_bytes es ++ entry_bytes e
directory_snoc [] e = append-nil (entry_bytes e)
directory_snoc (x ∷ es) e = ap (λ (y : List ℕ). entry_bytes x ++ y) (directory_snoc es e) ∙ sym (append_assoc (entry_bytes x) (directory_bytes es) (entry_bytes e))

-- one entry more, behind those that were read
pub entries_snoc : (f : List ℕ) (n at : ℕ) → entries_at f at (n + 1) ≡ entries_at f at n ++ (entry_at f (at + 12 * n) ∷ [])
entries_snoc f zero at =
    let e : at + 12 * 0 ≡ at = omega arith in
    rw e
entries_snoc f (suc n) at =
    let e : suc n + 1 ≡ suc (n + 1) = omega arith in
    let g : at + 12 * suc n ≡ at + 12 + 12 * n = omega arith in
    rw (e, g) (ap (λ (es : List Entry). entry_at f at ∷ es) (entries_snoc f n (at + 12)))

-- entries within the first l bytes are read from those
pub entry_in_first : (f : List ℕ) (at l : ℕ) → at + 12 ≤ l → entry_at (take l f) at ≡ entry_at f at
unfolding entry_at
entry_in_first f at l h =
    rw (part_of_first 4 at l f (omega arith), part_of_first 4 (at + 4) l f (omega arith), part_of_first 4 (at + 8) l f (omega arith))

pub entries_in_first : (f : List ℕ) (n at l : ℕ) → at + 12 * n ≤ l → entries_at (take l f) at n ≡ entries_at f at n
entries_in_first f zero at l h = refl
entries_in_first f (suc n) at l h = ap₂ (λ (e : Entry) (es : List Entry). e ∷ es) (entry_in_first f at l (omega arith)) (entries_in_first f n (at + 12) l (omega arith))

-- ---- an entry with one field changed

module _ (b : List ℕ) (bytes : Bytes b) where
  -- a field that is put again changes nothing
  field_again : (at : ℕ) → at + 4 ≤ length b → sets b at (low_bytes 4 (field 4 at b)) ≡ b
  field_again at h = ap (λ (x : List ℕ). sets b at x) (field_back b at bytes h) ∙ put_again b at 4 h

  module _ (at : ℕ) (room : at + 12 ≤ length b) where
    abbrev its : Entry
    its = entry_at b at

    pub put_offset : (o : ℕ) → sets b at (entry_bytes (entry its.slot o its.size)) ≡ sets b (at + 4) (low_bytes 4 o)
    unfolding entry_bytes entry_at
    put_offset o =
        let x = low_bytes 4 (field 4 at b) in
        let y = low_bytes 4 o in
        let z = low_bytes 4 (field 4 (at + 8) b) in
        sets-append b at (x ++ y) z
        ∙ ap (λ (l : List ℕ). sets l (at + 8) z) (sets-append b at x y ∙ ap (λ (l : List ℕ). sets l (at + 4) y) (field_again at (omega arith)))
        ∙ sym (sets-sets b (at + 4) y (at + 8) z (omega arith))
        ∙ ap (λ (l : List ℕ). sets l (at + 4) y) (field_again (at + 8) (omega arith))

    pub put_size : (n : ℕ) → sets b at (entry_bytes (entry its.slot its.offset n)) ≡ sets b (at + 8) (low_bytes 4 n)
    unfolding entry_bytes entry_at
    put_size n =
        let x = low_bytes 4 (field 4 at b) in
        let y = low_bytes 4 (field 4 (at + 4) b) in
        let z = low_bytes 4 n in
        sets-append b at (x ++ y) z
        ∙ ap (λ (l : List ℕ). sets l (at + 8) z)
        (sets-append b at x y ∙ ap (λ (l : List ℕ). sets l (at + 4) y) (field_again at (omega arith)) ∙ field_again (at + 4) (omega arith))

-- ---- the directory once one block has another size

-- its bytes: those of the entries before, as they are; the slot's own entry with the new size; those behind with their offsets moved
pub resized_back : (f : List ℕ) (n at slot k : ℕ) → index_of slot (entries_at f at n) < n
    → directory_bytes (resized slot k (entries_at f at n))
    ≡ directory_bytes (entries_at f at (index_of slot (entries_at f at n)))
    ++ (entry_bytes (entry (entry_at f (at + 12 * index_of slot (entries_at f at n))).slot (entry_at f (at + 12 * index_of slot (entries_at f at n))).offset k)
    ++ directory_bytes (map (moved (entry_at f (at + 12 * index_of slot (entries_at f at n))).size k) (entries_at f (at + 12 * index_of slot (entries_at f at n) + 12) (n - index_of slot (entries_at f at n) - 1))))
resized_back f zero at slot k = λ h. absurd (omega arith)
resized_back f (suc n) at slot k =
    let i = index_of slot (entries_at f (at + 12) n) in
    either (eqb (entry_at f at).slot slot)
    (λ q.
    rw q
    (λ h.
    let here : at + 12 * 0 ≡ at = omega arith in
    let rest : suc n - 0 - 1 ≡ n = omega arith in
    rw (here, rest)))
    (λ q.
    rw q
    (λ h.
    let here : at + 12 * suc i ≡ at + 12 + 12 * i = omega arith in
    let rest : suc n - suc i - 1 ≡ n - i - 1 = omega arith in
    rw (here, rest) (ap (λ (x : List ℕ). entry_bytes (entry_at f at) ++ x) (resized_back f n (at + 12) slot k (omega arith)) ∙ sym (append_assoc (entry_bytes (entry_at f at)) _ _))))
