-- Which numbers pack, check and unpack can answer.
use mathlib.Core.Path.{refl}
use mathlib.Core.List.{List, [], ◌∷◌, Mem}
use Prim.Native.Nat.{ℕ}
use Rattle.answers.proofs.OneOf.{one_of_more, no_check_one_of, verdict_one_of, check_one_of}
use Rattle.block_rules.specs.Numbers.{tables_number, pack_number, form_number, block_number, unpack_number}

tables_one_of : (f d : ℕ) → Mem (tables_number f d) (0 ∷ 1 ∷ [])
unfolding tables_number
tables_one_of f d = check_one_of _ 1 _ (check_one_of _ 1 _ (no_check_one_of _) refl) refl

pub pack_one_of : (n f d room : ℕ) → Mem (pack_number n f d room) (0 ∷ 1 ∷ 2 ∷ 3 ∷ [])
unfolding pack_number
pack_one_of n f d room = verdict_one_of _ _ (one_of_more _ _ (tables_one_of f d) refl) (check_one_of _ 2 _ (check_one_of _ 3 _ (no_check_one_of _) refl) refl)

form_one_of : (b : List ℕ) → Mem (form_number b) (0 ∷ 4 ∷ 2 ∷ 5 ∷ 6 ∷ [])
unfolding form_number
form_one_of b =
    check_one_of _ 4 _ (check_one_of _ 2 _ (check_one_of _ 5 _ (check_one_of _ 5 _ (check_one_of _ 6 _ (no_check_one_of _) refl) refl) refl) refl) refl

pub block_one_of : (b : List ℕ) → Mem (block_number b) (0 ∷ 4 ∷ 2 ∷ 5 ∷ 6 ∷ 13 ∷ [])
unfolding block_number
block_one_of b = verdict_one_of _ _ (one_of_more _ _ (form_one_of b) refl) (check_one_of _ 13 _ (no_check_one_of _) refl)

pub unpack_one_of : (b : List ℕ) (f d room : ℕ) → Mem (unpack_number b f d room) (0 ∷ 1 ∷ 4 ∷ 2 ∷ 5 ∷ 6 ∷ 13 ∷ 3 ∷ [])
unfolding unpack_number
unpack_one_of b f d room =
    verdict_one_of _ _ (one_of_more _ _ (tables_one_of f d) refl)
    (verdict_one_of _ _ (one_of_more _ _ (block_one_of b) refl) (check_one_of _ 3 _ (no_check_one_of _) refl))
