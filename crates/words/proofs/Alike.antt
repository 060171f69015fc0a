-- That two lists have the same bytes means that they are equal.
use Rattle.std.proofs.Common.{◌≡◌, ◌&&◌, ◌==◌, ℕ, true, false, Bool, List, [], ◌∷◌, length, refl, sym, ap, arith, rules}
use Rattle.std.specs.Bool.{Decides}
use Rattle.std.specs.List.{starts_with}
use Rattle.std.proofs.lemmas.Bool.{false_from_ne_true}
use Rattle.std.proofs.lemmas.Slice.Eq.{compares_Decides}
use Rattle.words.specs.Bytes.{same_bytes}

same_decides : (a b : List ℕ) → Decides (same_bytes a b) (a ≡ b)
same_decides a b = compares_Decides same_bytes (search rules) a b

pub same_equal : (a b : List ℕ) → same_bytes a b ≡ true → a ≡ b
same_equal a b = (same_decides a b).0

pub equal_same : (a : List ℕ) → same_bytes a a ≡ true
equal_same a = (same_decides a a).1 refl

-- of two lists of one length: that one starts with the other
pub begins_same : (a b : List ℕ) → length a ≡ length b → starts_with (λ (x y : ℕ). x == y) b a ≡ same_bytes a b
begins_same [] [] h = refl
begins_same [] (y ∷ b) h = absurd (omega arith)
begins_same (x ∷ a) [] h = absurd (omega arith)
begins_same (x ∷ a) (y ∷ b) h = ap (λ (t : Bool). x == y && t) (begins_same a b (omega arith))

-- lists of two lengths have not the same bytes
pub length-differs : (a b : List ℕ) → (length a ≡ length b → ⊥) → false ≡ same_bytes a b
length-differs a b h = sym (false_from_ne_true (same_bytes a b) (λ e. h (ap length (same_equal a b e))))
