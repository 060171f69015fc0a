-- The form comes first in what check answers, and then 13.
use mathlib.Core.Path.{◌≡◌, sym}
use mathlib.Core.Bool.{true, false}
use mathlib.Core.List.{List}
use Prim.Native.Nat.{ℕ}
use native.Mathlib.Omega.{arith}
use Rattle.answers.proofs.Checks.{unless-passes, unless_fails, unless_holds, all_pass, fails_here, fails_later, none_fails}
use Rattle.block_rules.specs.Block.{coded_in, none_padded}
use Rattle.block_rules.specs.Numbers.{form_number, block_number}

-- a block that check takes can be read
pub takes_form : (b : List ℕ) → block_number b ≡ 0 → form_number b ≡ 0
unfolding block_number
takes_form b e = (none_fails _ _ e).0

-- and no code of it is padded
pub takes-tight : (b : List ℕ) → block_number b ≡ 0 → none_padded (coded_in b) ≡ true
unfolding block_number
takes-tight b e = unless_holds _ _ (none_fails _ _ (none_fails _ _ e).1).0 (omega arith)

pub tight-takes : (b : List ℕ) → form_number b ≡ 0 → none_padded (coded_in b) ≡ true → block_number b ≡ 0
unfolding block_number
tight-takes b f t = sym (fails_later _ _ _ f (fails_later _ _ _ (unless-passes _ _ t) all_pass))

-- the form's number answers where it is a refusal
pub form_first : (b : List ℕ) (k : ℕ) → k ≡ form_number b → (k ≡ 0 → ⊥) → k ≡ block_number b
unfolding block_number
form_first b k e h = fails_here _ _ _ e h

-- a padded code answers 13
pub padded_thirteen : (b : List ℕ) → form_number b ≡ 0 → none_padded (coded_in b) ≡ false → 13 ≡ block_number b
unfolding block_number
padded_thirteen b f h = fails_later _ _ _ f (fails_here _ _ _ (unless_fails _ _ h) (λ z. omega arith))
