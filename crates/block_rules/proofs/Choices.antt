-- What is chosen: the choice by bits, and what holds of the code and the residual that any choice takes.
use mathlib.Core.Path.{◌≡◌}
use mathlib.Core.Bool.{true, false}
use Prim.Native.Nat.{ℕ, ◌^◌, ◌≤◌, ◌<◌}
use native.Mathlib.Omega.{arith}
use lib.Count.{count_leading_zeros, leading_of_zero, leading_le}
use borrow.Author.Tests.{lt-ltb, le-ltb}
use Rattle.words.proofs.Tests.{either}
use Rattle.block_rules.specs.Predictors.{Memory}
use Rattle.block_rules.specs.Codes.{Choice, dfcm_chosen, coded_by, chosen, coded_word, fcm_residual, dfcm_residual}
use Rattle.block_rules.specs.declared.Coded.{Coded}
use Rattle.words.proofs.Zeros.{bits_some}
use Rattle.block_rules.proofs.Codes.{code-small}

module _ (f d : ℕ) where
  pub more_bits : count_leading_zeros 64 f < count_leading_zeros 64 d → dfcm_chosen f d ≡ true
  unfolding dfcm_chosen
  more_bits h = lt-ltb (count_leading_zeros 64 f) (count_leading_zeros 64 d) h

  pub no_more_bits : count_leading_zeros 64 d ≤ count_leading_zeros 64 f → dfcm_chosen f d ≡ false
  unfolding dfcm_chosen
  no_more_bits h = le-ltb (count_leading_zeros 64 f) (count_leading_zeros 64 d) h

  -- a residual of 0 by fcm is taken
  pub zero_by_fcm : f ≡ 0 → dfcm_chosen f d ≡ false
  zero_by_fcm e = no_more_bits (rw e (omega (arith, leading_of_zero 64, leading_le 64 d)))

  -- and one by dfcm, where that by fcm is not 0
  pub zero_by_dfcm : f < 2 ^ 64 → 0 < f → d ≡ 0 → dfcm_chosen f d ≡ true
  zero_by_dfcm h p e = more_bits (rw e (omega (arith, leading_of_zero 64, bits_some f h p)))

-- ---- any choice

pub chosen-dfcm : (choice : Choice) (f d : ℕ) (r : Coded) → choice f d ≡ true → r ≡ coded_by true d → r ≡ chosen choice f d
unfolding chosen
chosen-dfcm choice f d r e q = rw e q

pub chosen-fcm : (choice : Choice) (f d : ℕ) (r : Coded) → choice f d ≡ false → r ≡ coded_by false f → r ≡ chosen choice f d
unfolding chosen
chosen-fcm choice f d r e q = rw e q

-- what holds of each residual with its code holds of the chosen one
pub whichever : (choice : Choice) (P : Coded → Type 0) (f d : ℕ) → P (coded_by true d) → P (coded_by false f) → P (chosen choice f d)
unfolding chosen
whichever choice P f d p q = either (choice f d) (λ e. rw e p) (λ e. rw e q)

pub coded-small : (choice : Choice) (m : Memory) (v : ℕ) → (coded_word choice m v).code ≤ 15
unfolding coded_word
coded-small choice m v = whichever choice (λ (c : Coded). c.code ≤ 15) (fcm_residual m v) (dfcm_residual m v) (code-small true _) (code-small false _)
