-- The code of a word: the tables, the choice, what is written.
use mathlib.Core.Path.{◌≡◌, refl}
use mathlib.Core.Bool.{Bool, true, false}
use mathlib.Core.List.{[], ◌∷◌}
use Prim.Native.Nat.{ℕ, zero, suc, ◌+◌, ◌-◌, ◌/◌, ◌%◌, ◌^◌, ◌≤◌, ◌<◌}
use native.Mathlib.Omega.{arith}
use native.Mathlib.Nat.{lt_of_lt_of_le}
use lib.Count.{count_leading_zeros}
use lib.Dec.{ltb}
use lib.ListN.{get_or}
use borrow.Author.Tests.{ltb-true, ltb-false}
use Rattle.words.specs.Words.{zero_bytes}
use Rattle.words.proofs.Tests.{either}
use Rattle.words.proofs.Zeros.{zeros-at_most, zeros_within, pow_256_le, zeros_by_bits}
use Rattle.block_rules.specs.Predictors.{Memory, dfcm_prediction, fcm_prediction}
use Rattle.block_rules.specs.Codes.{dfcm_chosen, dfcm_chosen_by_bytes, Thrifty, low_three, written, coded_by, named_prediction}

-- ---- the tables

-- the first table, without a branch
pub low_three_is : (z : ℕ) → z ≤ 7 → low_three z + z / 4 ≡ z
unfolding low_three
low_three_is zero h = refl
low_three_is (suc zero) h = refl
low_three_is (suc (suc zero)) h = refl
low_three_is (suc (suc (suc zero))) h = refl
low_three_is (suc (suc (suc (suc zero)))) h = refl
low_three_is (suc (suc (suc (suc (suc zero))))) h = refl
low_three_is (suc (suc (suc (suc (suc (suc zero)))))) h = refl
low_three_is (suc (suc (suc (suc (suc (suc (suc zero))))))) h = refl
low_three_is (suc (suc (suc (suc (suc (suc (suc (suc z)))))))) h = absurd (omega arith)

-- a residual of 0
pub low_three_of_zero : (z : ℕ) → z ≡ 8 → low_three z ≡ 7
unfolding low_three
low_three_of_zero z e = rw e

pub low_three_small : (z : ℕ) → z ≤ 8 → low_three z ≤ 7
low_three_small z h =
    either (ltb z 8) (λ e. let l = ltb-true z 8 e in omega (arith, low_three_is z (omega arith)))
    (λ e. let l = ltb-false z 8 e in omega (arith, low_three_of_zero z (omega arith)))

-- and the second
pub written_is : (c : ℕ) → written c + c % 8 + c % 8 / 4 ≡ 8
unfolding written
written_is c = counted (c % 8) (omega arith)
  where
    counted : (l : ℕ) → l ≤ 7 → get_or (8 ∷ 7 ∷ 6 ∷ 5 ∷ 3 ∷ 2 ∷ 1 ∷ 0 ∷ []) l 0 + l + l / 4 ≡ 8
    counted zero h = refl
    counted (suc zero) h = refl
    counted (suc (suc zero)) h = refl
    counted (suc (suc (suc zero))) h = refl
    counted (suc (suc (suc (suc zero)))) h = refl
    counted (suc (suc (suc (suc (suc zero))))) h = refl
    counted (suc (suc (suc (suc (suc (suc zero)))))) h = refl
    counted (suc (suc (suc (suc (suc (suc (suc zero))))))) h = refl
    counted (suc (suc (suc (suc (suc (suc (suc (suc l)))))))) h = absurd (omega arith)

pub written_small : (c : ℕ) → written c ≤ 8
written_small c = omega (arith, written_is c)

-- higher low bits write no more
pub fewer-written : (c k : ℕ) → c % 8 ≤ k % 8 → written k ≤ written c
fewer-written c k h = fewer (c % 8) (k % 8) _ _ h (written_is k) (written_is c)
  where
    fewer : (l i v w : ℕ) → l ≤ i → v + i + i / 4 ≡ 8 → w + l + l / 4 ≡ 8 → v ≤ w
    fewer l i v w h p q = omega arith

-- what fits the bytes that a code writes is a word
pub fits_word : (r c : ℕ) → r < 256 ^ written c → r < 2 ^ 64
fits_word r c h = lt_of_lt_of_le h (pow_256_le {b = 8} (written_small c))

-- ---- a residual with its code

-- a code has four bits
pub code-small : (b : Bool) (r : ℕ) → (coded_by b r).code ≤ 15
unfolding coded_by
code-small true r = omega (arith, low_three_small (zero_bytes r) (zeros-at_most r))
code-small false r = omega (arith, low_three_small (zero_bytes r) (zeros-at_most r))

-- the low three bits alone decide what is written
pub low_bits_decide : (c k : ℕ) → c % 8 ≡ k % 8 → written c ≡ written k
unfolding written
low_bits_decide c k e = rw e

pub coded_cost : (b : Bool) (r : ℕ) → written (coded_by b r).code ≡ written (low_three (zero_bytes r))
unfolding coded_by
coded_cost true r = low_bits_decide _ _ (omega arith)
coded_cost false r = low_bits_decide _ _ (omega arith)

pub coded_residual : (b : Bool) (r : ℕ) → (coded_by b r).residual ≡ r
unfolding coded_by
coded_residual b r = refl

-- the top bit names the prediction
pub names-dfcm : (m : Memory) (r : ℕ) → named_prediction m (coded_by true r).code ≡ dfcm_prediction m
unfolding named_prediction coded_by
names-dfcm m r = either (ltb (coded_by true r).code 8) (λ e. absurd (omega (arith, ltb-true (coded_by true r).code 8 e))) (λ e. rw e)

pub names-fcm : (m : Memory) (r : ℕ) → named_prediction m (coded_by false r).code ≡ fcm_prediction m
unfolding named_prediction coded_by
names-fcm m r =
    either (ltb (coded_by false r).code 8) (λ e. rw e)
    (λ e. absurd (omega (arith, ltb-false (coded_by false r).code 8 e, low_three_small (zero_bytes r) (zeros-at_most r))))

-- ---- the choice

pub rule-thrifty : Thrifty dfcm_chosen
unfolding dfcm_chosen
rule-thrifty =
    record {
      dfcm = λ f d e. zeros_by_bits f d (omega (arith, ltb-true (count_leading_zeros 64 f) (count_leading_zeros 64 d) e));
      fcm = λ f d e. zeros_by_bits d f (ltb-false (count_leading_zeros 64 f) (count_leading_zeros 64 d) e);
    }

pub bytes-thrifty : Thrifty dfcm_chosen_by_bytes
unfolding dfcm_chosen_by_bytes
bytes-thrifty =
    record {
      dfcm = λ f d e. omega (arith, ltb-true (zero_bytes f) (zero_bytes d) e);
      fcm = λ f d e. ltb-false (zero_bytes f) (zero_bytes d) e;
    }

-- ---- what is written is enough

written_of_zeros : (z : ℕ) → z ≤ 8 → 8 - z ≤ written (low_three z)
written_of_zeros z h =
    either (ltb z 8)
    (λ e.
    let l = ltb-true z 8 e in
    omega (arith, low_three_is z (omega arith), written_is (low_three z)))
    (λ e. let l = ltb-false z 8 e in omega arith)

-- a residual fits the bytes that its code writes
pub coded_by_fits : (b : Bool) (r : ℕ) → r < 2 ^ 64 → (coded_by b r).residual < 256 ^ written (coded_by b r).code
coded_by_fits b r h = rw (coded_cost b r, coded_residual b r) (lt_of_lt_of_le (zeros_within r h) (pow_256_le (written_of_zeros _ (zeros-at_most r))))
