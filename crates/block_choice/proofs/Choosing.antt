-- The choice: what is taken of the residuals f by fcm and d by dfcm, neither of them 0, whichever branch was taken.
use mathlib.Core.Path.{◌≡◌}
use Prim.Native.Nat.{ℕ, ◌+◌, ◌^◌, ◌≤◌, ◌<◌}
use native.Mathlib.Omega.{arith}
use lib.Count.{count_leading_zeros}
use Rattle.words.specs.Words.{zero_bytes}
use Rattle.words.proofs.Zeros.{zeros-some}
use Rattle.block_rules.specs.Codes.{dfcm_chosen, low_three, coded_by, chosen}
use Rattle.block_rules.proofs.Choices.{chosen-dfcm, chosen-fcm}
use Rattle.block_rules.proofs.Choices.{more_bits, no_more_bits}

-- the top bit of its code, its leading zero bytes, and itself
pub record Taken (f d top zeros residual : ℕ) : Type 0 where
  pub bit : top ≤ 8
  pub some : zeros ≤ 7
  pub coded : record { code = top + low_three zeros; residual = residual } ≡ chosen dfcm_chosen f d

module _ {f d top zeros residual : ℕ} where
  pub taken_dfcm : d < 2 ^ 64 → 0 < d → count_leading_zeros 64 f < count_leading_zeros 64 d → top ≡ 8 → residual ≡ d → zeros ≡ zero_bytes d → Taken f d top zeros residual
  unfolding coded_by
  taken_dfcm h p more b r z =
      record {
        bit = omega arith;
        some = omega (arith, zeros-some d h p);
        coded = chosen-dfcm dfcm_chosen f d _ (more_bits f d more) (rw (b, r, z));
      }

  pub taken_fcm : f < 2 ^ 64 → 0 < f → count_leading_zeros 64 d ≤ count_leading_zeros 64 f → top ≡ 0 → residual ≡ f → zeros ≡ zero_bytes f → Taken f d top zeros residual
  unfolding coded_by
  taken_fcm h p no_more b r z =
      record {
        bit = omega arith;
        some = omega (arith, zeros-some f h p);
        coded = chosen-fcm dfcm_chosen f d _ (no_more_bits f d no_more) (rw (b, r, z));
      }
