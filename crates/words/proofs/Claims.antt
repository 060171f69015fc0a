-- What the tools on words promise beyond their contracts.
use Rattle.std.proofs.Common.{◌≡◌, ℕ, ◌-◌, ◌^◌, ◌<◌, ◌≤◌, ◌↔◌, lt_of_lt_of_le, arith}
use lib.Count.{count_leading_zeros}
use Rattle.words.specs.Words.{shifted_right, xor, zero_bytes}
use Rattle.words.proofs.Zeros.{zeros_within, zeros_of_fit, pow_256_le, bits_within, bits_of_fit}
use Rattle.words.proofs.Xor.{xor-word, same_above, none_above}

-- The leading zero bytes are what their name says: the top k of a word's eight bytes are all zero just where k is at most `zero_bytes`.
pub top_bytes_are_zero : (r k : ℕ) → r < 2 ^ 64 → k ≤ 8 → (k ≤ zero_bytes r) ↔ (r < 256 ^ (8 - k))
top_bytes_are_zero r k w l = (
  (λ h. lt_of_lt_of_le (zeros_within r w) (pow_256_le (omega arith))),
  (λ h. omega (arith, zeros_of_fit r (8 - k) w h)),
)

-- The leading zero bits of v xor p are the top bits that v and p share: their top k bits are the same just where k is at most that number.
pub top_bits_are_shared : (v p k : ℕ) → v < 2 ^ 64 → p < 2 ^ 64 → k ≤ 64 → (k ≤ count_leading_zeros 64 (xor v p)) ↔ (shifted_right (64 - k) v ≡ shifted_right (64 - k) p)
unfolding shifted_right
top_bits_are_shared v p k h l few =
    let wide = xor-word v p h l in (
      (λ more. same_above (64 - k) v p (bits_within (xor v p) k wide more)),
      (λ same. bits_of_fit (xor v p) k wide few (none_above (64 - k) v p same)),
    )
