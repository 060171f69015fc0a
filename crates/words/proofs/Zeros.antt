-- Leading zero bits, and leading zero bytes. Elsewhere only the proof of `zero_bytes` and the claims open `zero_bytes`.
use Rattle.std.proofs.Common.{◌≡◌, ℕ, zero, suc, ◌+◌, ◌-◌, ◌*◌, ◌/◌, ◌^◌, ◌<◌, ◌≤◌, ltb, refl, lt_of_lt_of_le, lt_of_le_of_lt, pow-suc, lt_of_not-le, not-le_of_lt, arith, pow_mono, pow-add, ltb-false, ltb-true}
use native.Mathlib.Nat.{pow-le-pow_right}
use lib.Count.{count_leading_zeros, leading_le, leading_top, leading_length, leading_of_zero}
use Rattle.words.specs.Words.{zero_bytes}
use Rattle.words.proofs.Tests.{either}

-- ---- bits

-- a word fits the bits below its leading zero bits
pub bits_within : (r k : ℕ) → r < 2 ^ 64 → k ≤ count_leading_zeros 64 r → r < 2 ^ (64 - k)
bits_within r k h l =
    let t = leading_length 64 r h in
    lt_of_lt_of_le t.2 (pow_mono {i = t.0} {j = 64 - k} (omega (arith, t.1)))

-- and what fits has the rest as leading zero bits
pub bits_of_fit : (r k : ℕ) → r < 2 ^ 64 → k ≤ 64 → r < 2 ^ (64 - k) → k ≤ count_leading_zeros 64 r
bits_of_fit r k h l f =
    either (ltb 0 r)
    (λ p.
    let t = leading_top 64 r (ltb-true 0 r p) h in
    let j : t.0 < 64 - k = lt_of_not-le (λ n. not-le_of_lt (lt_of_le_of_lt t.2 f) (pow_mono {i = 64 - k} {j = t.0} n)) in
    omega (arith, t.1))
    (λ p.
    let none : r ≡ 0 = omega (arith, ltb-false 0 r p) in
    rw none (omega (arith, leading_of_zero 64)))

-- a word that isn't zero has a bit that isn't
pub bits_some : (r : ℕ) → r < 2 ^ 64 → 0 < r → count_leading_zeros 64 r < 64
bits_some r h p = omega (arith, (leading_top 64 r p h).1)

-- ---- bytes

-- a byte is eight bits
pub pow_256 : (k : ℕ) → 256 ^ k ≡ 2 ^ (8 * k)
pow_256 zero = refl
pow_256 (suc k) =
    let e : 8 * suc k ≡ 8 * k + 8 = omega arith in
    rw (e, pow-add, pow-suc 256 k, pow_256 k)

pub pow_256_le : {a b : ℕ} → a ≤ b → 256 ^ a ≤ 256 ^ b
pow_256_le l = pow-le-pow_right {n = 256} (omega arith) l

pub zeros-at_most : (r : ℕ) → zero_bytes r ≤ 8
unfolding zero_bytes
zeros-at_most r = omega (arith, leading_le 64 r)

pub zeros_of_zero : (r : ℕ) → r ≡ 0 → zero_bytes r ≡ 8
unfolding zero_bytes
zeros_of_zero r e = rw (e, leading_of_zero 64)

-- a word fits the bytes below its leading zero bytes
pub zeros_within : (r : ℕ) → r < 2 ^ 64 → r < 256 ^ (8 - zero_bytes r)
unfolding zero_bytes
zeros_within r h =
    let z = count_leading_zeros 64 r / 8 in
    let e : 8 * (8 - z) ≡ 64 - 8 * z = omega (arith, leading_le 64 r) in
    rw (pow_256, e) (bits_within r (8 * z) h (omega arith))

-- and what fits w bytes has the rest as leading zero bytes
pub zeros_of_fit : (r w : ℕ) → r < 2 ^ 64 → r < 256 ^ w → 8 - w ≤ zero_bytes r
unfolding zero_bytes
zeros_of_fit r w l h =
    either (ltb w 8)
    (λ p.
    let few = ltb-true w 8 p in
    let e : 64 - (64 - 8 * w) ≡ 8 * w = omega arith in
    omega (arith, bits_of_fit r (64 - 8 * w) l (omega arith) (rw (e, ← (pow_256 w)) h)))
    (λ p. omega (arith, ltb-false w 8 p))

-- a word that isn't zero has a byte that isn't
pub zeros-some : (r : ℕ) → r < 2 ^ 64 → 0 < r → zero_bytes r ≤ 7
unfolding zero_bytes
zeros-some r h p = omega (arith, bits_some r h p)

-- no fewer leading zero bits are no fewer leading zero bytes
pub zeros_by_bits : (a b : ℕ) → count_leading_zeros 64 a ≤ count_leading_zeros 64 b → zero_bytes a ≤ zero_bytes b
unfolding zero_bytes
zeros_by_bits a b h = omega arith
