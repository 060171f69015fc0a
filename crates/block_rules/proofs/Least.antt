-- The code of a residual writes least of those that write enough.
use mathlib.Core.Path.{◌≡◌}
use Prim.Native.Nat.{ℕ, ◌+◌, ◌-◌, ◌/◌, ◌%◌, ◌≤◌}
use native.Mathlib.Omega.{arith}
use lib.Dec.{ltb}
use borrow.Author.Tests.{ltb-true, ltb-false}
use Rattle.words.proofs.Tests.{either}
use Rattle.block_rules.specs.Codes.{low_three, written}
use Rattle.block_rules.proofs.Codes.{low_three_is, low_three_of_zero, written_is, fewer-written}

-- of the codes that write enough for z zero bytes, the code made for z writes least
pub least-enough : (z c : ℕ) → z ≤ 8 → 8 - z ≤ written c → written (low_three z) ≤ written c
least-enough z c h l =
    either (ltb z 8)
    (λ e.
    let some : z ≤ 7 = omega (arith, ltb-true z 8 e) in
    let b = low_three_is z some in
    let s : low_three z % 8 ≡ low_three z = whole _ z some b in
    fewer-written c (low_three z) (rw s (no_higher (c % 8) (low_three z) z some b (omega (arith, written_is c)))))
    (λ e. omega (arith, low_three_of_zero z (omega (arith, ltb-false z 8 e)), written_is (low_three z)))
  where
    whole : (k z : ℕ) → z ≤ 7 → k + z / 4 ≡ z → k % 8 ≡ k
    whole k z h e = omega arith

    no_higher : (l k z : ℕ) → z ≤ 7 → k + z / 4 ≡ z → l + l / 4 ≤ z → l ≤ k
    no_higher l k z h e n = omega arith
