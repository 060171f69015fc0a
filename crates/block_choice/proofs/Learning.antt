-- What the code of the predictors computes is what the definitions say.
use mathlib.Core.Path.{◌≡◌, ap, ◌∙◌}
use mathlib.Core.List.{List}
use Prim.Native.Nat.{ℕ, ◌+◌, ◌-◌, ◌*◌, ◌%◌, ◌^◌, ◌≤◌, ◌<◌}
use native.Mathlib.Omega.{arith}
use lib.Bits.{bit_and, bit_xor, and_mask}
use lib.ListN.{length, set}
use lib.Pow.{pow_mono, shl_exact}
use Rattle.words.specs.Words.{sub64, shifted_left, shifted_right, low_bits, xor}
use Rattle.block_rules.specs.Predictors.{Memory, difference, next_fcm_hash, next_dfcm_hash, learn}
use Rattle.block_rules.specs.Numbers.{t_of}
use Rattle.block_rules.specs.Inside.{memory}
use Rattle.block_rules.specs.declared.Carry.{Carry}
use Rattle.block_choice.specs.Inside.{Masked, Becomes}
use Rattle.block_choice.specs.declared.predict.Predictors.{Predictors}

-- shifted by a, with w, under the mask
pub hashed : (a mask h w : ℕ) → a ≤ 48 → Masked mask h → bit_and (bit_xor ((h * 2 ^ a) % 2 ^ 64) w) mask ≡ low_bits (t_of (mask + 1)) (xor (shifted_left a h) w)
unfolding low_bits xor shifted_left
hashed a mask h w l s =
    let t = t_of (mask + 1) in
    let b : h < 2 ^ 16 = omega (arith, s.power, s.below, pow_mono {i = t} {j = 16} s.small) in
    let e : mask ≡ 2 ^ t - 1 = omega (arith, s.power) in
    ap (λ (k : ℕ). bit_and (bit_xor ((h * 2 ^ a) % 2 ^ 64) w) k) e
    ∙ and_mask _ t
    ∙ ap (λ (k : ℕ). bit_xor k w % 2 ^ t) (shl_exact 16 a 64 b (omega arith))

pub learnt_of : (f d : List ℕ) (c : Carry) (v mask s hf hd : ℕ)
    → mask + 1 ≡ length f → s ≡ sub64 v c.last → hf ≡ low_bits (t_of (mask + 1)) (xor (shifted_left 6 c.fcm) (shifted_right 48 v))
    → hd ≡ low_bits (t_of (mask + 1)) (xor (shifted_left 2 c.dfcm) (shifted_right 40 s))
    → memory (set f c.fcm v) (set d c.dfcm s) (record { fcm = hf; dfcm = hd; last = v }) ≡ learn (t_of (length f)) (memory f d c) v
unfolding learn difference next_fcm_hash next_dfcm_hash
learnt_of f d c v mask s hf hd e p q r = cc

-- what predictors become after two steps
pub becomes-then : (p q r : Predictors) (m n : Memory) → Becomes p m q → Becomes q n r → Becomes p n r
becomes-then p q r m n a b =
    record { same_fcm = b.same_fcm ∙ a.same_fcm; same_dfcm = b.same_dfcm ∙ a.same_dfcm; same_size = b.same_size ∙ a.same_size; able = b.able; holds = b.holds }
