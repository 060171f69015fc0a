-- A hash settles: equal updates shift the old hash out. One law over the shift and over t.
use mathlib.Core.Path.{◌≡◌, sym, ap, ◌∙◌}
use Prim.Native.Nat.{ℕ, zero, suc, ◌+◌, ◌-◌, ◌*◌, ◌%◌, min, ◌^◌, ◌≤◌, ◌<◌}
use native.Mathlib.Omega.{arith}
use native.Mathlib.Nat.{mod-eq_of_lt, mod-lt, mul-mod_left, mul-suc}
use lib.Bits.{bit_xor, xor_mod}
use lib.Pow.{pow_pos, mod-pow-add, mod-mod-pow, shl-shr}
use Rattle.words.specs.Words.{shifted_left, low_bits, xor}
use Rattle.block_rules.specs.Room.{times, Settles}

-- the new hash after w: (old hash h shifted left by a) xor w, reduced to its low t bits
unfoldable pub update : ℕ → ℕ → ℕ → ℕ → ℕ
update a t w h = low_bits t (xor (shifted_left a h) w)

update-small : (a t w h : ℕ) → update a t w h < 2 ^ t
unfolding update low_bits
update-small a t w h = mod-lt _ (pow_pos t)

low_of_low : (s u x : ℕ) → s ≤ u → x % 2 ^ u % 2 ^ s ≡ x % 2 ^ s
low_of_low s u x h =
    let e : u ≡ u - s + s = omega arith in
    ap (λ (k : ℕ). x % 2 ^ k % 2 ^ s) e ∙ mod-mod-pow x (u - s) s

-- the low bits of a shifted number are low bits of the number
shifted_low : (a s h : ℕ) → (h * 2 ^ a) % 2 ^ (s + a) ≡ (h % 2 ^ s) * 2 ^ a
shifted_low a s h = mod-pow-add (h * 2 ^ a) s a ∙ rw (shl-shr h a, mul-mod_left h (2 ^ a)) (omega arith)

-- hashes that agree in their low s bits agree after an update in a bits more, up to t
agree_more : (a t w s u h g : ℕ) → u ≤ s + a → u ≤ t → h % 2 ^ s ≡ g % 2 ^ s → update a t w h % 2 ^ u ≡ update a t w g % 2 ^ u
unfolding update low_bits xor shifted_left
agree_more a t w s u h g l k e =
    let low : (x : ℕ) → bit_xor (x * 2 ^ a) w % 2 ^ t % 2 ^ u ≡ bit_xor ((x % 2 ^ s) * 2 ^ a) (w % 2 ^ (s + a)) % 2 ^ u =
    λ x.
    low_of_low u t _ k
    ∙ sym (low_of_low u (s + a) _ l)
    ∙ ap (λ (y : ℕ). y % 2 ^ u) (xor_mod (x * 2 ^ a) w (s + a) ∙ ap (λ (y : ℕ). bit_xor y (w % 2 ^ (s + a))) (shifted_low a s x))
    in
    low h ∙ ap (λ (y : ℕ). bit_xor (y * 2 ^ a) (w % 2 ^ (s + a)) % 2 ^ u) e ∙ sym (low g)

-- hashes that agree in their low s bits are equal after as many updates as shift the other bits out
agree_all : (a t w k s h g : ℕ) → t ≤ s + a * k → h < 2 ^ t → g < 2 ^ t → h % 2 ^ s ≡ g % 2 ^ s → times k (update a t w) h ≡ times k (update a t w) g
agree_all a t w zero s h g l p q e =
    sym (mod-eq_of_lt p) ∙ sym (low_of_low t s h (omega arith)) ∙ ap (λ (x : ℕ). x % 2 ^ t) e ∙ low_of_low t s g (omega arith) ∙ mod-eq_of_lt q
agree_all a t w (suc k) s h g l p q e =
    agree_all a t w k (min (s + a) t) _ _ (omega (arith, mul-suc a k)) (update-small a t w h) (update-small a t w g)
    (agree_more a t w s (min (s + a) t) h g (omega arith) (omega arith) e)

-- as many equal updates as shift the old bits out settle a hash
pub settles : (a t w k : ℕ) → t ≤ a * k → Settles (update a t w) t k
settles a t w k l =
    let f : (h g : ℕ) → h < 2 ^ t → g < 2 ^ t → times k (update a t w) h ≡ times k (update a t w) g = λ h g p q. agree_all a t w k 0 h g (omega arith) p q (omega arith) in
    record { forgets = f; stays = λ h p. f _ _ (update-small a t w h) p }
