-- Xor undoes itself and keeps a word a word.
use Rattle.std.proofs.Common.{◌≡◌, ℕ, zero, suc, ◌+◌, ◌*◌, ◌/◌, ◌%◌, ◌^◌, ◌<◌, sym, refl, ap, ◌∙◌, ap₂, div-add-mod', arith}
use native.Mathlib.Nat.{div-eq_of_lt, lt-div-mul-add, one-le-pow}
use lib.Arith.{bin_ind}
use lib.Bits.{bit_xor, differ, xor_step, xor_self, xor_shr, xor_mod, xor_lt, xor_zero_l}
use Rattle.words.specs.Words.{xor}

digit : (x y : ℕ) → x < 2 → y < 2 → differ (bit_xor x y) y ≡ x
digit zero zero h l = refl
digit zero (suc zero) h l = refl
digit (suc zero) zero h l = refl
digit (suc zero) (suc zero) h l = refl
digit zero (suc (suc y)) h l = absurd (omega arith)
digit (suc zero) (suc (suc y)) h l = absurd (omega arith)
digit (suc (suc x)) y h l = absurd (omega arith)

cancel : (a b : ℕ) → bit_xor (bit_xor a b) b ≡ a
cancel a =
    bin_ind (λ (n : ℕ). (b : ℕ) → bit_xor (bit_xor n b) b ≡ n) (λ b. xor_self b)
    (λ n ih b.
    xor_step (bit_xor n b) b
    ∙ ap₂ (λ (x y : ℕ). x * 2 + y)
    (ap (λ (k : ℕ). bit_xor k (b / 2)) (xor_shr n b 1) ∙ ih (b / 2))
    (ap (λ (k : ℕ). differ k (b % 2)) (xor_mod n b 1) ∙ digit (n % 2) (b % 2) (omega arith) (omega arith))
    ∙ div-add-mod' n 2)
    a

pub xor_back : (v p : ℕ) → xor (xor v p) p ≡ v
unfolding xor
xor_back v p = cancel v p

pub xor_of : (r p v : ℕ) → xor r p ≡ v → r ≡ xor v p
xor_of r p v e = sym (xor_back r p) ∙ ap (λ (k : ℕ). xor k p) e

pub xor-none : (p : ℕ) → xor 0 p ≡ p
unfolding xor
xor-none p = xor_zero_l p

-- it is 0 just where both are the same
pub xor_same : (v p : ℕ) → v ≡ p → xor v p ≡ 0
unfolding xor
xor_same v p e = rw e (xor_self p)

pub xor_differs : (v p : ℕ) → (v ≡ p → ⊥) → xor v p ≡ 0 → ⊥
xor_differs v p h e = h (xor_of v p 0 e ∙ xor-none p)

pub xor-word : (a b : ℕ) → a < 2 ^ 64 → b < 2 ^ 64 → xor a b < 2 ^ 64
unfolding xor
xor-word a b h l = xor_lt 64 a b h l

-- ---- the bits above the low n

-- they are the same where the xor has none there
pub same_above : (n v p : ℕ) → xor v p < 2 ^ n → v / 2 ^ n ≡ p / 2 ^ n
unfolding xor
same_above n v p h = xor_of (v / 2 ^ n) (p / 2 ^ n) 0 (sym (xor_shr v p n) ∙ div-eq_of_lt h) ∙ xor-none (p / 2 ^ n)

pub none_above : (n v p : ℕ) → v / 2 ^ n ≡ p / 2 ^ n → xor v p < 2 ^ n
unfolding xor
none_above n v p e =
    let none : bit_xor v p / 2 ^ n ≡ 0 = xor_shr v p n ∙ ap (λ (k : ℕ). bit_xor k (p / 2 ^ n)) e ∙ xor_self (p / 2 ^ n) in
    omega (arith, rw none at (lt-div-mul-add {a = bit_xor v p} {b = 2 ^ n} (one-le-pow n 2 (omega arith))))
