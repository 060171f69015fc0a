-- Padded codes: when a code is padded, that the code of a residual never is, and what a block without padded codes tells.
use mathlib.Core.Path.{◌≡◌, refl, sym, ◌∙◌}
use mathlib.Core.Bool.{true, false, cond, ◌&&◌, false≢true}
use mathlib.Core.List.{List, [], ◌∷◌}
use Prim.Native.Nat.{ℕ, zero, suc, ◌+◌, ◌-◌, ◌*◌, ◌/◌, ◌%◌, ◌^◌, ◌≤◌, ◌<◌}
use native.Mathlib.Omega.{arith}
use native.Mathlib.Nat.{pow-suc, div-lt_iff_lt-mul, lt_of_lt_of_le, lt_of_not-le, not-le_of_lt}
use lib.Dec.{ltb, eqb}
use lib.ListN.{get_or}
use borrow.Author.Tests.{ltb-true, ltb-false, le-ltb, eq-eqb, ne_eqb}
use Rattle.words.specs.Words.{zero_bytes}
use Rattle.words.specs.Bytes.{low_bytes}
use Rattle.words.proofs.Each.{Each, none, more}
use Rattle.words.proofs.Tests.{either, same_test}
use Rattle.words.proofs.Zeros.{zeros-at_most, zeros_within, zeros_of_fit, pow_256_le}
use Rattle.block_rules.specs.Codes.{low_three, written, residual_bytes, top_byte, second_byte, padded}
use Rattle.block_rules.specs.Block.{none_padded}
use Rattle.block_rules.specs.declared.Coded.{Coded}
use Rattle.block_rules.proofs.Codes.{low_three_is, low_three_of_zero, written_is, fits_word}

-- ---- the bytes on top

-- the top one of suc k bytes is 0 just where k bytes are enough
top_zero : (k r : ℕ) → r < 256 ^ suc k → eqb (get_or (low_bytes (suc k) r) k 0) 0 ≡ ltb r (256 ^ k)
top_zero zero r h =
    either (ltb r 1) (λ e. eq-eqb (r % 256) 0 (omega (arith, ltb-true r 1 e)) ∙ sym e) (λ e. ne_eqb (r % 256) 0 (λ z. omega (arith, ltb-false r 1 e)) ∙ sym e)
top_zero (suc k) r h =
    let p : 0 < 256 = omega arith in
    let l : r / 256 < 256 ^ suc k = (div-lt_iff_lt-mul {k = 256} {x = r} {y = 256 ^ suc k} p).1 (rw (pow-suc 256 (suc k)) at h) in
    top_zero k (r / 256) l
    ∙ rw (pow-suc 256 k) (same_test (r / 256) (256 ^ k) r (256 ^ k * 256) (λ q. (div-lt_iff_lt-mul {k = 256} {x = r} {y = 256 ^ k} p).0 q) (λ q. (div-lt_iff_lt-mul {k = 256} {x = r} {y = 256 ^ k} p).1 q))

-- so are the two top ones of five, just where three are enough
two_zero : (r : ℕ) → r < 256 ^ 5 → (eqb (get_or (low_bytes 5 r) 4 0) 0 && eqb (get_or (low_bytes 5 r) 3 0) 0) ≡ ltb r (256 ^ 3)
two_zero r h =
    either (ltb r (256 ^ 4)) (λ e. rw (top_zero 4 r h, e) (top_zero 3 r (ltb-true r (256 ^ 4) e)))
    (λ e. rw (top_zero 4 r h, e) (sym (le-ltb r (256 ^ 3) (omega (arith, ltb-false r (256 ^ 4) e)))))

-- ---- a code and its residual, which fits

-- the bytes that low bits write
abbrev pub bytes : ℕ → ℕ
bytes l = get_or (8 ∷ 7 ∷ 6 ∷ 5 ∷ 3 ∷ 2 ∷ 1 ∷ 0 ∷ []) l 0

module _ (c : Coded) (fits : c.residual < 256 ^ written c.code) where
  -- it is padded just where the code of the next low bits writes enough
  pub padded-is : padded c ≡ (ltb (c.code % 8) 7 && ltb c.residual (256 ^ written (c.code % 8 + 1)))
  unfolding padded top_byte second_byte residual_bytes written
  padded-is = by_low_bits (c.code % 8) c.residual (omega arith) fits
    where
      by_low_bits : (l r : ℕ) → l ≤ 7 → r < 256 ^ bytes l
          → (ltb l 7 && cond (eqb l 3) (eqb (get_or (low_bytes (bytes l) r) (bytes l - 1) 0) 0 && eqb (get_or (low_bytes (bytes l) r) (bytes l - 2) 0) 0) (eqb (get_or (low_bytes (bytes l) r) (bytes l - 1) 0) 0))
          ≡ (ltb l 7 && ltb r (256 ^ bytes ((l + 1) % 8)))
      by_low_bits zero r s h = top_zero 7 r h
      by_low_bits (suc zero) r s h = top_zero 6 r h
      by_low_bits (suc (suc zero)) r s h = top_zero 5 r h
      by_low_bits (suc (suc (suc zero))) r s h = two_zero r h
      by_low_bits (suc (suc (suc (suc zero)))) r s h = top_zero 2 r h
      by_low_bits (suc (suc (suc (suc (suc zero))))) r s h = top_zero 1 r h
      by_low_bits (suc (suc (suc (suc (suc (suc zero)))))) r s h = top_zero 0 r h
      by_low_bits (suc (suc (suc (suc (suc (suc (suc zero))))))) r s h = refl
      by_low_bits (suc (suc (suc (suc (suc (suc (suc (suc l)))))))) r s h = absurd (omega arith)

  -- a code that is not padded has the low bits of its residual's own zero bytes
  pub tight_low : padded c ≡ false → c.code % 8 ≡ low_three (zero_bytes c.residual)
  tight_low e =
      let r = c.residual in
      let l = c.code % 8 in
      let z = zero_bytes r in
      let w = fits_word r c.code fits in
      let least = zeros_of_fit r (written c.code) w fits in
      either (ltb l 7)
      (λ q.
      let few = ltb-true l 7 q in
      let over = ltb-false r (256 ^ written (l + 1)) (rw q at (sym padded-is ∙ e)) in
      let most : z < 8 - written (l + 1) = lt_of_not-le (λ n. not-le_of_lt (lt_of_lt_of_le (zeros_within r w) (pow_256_le (omega (arith, n)))) over) in
      let next : (l + 1) % 8 ≡ l + 1 = omega arith in
      between l z (low_three z) few (omega (arith, least, written_is c.code)) (omega (arith, most, rw next at (written_is (l + 1)))) (low_three_is z (omega (arith, most))))
      (λ q.
      let all : l ≡ 7 = omega (arith, ltb-false l 7 q) in
      rw (low_three_of_zero z (omega (arith, least, written_is c.code, zeros-at_most r))) all)
    where
      between : (l z k : ℕ) → l < 7 → l + l / 4 ≤ z → z ≤ l + (l + 1) / 4 → k + z / 4 ≡ z → l ≡ k
      between l z k few least most b = omega arith

  -- and one that has them is not padded
  pub low_tight : c.code % 8 ≡ low_three (zero_bytes c.residual) → padded c ≡ false
  low_tight e =
      let r = c.residual in
      let l = c.code % 8 in
      let z = zero_bytes r in
      let w = fits_word r c.code fits in
      padded-is
      ∙ either (ltb l 7)
      (λ q.
      let few = ltb-true l 7 q in
      let next : (l + 1) % 8 ≡ l + 1 = omega arith in
      let some : z ≤ 7 = either (ltb z 8) (λ i. omega (arith, ltb-true z 8 i)) (λ i. absurd (omega (arith, e, low_three_of_zero z (omega (arith, ltb-false z 8 i, zeros-at_most r))))) in
      rw q
      (either (ltb r (256 ^ written (l + 1)))
      (λ f. absurd (beyond l z (written (l + 1)) few some (zeros_of_fit r (written (l + 1)) w (ltb-true _ _ f)) (rw next at (written_is (l + 1))) (rw (← e) at (low_three_is z some))))
      (λ f. f)))
      (λ q. rw q)
    where
      beyond : (l z x : ℕ) → l < 7 → z ≤ 7 → 8 - x ≤ z → x + (l + 1) + (l + 1) / 4 ≡ 8 → l + z / 4 ≡ z → ⊥
      beyond l z x few some least q b = omega arith

-- ---- many codes

-- codes that are not padded
abbrev pub Tight : List Coded → Type 0
Tight cs = Each (λ (c : Coded). padded c ≡ false) cs

pub none-padded : {cs : List Coded} → Tight cs → none_padded cs ≡ true
none-padded none = refl
none-padded (more h f) = rw (h, none-padded f)

pub all-tight : (cs : List Coded) → none_padded cs ≡ true → Tight cs
all-tight [] e = none
all-tight (c ∷ cs) e =
    either (padded c) (λ p. absurd (false≢true (rw p at e))) (λ p. more p (all-tight cs (rw p at e)))
