-- Counting the codes that name dfcm, by their top bits.
use Rattle.std.proofs.Common.{◌≡◌, ℕ, ◌+◌, ◌-◌, ◌*◌, ◌/◌, ◌%◌, ◌≤◌, List, [], ◌∷◌, ◌++◌, cond, length, get_or, take, drop, refl, sym, ap, ◌∙◌, arith, length-take-le, length-drop}
use lib.Dec.{leb}
use borrow.Author.Tests.{leb-true, leb-false}
use Rattle.std.specs.List.{sum_by, IsLastAndRest}
use Rattle.std.proofs.lemmas.List.{take-take, get_or-take, get_or_push}
use Rattle.std.proofs.lemmas.List.Sums.{sum_by-cons, sum_by_push}
use Rattle.std.proofs.Math.Seq.{get_or-drop, take-append_seam}
use Rattle.words.proofs.Tests.{either}
use Rattle.block_rules.specs.Forms.{names_dfcm}
use Rattle.block_rules.specs.Block.{halves, counted_codes}
use Rattle.block_rules.specs.Inside.{Counted}
use Rattle.block_rules.proofs.Get.{half_high, counted_none}
use Rattle.block_checking.proofs.Weighing.{weight_even, weight_odd}
use Rattle.block_tallying.specs.Tally.{dfcm_words}

-- ---- top bits

-- a code of four bits is dfcm's where its top bit is 1
top_bit : (c : ℕ) → c ≤ 15 → dfcm_words (c ∷ []) ≡ c / 8
unfolding names_dfcm
top_bit c h = either (leb 8 c) (λ e. rw e (omega (arith, leb-true 8 c e))) (λ e. rw e (omega (arith, leb-false 8 c e)))

pub both_tops : (byte : ℕ) → byte ≤ 255 → byte / 128 + byte / 8 % 2 ≡ dfcm_words (byte / 16 ∷ byte % 16 ∷ [])
both_tops byte h = omega (arith, top_bit (byte / 16) (omega arith), top_bit (byte % 16) (omega arith))

pub high_top : (byte : ℕ) → byte ≤ 255 → byte / 128 ≡ dfcm_words (byte / 16 ∷ [])
high_top byte h = omega (arith, top_bit (byte / 16) (omega arith))

-- ---- all codes

-- how much a code counts, and the two of a byte
abbrev of_code : ℕ → ℕ
of_code c = cond (names_dfcm c) 1 0

abbrev pub of_byte : ℕ → ℕ
of_byte byte = dfcm_words (byte / 16 ∷ byte % 16 ∷ [])

counted-sum : (cs : List ℕ) → dfcm_words cs ≡ sum_by of_code cs
counted-sum [] = refl
counted-sum (c ∷ cs) = omega (arith, counted-sum cs, sum_by-cons of_code c cs)

both : (byte : ℕ) → of_byte byte ≡ of_code (byte / 16) + of_code (byte % 16)
both byte = omega arith

pub none-counted : (b : List ℕ) (n : ℕ) → Counted b n → n ≡ 0 → 0 ≡ dfcm_words (counted_codes b)
none-counted b n u z = rw (counted_none b n 0 u (omega arith))

-- the last code byte stands by itself
module _ (b : List ℕ) (n : ℕ) (u : Counted b n) (k last : ℕ) (before : List ℕ) (is : k ≡ (n + 1) / 2) (e : IsLastAndRest (take k (drop 8 b)) last before) where
  -- of an even count it holds two codes
  pub last_two : (sum s : ℕ) → (n % 2 ≡ 1 → ⊥) → sum ≡ sum_by of_byte before → s ≡ of_byte last → sum + s ≡ dfcm_words (counted_codes b)
  last_two sum s even p q =
      let h : n / 2 ≡ k = omega arith in
      let whole : take (n / 2) (drop 8 b) ≡ before ++ last ∷ [] = rw h e.0 in
      omega (arith, counted-sum (counted_codes b), weight_even of_code of_byte both b n u even, ap (sum_by of_byte) whole, sum_by_push of_byte before last)

  -- of an odd count one, and the filler
  pub last_one : (sum s : ℕ) → n % 2 ≡ 1 → sum ≡ sum_by of_byte before → s ≡ dfcm_words (last / 16 ∷ []) → sum + s ≡ dfcm_words (counted_codes b)
  last_one sum s odd p q =
      let long : length before ≡ n / 2 = omega (arith, length-take-le k (drop 8 b) (omega (arith, u.codes, length-drop 8 b)), e.1) in
      let firsts : take (n / 2) (drop 8 b) ≡ before = sym (take-take (n / 2) k (drop 8 b) (omega arith)) ∙ rw (e.0, ← long) (take-append_seam before (last ∷ [])) in
      let at : last ≡ get_or b (8 + n / 2) 0 =
      sym (get_or_push before last 0 (n / 2) long) ∙ rw (← e.0) (get_or-take k (drop 8 b) (n / 2) 0 (omega arith) ∙ get_or-drop 8 b (n / 2) 0) in
      let i : 2 * (n / 2) ≡ n - 1 = omega arith in
      let code : last / 16 ≡ get_or (halves (drop 8 b)) (n - 1) 0 = rw i at (half_high b (n / 2) last at) in
      omega (arith, q, rw (firsts, ← code) at (weight_odd of_code of_byte both b n u odd), counted-sum (counted_codes b))
