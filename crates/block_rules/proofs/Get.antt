-- Reading a block: its halves, its counted codes, its words.
use mathlib.Core.Path.{◌≡◌, refl, sym, ap, ◌∙◌}
use mathlib.Core.List.{List, [], ◌∷◌}
use mathlib.Core.Bool.{cond}
use Prim.Native.Nat.{ℕ, zero, suc, ◌+◌, ◌-◌, ◌*◌, ◌/◌, ◌%◌, ◌≤◌, ◌<◌}
use native.Mathlib.Omega.{arith}
use native.Mathlib.Numerals.{add-one}
use lib.Dec.{eqb}
use lib.ListN.{length, get_or, take, drop, length-take, length-drop, drop_of_length-le}
use lib.Seq.{drop-cons, drop-drop, get_or-drop, get_or-take}
use borrow.Author.Tests.{eq-eqb, ne_eqb}
use Rattle.block_rules.specs.Predictors.{Memory, learn, cleared}
use Rattle.block_rules.specs.Codes.{written, decoded_word, decoded_words}
use Rattle.block_rules.specs.Block.{count, halves, counted_codes, residual_length, with_residuals, residuals_at, coded_in, words_in}
use Rattle.block_rules.specs.Inside.{Counted, coded_at}
use Rattle.block_rules.specs.declared.Coded.{Coded}
use Rattle.block_rules.proofs.Codes.{written_small}

-- ---- halves

half_at : (bs : List ℕ) (i : ℕ) → get_or (halves bs) i 0 ≡ cond (eqb (i % 2) 0) (get_or bs (i / 2) 0 / 16) (get_or bs (i / 2) 0 % 16)
half_at [] i = none (i % 2)
  where
    none : (k : ℕ) → ◌≡◌ {A = ℕ} 0 (cond (eqb k 0) 0 0)
    none zero = refl
    none (suc k) = rw (ne_eqb (suc k) 0 (λ e. omega arith))
half_at (b ∷ bs) zero = refl
half_at (b ∷ bs) (suc zero) = refl
half_at (b ∷ bs) (suc (suc i)) =
    let e : suc (suc i) / 2 ≡ suc (i / 2) = omega arith in
    let f : suc (suc i) % 2 ≡ i % 2 = omega arith in
    rw (e, f) (half_at bs i)

pub half_even : (b : List ℕ) (i : ℕ) → i % 2 ≡ 0 → get_or b (8 + i / 2) 0 / 16 ≡ get_or (halves (drop 8 b)) i 0
half_even b i h = sym (half_at (drop 8 b) i ∙ rw (eq-eqb (i % 2) 0 h, get_or-drop 8 b (i / 2) 0))

pub half_odd : (b : List ℕ) (i : ℕ) → (i % 2 ≡ 0 → ⊥) → get_or b (8 + i / 2) 0 % 16 ≡ get_or (halves (drop 8 b)) i 0
half_odd b i h = sym (half_at (drop 8 b) i ∙ rw (ne_eqb (i % 2) 0 h, get_or-drop 8 b (i / 2) 0))

-- the two halves of the j-th code byte
pub half_high : (b : List ℕ) (j byte : ℕ) → byte ≡ get_or b (8 + j) 0 → byte / 16 ≡ get_or (halves (drop 8 b)) (2 * j) 0
half_high b j byte e =
    let i : 2 * j / 2 ≡ j = omega arith in
    rw e (rw i at (half_even b (2 * j) (omega arith)))

half_low : (b : List ℕ) (j byte : ℕ) → byte ≡ get_or b (8 + j) 0 → byte % 16 ≡ get_or (halves (drop 8 b)) (2 * j + 1) 0
half_low b j byte e =
    let i : (2 * j + 1) / 2 ≡ j = omega arith in
    rw e (rw i at (half_odd b (2 * j + 1) (λ z. omega arith)))

-- the code bytes that hold two codes each, as a slice of the block, and the two halves of one
module _ (b : List ℕ) (n : ℕ) (c : Counted b n) where
  pub pairs_end : length (take (8 + n / 2 - 8) (drop 8 b)) ≡ n / 2
  pairs_end = simp (length-take, length-drop) (omega (arith, c.codes))

  module _ (j byte : ℕ) (h : j < length (take (8 + n / 2 - 8) (drop 8 b))) (is : byte ≡ get_or (take (8 + n / 2 - 8) (drop 8 b)) j 0) where
    at : byte ≡ get_or b (8 + j) 0
    at = is ∙ get_or-take (8 + n / 2 - 8) (drop 8 b) j 0 (omega (arith, h, pairs_end)) ∙ get_or-drop 8 b j 0

    pub pairs_high : byte / 16 ≡ get_or (halves (drop 8 b)) (2 * j) 0
    pairs_high = half_high b j byte at

    pub pairs_low : byte % 16 ≡ get_or (halves (drop 8 b)) (2 * j + 1) 0
    pairs_low = half_low b j byte at

length-halves : (bs : List ℕ) → length (halves bs) ≡ 2 * length bs
length-halves [] = refl
length-halves (b ∷ bs) = omega (arith, length-halves bs)

-- ---- the counted codes

pub length-counted : (b : List ℕ) (n : ℕ) → Counted b n → length (counted_codes b) ≡ n
unfolding counted_codes
length-counted b n c = simp (length-take, length-halves, length-drop) (omega (arith, c.count, c.codes))

-- the next code
pub counted_next : (b : List ℕ) (n i : ℕ) → Counted b n → i < n → drop i (counted_codes b) ≡ get_or (halves (drop 8 b)) i 0 ∷ drop (i + 1) (counted_codes b)
unfolding counted_codes
counted_next b n i c h =
    let l : i < length (take (count b) (halves (drop 8 b))) = omega (arith, length-counted b n c) in
    drop-cons (take (count b) (halves (drop 8 b))) i 0 l
    ∙ rw (add-one i, get_or-take (count b) (halves (drop 8 b)) i 0 (omega (arith, c.count)))

pub counted_none : (b : List ℕ) (n i : ℕ) → Counted b n → n ≤ i → drop i (counted_codes b) ≡ []
counted_none b n i c h = drop_of_length-le (counted_codes b) {i = i} (omega (arith, length-counted b n c))

cost_at_most : (cs : List ℕ) → residual_length cs ≤ 8 * length cs
cost_at_most [] = omega arith
cost_at_most (c ∷ cs) = omega (arith, cost_at_most cs, written_small c)

pub counted_cost : (b : List ℕ) (n : ℕ) → Counted b n → residual_length (counted_codes b) ≤ 8 * n
counted_cost b n c = omega (arith, cost_at_most (counted_codes b), length-counted b n c)

length_with : (cs bs : List ℕ) → length (with_residuals cs bs) ≡ length cs
length_with [] bs = refl
length_with (c ∷ cs) bs = ap suc (length_with cs (drop (written c) bs))

length_decoded : (t : ℕ) (m : Memory) (cs : List Coded) → length (decoded_words t m cs) ≡ length cs
length_decoded t m [] = refl
length_decoded t m (c ∷ cs) = ap suc (length_decoded t (learn t m (decoded_word m c)) cs)

-- a block holds as many coded words as it counts, and reads as many words
pub length_in_lem : (b : List ℕ) (n : ℕ) → Counted b n → length (coded_in b) ≡ n
unfolding coded_in
length_in_lem b n c = length_with (counted_codes b) (drop (residuals_at (count b)) b) ∙ length-counted b n c

pub length-words : (t : ℕ) (b : List ℕ) (n : ℕ) → Counted b n → length (words_in t b) ≡ n
unfolding words_in
length-words t b n c = length_decoded t (cleared t) (coded_in b) ∙ length_in_lem b n c

-- ---- from a code and a place on

-- the codes and residuals from code i and the byte at a place on
abbrev pub rest : List ℕ → ℕ → ℕ → List Coded
rest b i at = with_residuals (drop i (counted_codes b)) (drop at b)

module _ (b : List ℕ) (n i at code : ℕ) (c : Counted b n) (h : i < n) (e : code ≡ get_or (halves (drop 8 b)) i 0) where
  code-next : drop i (counted_codes b) ≡ code ∷ drop (i + 1) (counted_codes b)
  code-next = counted_next b n i c h ∙ rw e

  -- the next code with its residual, and what is behind them
  pub rest-next : rest b i at ≡ coded_at b at code ∷ rest b (i + 1) (at + written code)
  rest-next = rw (code-next, ← (drop-drop (written code) at b))

  -- where the bytes from a place on are those of the codes, so are those behind
  pub span_next : at + residual_length (drop i (counted_codes b)) ≡ length b → at + written code + residual_length (drop (i + 1) (counted_codes b)) ≡ length b
  span_next s = omega (arith, rw code-next at s)

pub rest-none : (b : List ℕ) (n i at : ℕ) → Counted b n → n ≤ i → rest b i at ≡ []
rest-none b n i at c h = rw (counted_none b n i c h)
