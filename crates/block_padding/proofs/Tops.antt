-- A padded code, by its two top residual bytes as one number; the walk over all codes.
use mathlib.Core.Path.{◌≡◌, refl, sym, ◌∙◌}
use mathlib.Core.Bool.{Bool, true, false, cond, ◌&&◌}
use mathlib.Core.List.{List, [], ◌∷◌}
use Prim.Native.Nat.{ℕ, zero, suc, ◌+◌, ◌-◌, ◌*◌, ◌/◌, ◌%◌, ◌^◌, ◌≤◌, ◌<◌}
use native.Mathlib.Omega.{arith}
use lib.Dec.{ltb, eqb}
use lib.ListN.{length, get_or, take, drop}
use borrow.Author.Tests.{le-ltb, ne_eqb}
use Rattle.words.proofs.Tests.{either, same_test}
use Rattle.block_rules.specs.Codes.{written, padded}
use Rattle.block_rules.specs.Block.{halves, counted_codes, residual_length, residuals_at, coded_in, none_padded}
use Rattle.block_rules.specs.Inside.{Spanned, coded_at}
use Rattle.block_rules.proofs.Padded.{bytes}
use Rattle.block_rules.proofs.Get.{half_high, pairs_end, pairs_high, pairs_low, rest, rest-next, span_next, rest-none}
use Rattle.block_padding.specs.Inside.{least_top}

-- ---- one code

-- the least that the two top bytes of low bits may make
abbrev pub least : ℕ → ℕ
least l = get_or (256 ∷ 256 ∷ 256 ∷ 1 ∷ 256 ∷ 256 ∷ 256 ∷ 0 ∷ []) l 0

-- of the eight bytes x that end with a residual: the next low bits write enough just where the two top bytes make less
pub by_tops : (l x : ℕ) → l ≤ 7 → (ltb l 7 && ltb (x / 2 ^ (8 * (8 - bytes l))) (256 ^ bytes ((l + 1) % 8))) ≡ ltb (x / 2 ^ 48) (least l)
by_tops zero x s = same_test (x / 2 ^ 0) (256 ^ 7) (x / 2 ^ 48) 256 (λ q. omega arith) (λ q. omega arith)
by_tops (suc zero) x s = same_test (x / 2 ^ 8) (256 ^ 6) (x / 2 ^ 48) 256 (λ q. omega arith) (λ q. omega arith)
by_tops (suc (suc zero)) x s = same_test (x / 2 ^ 16) (256 ^ 5) (x / 2 ^ 48) 256 (λ q. omega arith) (λ q. omega arith)
by_tops (suc (suc (suc zero))) x s = same_test (x / 2 ^ 24) (256 ^ 3) (x / 2 ^ 48) 1 (λ q. omega arith) (λ q. omega arith)
by_tops (suc (suc (suc (suc zero)))) x s = same_test (x / 2 ^ 40) (256 ^ 2) (x / 2 ^ 48) 256 (λ q. omega arith) (λ q. omega arith)
by_tops (suc (suc (suc (suc (suc zero))))) x s = same_test (x / 2 ^ 48) (256 ^ 1) (x / 2 ^ 48) 256 (λ q. omega arith) (λ q. omega arith)
by_tops (suc (suc (suc (suc (suc (suc zero)))))) x s = same_test (x / 2 ^ 56) (256 ^ 0) (x / 2 ^ 48) 256 (λ q. omega arith) (λ q. omega arith)
by_tops (suc (suc (suc (suc (suc (suc (suc zero))))))) x s = sym (le-ltb (x / 2 ^ 48) 0 (omega arith))
by_tops (suc (suc (suc (suc (suc (suc (suc (suc l)))))))) x s = absurd (omega arith)

pub least-small : (code : ℕ) → least_top code ≤ 256
unfolding least_top
least-small code = small (code % 8) (omega arith)
  where
    small : (l : ℕ) → l ≤ 7 → least l ≤ 256
    small zero s = omega arith
    small (suc zero) s = omega arith
    small (suc (suc zero)) s = omega arith
    small (suc (suc (suc zero))) s = omega arith
    small (suc (suc (suc (suc zero)))) s = omega arith
    small (suc (suc (suc (suc (suc zero))))) s = omega arith
    small (suc (suc (suc (suc (suc (suc zero)))))) s = omega arith
    small (suc (suc (suc (suc (suc (suc (suc zero))))))) s = omega arith
    small (suc (suc (suc (suc (suc (suc (suc (suc l)))))))) s = absurd (omega arith)

-- ---- the walk over all codes

-- after i codes, the residual bytes of the next one starting at a place: there are faults, or the rest decides
pub record Walking (b : List ℕ) (n at faults i : ℕ) : Type 0 where
  pub upto : i ≤ n
  pub small : faults ≤ i
  pub past : 8 ≤ at
  pub bytes : at + residual_length (drop i (counted_codes b)) ≡ length b
  pub tells : none_padded (coded_in b) ≡ (eqb faults 0 && none_padded (rest b i at))

pub walking_starts : (b : List ℕ) (n at : ℕ) → Spanned b n → at ≡ residuals_at n → Walking b n at 0 0
unfolding coded_in
walking_starts b n at s e =
    record { upto = omega arith; small = omega arith; past = omega arith; bytes = rw e (sym s.adds); tells = rw (e, s.counted.count) }

module _ (b : List ℕ) (n at faults i : ℕ) (s : Spanned b n) (w : Walking b n at faults i) (code : ℕ) (h : i < n) (e : code ≡ get_or (halves (drop 8 b)) i 0) where
  walking_within : at + written code ≤ length b
  walking_within = omega (arith, span_next b n i at code s.counted h e w.bytes)

  walking_on : (k : ℕ) → k ≡ cond (padded (coded_at b at code)) 1 0 → Walking b n (at + written code) (faults + k) (i + 1)
  walking_on k q =
      let next = rest-next b n i at code s.counted h e in
      let bytes' = span_next b n i at code s.counted h e w.bytes in
      let t = rw next at w.tells in
      either (padded (coded_at b at code))
      (λ p.
      let one : k ≡ 1 = q ∙ rw p in
      record { upto = omega arith; small = omega (arith, w.small); past = omega (arith, w.past); bytes = bytes'; tells = rw (ne_eqb (faults + k) 0 (λ z. omega arith)) (fault (eqb faults 0) (rw p at t)) })
      (λ p.
      let none : k ≡ 0 = q ∙ rw p in
      let same : faults + k ≡ faults = omega arith in
      record { upto = omega arith; small = omega (arith, w.small); past = omega (arith, w.past); bytes = bytes'; tells = rw same (rw p at t) })
    where
      fault : {u : Bool} (v : Bool) → u ≡ (v && false) → u ≡ false
      fault true z = z
      fault false z = z

-- the two codes of a byte, by the places of their two top bytes
module _ (b : List ℕ) (n tops high low j byte first second : ℕ) (s : Spanned b n) (w : Walking b n (tops + 2) (high + low) (2 * j)) (turn : j < length (take (8 + n / 2 - 8) (drop 8 b)))
    (is : byte ≡ get_or (take (8 + n / 2 - 8) (drop 8 b)) j 0) (f : first ≡ written (byte / 16)) (g : second ≡ written (byte % 16)) where
  h : j < n / 2
  h = omega (arith, turn, pairs_end b n s.counted)

  after_first : (k : ℕ) → k ≡ cond (padded (coded_at b (tops + first + 2 - written (byte / 16)) (byte / 16))) 1 0 → Walking b n (tops + first + 2) (high + low + k) (2 * j + 1)
  after_first k p =
      let at : tops + first + 2 - written (byte / 16) ≡ tops + 2 = omega arith in
      let next : tops + first + 2 ≡ tops + 2 + written (byte / 16) = omega arith in
      rw next (walking_on b n (tops + 2) (high + low) (2 * j) s w (byte / 16) (omega (arith, h)) (pairs_high b n s.counted j byte turn is) k (rw at at p))

  pub pair_within : tops + first + second + 2 ≤ length b
  pair_within =
      let within = walking_within b n (tops + first + 2) _ (2 * j + 1) s (after_first _ refl) (byte % 16) (omega (arith, h)) (pairs_low b n s.counted j byte turn is) in
      omega (arith, within)

  pub walking_pair : (k l : ℕ) → k ≡ cond (padded (coded_at b (tops + first + 2 - written (byte / 16)) (byte / 16))) 1 0
      → l ≡ cond (padded (coded_at b (tops + first + second + 2 - written (byte % 16)) (byte % 16))) 1 0
      → Walking b n (tops + first + second + 2) (high + k + (low + l)) (2 * (j + 1))
  walking_pair k l p q =
      let at : tops + first + second + 2 - written (byte % 16) ≡ tops + first + 2 = omega arith in
      let next : tops + first + second + 2 ≡ tops + first + 2 + written (byte % 16) = omega arith in
      let i : 2 * (j + 1) ≡ 2 * j + 1 + 1 = omega arith in
      let faults : high + k + (low + l) ≡ high + low + k + l = omega arith in
      rw (next, i, faults) (walking_on b n (tops + first + 2) (high + low + k) (2 * j + 1) s (after_first k p) (byte % 16) (omega (arith, h)) (pairs_low b n s.counted j byte turn is) l (rw at at q))

ended : (b : List ℕ) (n at faults i : ℕ) → Spanned b n → Walking b n at faults i → n ≤ i → eqb faults 0 ≡ none_padded (coded_in b)
ended b n at faults i s w h = sym (rw (rest-none b n i at s.counted h) at w.tells ∙ whole (eqb faults 0))
  where
    whole : (v : Bool) → (v && true) ≡ v
    whole true = refl
    whole false = refl

pub walking_ends : (b : List ℕ) (n at faults j : ℕ) → Spanned b n → Walking b n at faults (2 * j) → length (take (8 + n / 2 - 8) (drop 8 b)) ≤ j → (n % 2 ≡ 1 → ⊥)
    → eqb faults 0 ≡ none_padded (coded_in b)
walking_ends b n at faults j s w end even = ended b n at faults (2 * j) s w (omega (arith, end, pairs_end b n s.counted))

-- the last code, where the count is odd
module _ (b : List ℕ) (n tops faults j byte bytes' : ℕ) (s : Spanned b n) (w : Walking b n (tops + 2) faults (2 * j)) (end : length (take (8 + n / 2 - 8) (drop 8 b)) ≤ j) (o : n % 2 ≡ 1)
    (e : byte ≡ get_or b (8 + n / 2) 0) (f : bytes' ≡ written (byte / 16)) where
  last_code : byte / 16 ≡ get_or (halves (drop 8 b)) (2 * j) 0
  last_code =
      let k : n / 2 ≡ j = omega (arith, w.upto, end, pairs_end b n s.counted) in
      half_high b j byte (rw k at e)

  pub last_within : tops + bytes' + 2 ≤ length b
  last_within =
      let within = walking_within b n (tops + 2) faults (2 * j) s w (byte / 16) (omega (arith, w.upto)) last_code in
      omega (arith, within)

  pub walking_last : (k : ℕ) → k ≡ cond (padded (coded_at b (tops + bytes' + 2 - written (byte / 16)) (byte / 16))) 1 0 → eqb (faults + k) 0 ≡ none_padded (coded_in b)
  walking_last k q =
      let at : tops + bytes' + 2 - written (byte / 16) ≡ tops + 2 = omega arith in
      ended b n _ _ (2 * j + 1) s (walking_on b n (tops + 2) faults (2 * j) s w (byte / 16) (omega (arith, w.upto)) last_code k (rw at at q)) (omega (arith, end, pairs_end b n s.counted))
