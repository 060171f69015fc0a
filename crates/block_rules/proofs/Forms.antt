-- The one form of a block: bytes that can be read are the arrangement of what they read as; without padded codes, that is the block of the words by the named predictors.
use mathlib.Core.Path.{◌≡◌, refl, sym, ap, ap₂, ◌∙◌}
use mathlib.Core.Bool.{true, false, true≢false}
use mathlib.Core.List.{List, [], ◌∷◌, ◌++◌, map}
use Prim.Native.Nat.{ℕ, zero, suc, ◌+◌, ◌*◌, ◌/◌, ◌%◌, ◌^◌, ◌≤◌, ◌<◌}
use native.Mathlib.Omega.{arith}
use native.Mathlib.Nat.{lt_of_lt_of_le}
use lib.Dec.{leb}
use lib.ListN.{length, get_or, take, drop, length-take, length-drop, take-append-drop}
use lib.Seq.{take-add, take_all, drop-drop}
use borrow.Author.Tests.{ltb-true, lt-ltb, le-ltb, leb-true, leb-false}
use Rattle.words.specs.Words.{xor}
use Rattle.words.specs.Bytes.{Bytes, low_bytes, number}
use Rattle.words.proofs.Tests.{either}
use Rattle.words.proofs.Each.{none, more, each_at}
use Rattle.words.proofs.Zeros.{pow_256_le}
use Rattle.words.proofs.Bytes.{bytes_take, bytes_drop, bytes_low, number_low, number-below, low_number}
use Rattle.words.proofs.Xor.{xor_back}
use Rattle.answers.proofs.Checks.{both_hold}
use Rattle.block_rules.specs.Predictors.{Memory, cleared, fcm_prediction, dfcm_prediction, learn}
use Rattle.block_rules.specs.Codes.{fcm_residual, dfcm_residual, written, coded_by, residual_bytes, padded, named_prediction, decoded_word, decoded_words}
use Rattle.block_rules.specs.Block.{codes, code_bytes, all_residual_bytes, body, arranged, halves, count, stated_length, counted_codes, last_half, residual_length, residuals_at, with_residuals, coded_in, none_padded, words_in}
use Rattle.block_rules.specs.Numbers.{form_number, block_number}
use Rattle.block_rules.specs.Forms.{HasPadded, Smaller, names_dfcm, named, coded_naming, all_naming, block_naming}
use Rattle.block_rules.specs.declared.Coded.{Coded}
use Rattle.block_rules.proofs.Codes.{written_is, fewer-written, low_bits_decide}
use Rattle.block_rules.proofs.Padded.{Tight, padded-is, tight_low, all-tight}
use Rattle.block_rules.proofs.Accept.{Whole, form_tells, whole-counted, filler_needs}
use Rattle.block_rules.proofs.Order.{takes_form, takes-tight}
use Rattle.block_rules.proofs.Get.{length_in_lem}
use Rattle.block_rules.proofs.Round.{FourBits, Fit}
use Rattle.block_rules.proofs.Shortest.{read_codes, fit_in}

-- the first of the low bytes
take_low : (j k r : ℕ) → j ≤ k → take j (low_bytes k r) ≡ low_bytes j r
take_low zero k r h = refl
take_low (suc j) zero r h = absurd (omega arith)
take_low (suc j) (suc k) r h = ap (λ (l : List ℕ). r % 256 ∷ l) (take_low j k (r / 256) (omega arith))

-- ---- bytes that can be read are the arrangement of what they read as

-- the code bytes
codes_forth : (n : ℕ) (bs : List ℕ) → (n + 1) / 2 ≤ length bs → (n % 2 ≡ 1 → get_or (halves bs) n 0 ≡ 7) → code_bytes (take n (halves bs)) ≡ take ((n + 1) / 2) bs
codes_forth zero bs l f = refl
codes_forth (suc zero) [] l f = absurd (omega arith)
codes_forth (suc zero) (b ∷ bs) l f =
    let e : b / 16 * 16 + 7 ≡ b = omega (arith, f refl) in
    rw e
codes_forth (suc (suc n)) [] l f = absurd (omega arith)
codes_forth (suc (suc n)) (b ∷ bs) l f =
    let e : b / 16 * 16 + b % 16 ≡ b = omega arith in
    let k : (suc (suc n) + 1) / 2 ≡ suc ((n + 1) / 2) = omega arith in
    rw (e, k) (ap (λ (r : List ℕ). b ∷ r) (codes_forth n bs (omega arith) (λ o. f (omega arith))))

-- the residual bytes
residuals_forth : (cs bs : List ℕ) → Bytes bs → residual_length cs ≤ length bs → all_residual_bytes (with_residuals cs bs) ≡ take (residual_length cs) bs
unfolding residual_bytes
residuals_forth [] bs h l = refl
residuals_forth (c ∷ cs) bs h l =
    let w = written c in
    ap₂ (λ (x y : List ℕ). x ++ y)
    (low_number w (take w bs) (bytes_take w bs h) (length-take w bs ∙ omega arith))
    (residuals_forth cs (drop w bs) (bytes_drop w bs h) (omega (arith, length-drop w bs)))
    ∙ sym (take-add w (residual_length cs) bs)

module _ (b : List ℕ) (bs : Bytes b) (formed : form_number b ≡ 0) where
  told : Whole b
  told = form_tells b formed

  length-coded_in : length (coded_in b) ≡ count b
  length-coded_in = length_in_lem b (count b) (whole-counted b (count b) told refl)

  codes_in : codes (coded_in b) ≡ counted_codes b
  unfolding coded_in
  codes_in = read_codes (counted_codes b) (drop (residuals_at (count b)) b)

  residuals_in : all_residual_bytes (coded_in b) ≡ drop (residuals_at (count b)) b
  unfolding coded_in
  residuals_in =
      let k = residuals_at (count b) in
      let l : residual_length (counted_codes b) ≡ length (drop k b) = omega (arith, length-drop k b, told.adds) in
      residuals_forth (counted_codes b) (drop k b) (bytes_drop k b bs) (omega arith)
      ∙ take_all (residual_length (counted_codes b)) (drop k b) (omega arith)

  code_bytes_in : code_bytes (counted_codes b) ≡ take ((count b + 1) / 2) (drop 8 b)
  unfolding counted_codes last_half
  code_bytes_in = codes_forth (count b) (drop 8 b) (omega (arith, length-drop 8 b, told.adds)) (filler_needs b told.filler)

  body_forth : body (coded_in b) ≡ drop 8 b
  unfolding body
  body_forth =
      let k = (count b + 1) / 2 in
      let c : code_bytes (codes (coded_in b)) ≡ take k (drop 8 b) = rw codes_in code_bytes_in in
      ap₂ (λ (x y : List ℕ). x ++ y) c (residuals_in ∙ sym (drop-drop k 8 b)) ∙ take-append-drop k (drop 8 b)

  arranged_forth : arranged (coded_in b) ≡ b
  unfolding arranged
  arranged_forth =
      let four : 4 ≤ length b = omega (arith, told.long) in
      let counts : low_bytes 4 (length (coded_in b)) ≡ take 4 b = rw length-coded_in (low_number 4 (take 4 b) (bytes_take 4 b bs) (length-take 4 b ∙ omega arith)) in
      let long : 8 + length (body (coded_in b)) ≡ stated_length b = rw body_forth (omega (arith, length-drop 8 b, told.long, told.stated)) in
      let states : low_bytes 4 (8 + length (body (coded_in b))) ≡ take 4 (drop 4 b) =
      rw long (low_number 4 (take 4 (drop 4 b)) (bytes_take 4 (drop 4 b) (bytes_drop 4 b bs)) (length-take 4 (drop 4 b) ∙ omega (arith, length-drop 4 b, told.long))) in
      let behind : low_bytes 4 (8 + length (body (coded_in b))) ++ body (coded_in b) ≡ drop 4 b =
      ap₂ (λ (x y : List ℕ). x ++ y) states (body_forth ∙ sym (drop-drop 4 4 b)) ∙ take-append-drop 4 (drop 4 b) in
      ap₂ (λ (x y : List ℕ). x ++ y) counts behind ∙ take-append-drop 4 b

-- ---- without padded codes they are those of the words by the named predictors

-- one code
own_code : (m : Memory) (c : Coded) → c.code ≤ 15 → c.residual < 256 ^ written c.code → padded c ≡ false → coded_naming m (names_dfcm c.code) (decoded_word m c) ≡ c
unfolding coded_naming names_dfcm decoded_word named_prediction fcm_residual dfcm_residual coded_by
own_code m c four fits tight =
    let low = tight_low c fits tight in
    let v : (p : ℕ) → xor (xor c.residual p) p ≡ c.residual = λ p. xor_back c.residual p in
    either (leb 8 c.code)
    (λ e. let l = leb-true 8 c.code e in rw (e, le-ltb c.code 8 l, v (dfcm_prediction m)) (made _ (omega (arith, low))))
    (λ e. let l = leb-false 8 c.code e in rw (e, lt-ltb c.code 8 l, v (fcm_prediction m)) (made _ (omega (arith, low))))
  where
    made : (k : ℕ) → k ≡ c.code → record { code = k; residual = c.residual } ≡ c
    made k e = rw e

all_own : (t : ℕ) (m : Memory) (cs : List Coded) → FourBits (codes cs) → Fit cs → Tight cs → all_naming t m (map names_dfcm (codes cs)) (decoded_words t m cs) ≡ cs
all_own t m [] four none none = refl
all_own t m (c ∷ cs) four (more h f) (more g u) =
    rw (own_code m c (four 0) h g) (ap (λ (l : List Coded). c ∷ l) (all_own t (learn t m (decoded_word m c)) cs (λ i. four (suc i)) f u))

-- codes that are read from bytes have four bits
halves_small : (bs : List ℕ) → Bytes bs → FourBits (halves bs)
halves_small [] h i = omega arith
halves_small (b ∷ bs) h zero = omega (arith, h 0)
halves_small (b ∷ bs) h (suc zero) = omega arith
halves_small (b ∷ bs) h (suc (suc i)) = halves_small bs (λ j. h (suc j)) i

take-small : (n : ℕ) (cs : List ℕ) → FourBits cs → FourBits (take n cs)
take-small zero cs h i = omega arith
take-small (suc n) [] h i = omega arith
take-small (suc n) (c ∷ cs) h zero = h 0
take-small (suc n) (c ∷ cs) h (suc i) = take-small n cs (λ j. h (suc j)) i

counted-small : (b : List ℕ) → Bytes b → FourBits (counted_codes b)
unfolding counted_codes
counted-small b h = take-small (count b) (halves (drop 8 b)) (halves_small (drop 8 b) (bytes_drop 8 b h))

-- a block that check takes is the block of its words by the predictors that it names
pub named_form : (t : ℕ) (b : List ℕ) → Bytes b → block_number b ≡ 0 → block_naming (named b) t (words_in t b) ≡ b
unfolding block_naming named words_in
named_form t b h e =
    let f = takes_form b e in
    let own = all_own t (cleared t) (coded_in b) (rw (codes_in b h f) (counted-small b h)) (fit_in b h) (all-tight (coded_in b) (takes-tight b e)) in
    ap arranged (rw (codes_in b h f) at own) ∙ arranged_forth b h f

-- ---- a padded code

-- a code that is read from bytes has a residual that fits
pub code_fits : (b : List ℕ) → Bytes b → (first : List Coded) (c : Coded) (rest : List Coded) → first ++ c ∷ rest ≡ coded_in b → c.residual < 256 ^ written c.code
code_fits b h first c rest e = each_at {P = λ (k : Coded). k.residual < 256 ^ written k.code} first c rest (rw e (fit_in b h))

module _ (c : Coded) (fits : c.residual < 256 ^ written c.code) where
  pub padded_smaller : padded c ≡ true → Smaller c
  unfolding residual_bytes
  padded_smaller e =
      let l = c.code % 8 in
      let p = both_hold _ _ (sym (padded-is c fits) ∙ e) in
      let few = ltb-true l 7 p.0 in
      let r = ltb-true c.residual _ p.1 in
      let low : (c.code + 1) % 8 ≡ l + 1 = omega arith in
      let same : written (c.code + 1) ≡ written (l + 1) = low_bits_decide (c.code + 1) (l + 1) (omega arith) in
      let less : written (c.code + 1) < written c.code = omega (arith, written_is c.code, rw low at (written_is (c.code + 1))) in
      record {
        code = c.code + 1;
        predictor = omega arith;
        fewer = less;
        reads = ap number (take_low (written (c.code + 1)) (written c.code) c.residual (omega arith)) ∙ number_low (written (c.code + 1)) c.residual (rw same r);
      }

  pub smaller_padded : Smaller c → padded c ≡ true
  unfolding residual_bytes
  smaller_padded s =
      let l = c.code % 8 in
      let k = s.code in
      let few : l < 7 = omega (arith, s.fewer, written_is c.code) in
      let next : (l + 1) % 8 ≡ l + 1 = omega arith in
      let above = higher (k % 8) l (omega (arith, s.fewer, written_is k, written_is c.code)) in
      let less : written k ≤ written (l + 1) = fewer-written (l + 1) k (omega arith) in
      let r : c.residual < 256 ^ written k = rw s.reads at (number-below (written k) (low_bytes (written c.code) c.residual) (bytes_low (written c.code) c.residual)) in
      padded-is c fits ∙ rw (lt-ltb l 7 few) (lt-ltb c.residual (256 ^ written (l + 1)) (lt_of_lt_of_le r (pow_256_le less)))
    where
      higher : (i l : ℕ) → l + l / 4 < i + i / 4 → l + 1 ≤ i
      higher i l h = omega arith

-- ---- a padded code among others

pub has_padded : (cs : List Coded) → none_padded cs ≡ false → HasPadded cs
has_padded [] e = absurd (true≢false e)
has_padded (c ∷ cs) e =
    either (padded c) (λ p. record { first = []; code = c; rest = cs; whole = refl; is = p })
    (λ p.
    let h = has_padded cs (rw p at e) in
    record { first = c ∷ h.first; code = h.code; rest = h.rest; whole = ap (λ (l : List Coded). c ∷ l) h.whole; is = h.is })

pub padded_has : (cs : List Coded) → HasPadded cs → none_padded cs ≡ false
padded_has cs h =
    either (none_padded cs)
    (λ e. absurd (true≢false (sym h.is ∙ each_at {P = λ (c : Coded). padded c ≡ false} h.first h.code h.rest (rw h.whole (all-tight cs e)))))
    (λ e. e)
