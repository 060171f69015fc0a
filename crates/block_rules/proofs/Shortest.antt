-- No block is shorter: what the bytes of any block that can be read read as, whoever packed them, and what they cost at least.
use mathlib.Core.Path.{◌≡◌, refl, ap}
use mathlib.Core.List.{List, [], ◌∷◌}
use Prim.Native.Nat.{ℕ, zero, suc, ◌^◌, ◌≤◌, ◌<◌}
use native.Mathlib.Omega.{arith}
use lib.Dec.{ltb}
use lib.ListN.{length, drop}
use Rattle.words.specs.Words.{Words, add64}
use Rattle.words.specs.Bytes.{Bytes}
use Rattle.words.proofs.Each.{none, more}
use Rattle.words.proofs.Tests.{either}
use Rattle.words.proofs.Xor.{xor-word}
use Rattle.words.proofs.Bytes.{bytes_drop, number-below}
use Rattle.block_rules.specs.Predictors.{Memory, cleared, fcm_prediction, dfcm_prediction, learn}
use Rattle.block_rules.specs.Codes.{Choice, Thrifty, written, coded_word, coded_words, named_prediction, decoded_word, decoded_words}
use Rattle.block_rules.specs.Block.{codes, all_residual_bytes, block_by, residuals_at, count, counted_codes, residual_length, with_residuals, coded_in, words_in}
use Rattle.block_rules.specs.Numbers.{form_number}
use Rattle.block_rules.specs.declared.Coded.{Coded}
use Rattle.block_rules.proofs.Codes.{fits_word}
use Rattle.block_rules.proofs.Lengths.{length_residuals, length-block_by}
use Rattle.block_rules.proofs.Accept.{form_tells, whole-counted}
use Rattle.block_rules.proofs.Round.{Fit, Wide, wide-cleared, wide-learn}
use Rattle.block_rules.proofs.Cost.{costs_no_more}
use Rattle.block_rules.proofs.Get.{length-words}

-- ---- coded words that are read from bytes

-- their residuals fit
read_fit : (cs bs : List ℕ) → Bytes bs → Fit (with_residuals cs bs)
read_fit [] bs h = none
read_fit (c ∷ cs) bs h = more (number-below (written c) bs h) (read_fit cs (drop (written c) bs) (bytes_drop (written c) bs h))

-- their codes are those read
pub read_codes : (cs bs : List ℕ) → codes (with_residuals cs bs) ≡ cs
read_codes [] bs = refl
read_codes (c ∷ cs) bs = ap (λ (l : List ℕ). c ∷ l) (read_codes cs (drop (written c) bs))

-- ---- what coded words that fit read as

decoded_wide : (m : Memory) (c : Coded) → Wide m → c.residual < 256 ^ written c.code → decoded_word m c < 2 ^ 64
unfolding decoded_word named_prediction fcm_prediction dfcm_prediction add64
decoded_wide m c w h =
    let r = fits_word c.residual c.code h in
    either (ltb c.code 8) (λ e. rw e (xor-word _ _ r (w.fcm m.fcm_hash))) (λ e. rw e (xor-word _ _ r (omega arith)))

decoded_words_lem : (t : ℕ) (cs : List Coded) (m : Memory) → Wide m → Fit cs → Words (decoded_words t m cs)
decoded_words_lem t [] m w none i = omega arith
decoded_words_lem t (c ∷ cs) m w (more h f) zero = decoded_wide m c w h
decoded_words_lem t (c ∷ cs) m w (more h f) (suc i) = decoded_words_lem t cs (learn t m (decoded_word m c)) (wide-learn t m _ w (decoded_wide m c w h)) f i

-- ---- and what they cost: by a choice that is thrifty, the same words cost no more

none_cheaper : (choice : Choice) → Thrifty choice → (t : ℕ) (cs : List Coded) (m : Memory) → Fit cs
    → length (all_residual_bytes (coded_words choice t m (decoded_words t m cs))) ≤ residual_length (codes cs)
none_cheaper choice thrifty t [] m none = omega arith
none_cheaper choice thrifty t (c ∷ cs) m (more h f) =
    let v = decoded_word m c in
    omega (
      arith,
      length_residuals (coded_word choice m v) (coded_words choice t (learn t m v) (decoded_words t (learn t m v) cs)),
      costs_no_more choice thrifty m v c h refl,
      none_cheaper choice thrifty t cs (learn t m v) f,
    )

-- ---- blocks that can be read

pub fit_in : (b : List ℕ) → Bytes b → Fit (coded_in b)
unfolding coded_in
fit_in b h = read_fit (counted_codes b) (drop (residuals_at (count b)) b) (bytes_drop (residuals_at (count b)) b h)

module _ (t : ℕ) (b : List ℕ) (formed : form_number b ≡ 0) where
  pub reads-count : length (words_in t b) ≡ count b
  reads-count = length-words t b (count b) (whole-counted b (count b) (form_tells b formed) refl)

  module _ (bytes : Bytes b) where
    pub reads-words : Words (words_in t b)
    unfolding words_in
    reads-words = decoded_words_lem t (coded_in b) (cleared t) (wide-cleared t) (fit_in b bytes)

    pub none_shorter : (choice : Choice) → Thrifty choice → length (block_by choice t (words_in t b)) ≤ length b
    unfolding words_in coded_in
    none_shorter choice thrifty =
        let least = rw (read_codes (counted_codes b) (drop (residuals_at (count b)) b)) at (none_cheaper choice thrifty t (coded_in b) (cleared t) (fit_in b bytes)) in
        omega (arith, length-block_by choice t (words_in t b), reads-count, (form_tells b formed).adds, least)
