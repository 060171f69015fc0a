-- What a word costs, by any choice that is thrifty: no code and residual that read as the word cost less than those taken; and two choices cost alike.
use mathlib.Core.Path.{◌≡◌, refl, sym, ap, ◌∙◌, subst}
use mathlib.Core.Bool.{true, false}
use mathlib.Core.List.{List, [], ◌∷◌}
use Prim.Native.Nat.{ℕ, ◌-◌, max, ◌^◌, ◌≤◌, ◌<◌}
use native.Mathlib.Omega.{arith}
use native.Mathlib.Nat.{one-le-pow}
use lib.Dec.{ltb}
use lib.ListN.{length}
use Rattle.words.specs.Words.{xor, zero_bytes}
use Rattle.words.proofs.Tests.{either}
use Rattle.words.proofs.Zeros.{zeros-at_most, zeros_of_fit}
use Rattle.words.proofs.Xor.{xor_of, xor-none}
use Rattle.block_rules.specs.Predictors.{Memory, cleared, fcm_prediction, dfcm_prediction, learn}
use Rattle.block_rules.specs.Codes.{Choice, Thrifty, fcm_residual, dfcm_residual, low_three, written, chosen, coded_word, coded_words, named_prediction, decoded_word}
use Rattle.block_rules.specs.Block.{all_residual_bytes, block_by}
use Rattle.block_rules.specs.declared.Coded.{Coded}
use Rattle.block_rules.proofs.Codes.{fits_word, coded_cost}
use Rattle.block_rules.proofs.Lengths.{length_residuals, length-block_by}
use Rattle.block_rules.proofs.Least.{least-enough}

-- what fits the bytes that a code writes leaves the other bytes zero
zeros_of_written : (r c : ℕ) → r < 256 ^ written c → 8 - zero_bytes r ≤ written c
zeros_of_written r c h = omega (arith, zeros_of_fit r (written c) (fits_word r c h) h)

module _ (choice : Choice) (thrifty : Thrifty choice) where
  -- the one taken costs what the residual with more leading zero bytes costs
  chosen_cost : (f d : ℕ) → written (chosen choice f d).code ≡ written (low_three (max (zero_bytes f) (zero_bytes d)))
  unfolding chosen
  chosen_cost f d =
      either (choice f d)
      (λ e. rw (e, coded_cost true d) (ap (λ (z : ℕ). written (low_three z)) (omega (arith, thrifty.dfcm f d e))))
      (λ e. rw (e, coded_cost false f) (ap (λ (z : ℕ). written (low_three z)) (omega (arith, thrifty.fcm f d e))))

  -- so it costs no more than any code that writes enough for either residual
  taken_least : (f d c : ℕ) → 8 - max (zero_bytes f) (zero_bytes d) ≤ written c → written (chosen choice f d).code ≤ written c
  taken_least f d c h = rw (chosen_cost f d) (least-enough (max (zero_bytes f) (zero_bytes d)) c (omega (arith, zeros-at_most f, zeros-at_most d)) h)

  -- For any code and any residual of its width that read as the word, the code taken costs no more.
  pub costs_no_more : (m : Memory) (v : ℕ) (c : Coded) → c.residual < 256 ^ written c.code → decoded_word m c ≡ v
      → written (coded_word choice m v).code ≤ written c.code
  unfolding coded_word decoded_word named_prediction fcm_residual dfcm_residual
  costs_no_more m v c h =
      let fits : (p : ℕ) → xor c.residual p ≡ v → 8 - zero_bytes (xor v p) ≤ written c.code =
      λ p e. zeros_of_written (xor v p) c.code (subst (λ (k : ℕ). k < 256 ^ written c.code) (xor_of c.residual p v e) h) in
      either (ltb c.code 8)
      (λ l. rw l (λ e. taken_least _ _ c.code (omega (arith, fits (fcm_prediction m) e))))
      (λ l. rw l (λ e. taken_least _ _ c.code (omega (arith, fits (dfcm_prediction m) e))))

  -- a word that the prediction of a code without residual bytes gives costs nothing
  given_free : (m : Memory) (v c : ℕ) → written c ≡ 0 → named_prediction m c ≡ v → written (coded_word choice m v).code ≡ 0
  unfolding decoded_word
  given_free m v c z e = omega (arith, costs_no_more m v (record { code = c; residual = 0 }) (one-le-pow (written c) 256 (omega arith)) (xor-none (named_prediction m c) ∙ e))

  pub fcm_free : (m : Memory) (v : ℕ) → fcm_prediction m ≡ v → written (coded_word choice m v).code ≡ 0
  unfolding written named_prediction
  fcm_free m v e = given_free m v 7 refl e

  pub dfcm_free : (m : Memory) (v : ℕ) → dfcm_prediction m ≡ v → written (coded_word choice m v).code ≡ 0
  unfolding written named_prediction
  dfcm_free m v e = given_free m v 15 refl e

-- ---- two choices

module _ (choice other : Choice) (thrifty : Thrifty choice) (too : Thrifty other) where
  -- a word costs one number of bytes by both
  word_alike : (m : Memory) (v : ℕ) → written (coded_word choice m v).code ≡ written (coded_word other m v).code
  unfolding coded_word
  word_alike m v = chosen_cost choice thrifty (fcm_residual m v) (dfcm_residual m v) ∙ sym (chosen_cost other too (fcm_residual m v) (dfcm_residual m v))

  -- so do words
  words_alike : (t : ℕ) (m : Memory) (ws : List ℕ) → length (all_residual_bytes (coded_words choice t m ws)) ≡ length (all_residual_bytes (coded_words other t m ws))
  words_alike t m [] = refl
  words_alike t m (v ∷ vs) =
      omega (
        arith,
        length_residuals (coded_word choice m v) (coded_words choice t (learn t m v) vs),
        length_residuals (coded_word other m v) (coded_words other t (learn t m v) vs),
        word_alike m v,
        words_alike t (learn t m v) vs,
      )

  -- so their block has one length
  pub blocks_alike : (t : ℕ) (ws : List ℕ) → length (block_by choice t ws) ≡ length (block_by other t ws)
  blocks_alike t ws = omega (arith, length-block_by choice t ws, length-block_by other t ws, words_alike t (cleared t) ws)
