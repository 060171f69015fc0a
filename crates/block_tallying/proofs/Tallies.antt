-- The tally of a block: each word is taken from one predictor, and dfcm's words, once counted, tell the rest.
use mathlib.Core.Path.{◌≡◌, refl, ◌∙◌}
use mathlib.Core.Bool.{not}
use mathlib.Core.List.{List, [], ◌∷◌, map}
use Prim.Native.Nat.{ℕ, ◌+◌, ◌-◌, ◌≤◌}
use native.Mathlib.Omega.{arith}
use lib.ListN.{length}
use Rattle.words.proofs.Tests.{either}
use Rattle.block_rules.specs.Forms.{names_dfcm}
use Rattle.block_rules.specs.Block.{count, residuals_at, counted_codes, residual_length}
use Rattle.block_tallying.specs.Tally.{fcm_words, dfcm_words, tally, dfcm_among}
use Rattle.block_rules.specs.Numbers.{form_number}
use Rattle.block_rules.proofs.Accept.{form_tells, whole-counted}
use Rattle.block_rules.proofs.Get.{length-counted}

-- ---- codes

-- each word is taken from one of the two
words_add_up : (cs : List ℕ) → fcm_words cs + dfcm_words cs ≡ length cs
words_add_up [] = refl
words_add_up (c ∷ cs) = either (names_dfcm c) (λ e. rw e (omega (arith, words_add_up cs))) (λ e. rw e (omega (arith, words_add_up cs)))

-- the predictors that codes name
pub dfcm-named : (cs : List ℕ) → dfcm_words cs ≡ dfcm_among (map names_dfcm cs)
dfcm-named [] = refl
dfcm-named (c ∷ cs) = rw (dfcm-named cs)

pub fcm-named : (cs : List ℕ) → fcm_words cs ≡ dfcm_among (map not (map names_dfcm cs))
fcm-named [] = refl
fcm-named (c ∷ cs) = either (names_dfcm c) (λ e. rw (e, fcm-named cs)) (λ e. rw (e, fcm-named cs))

-- ---- a block that can be read

module _ (b : List ℕ) (e : form_number b ≡ 0) where
  -- the two word counts sum to the count
  pub counts_sum : fcm_words (counted_codes b) + dfcm_words (counted_codes b) ≡ count b
  counts_sum = words_add_up (counted_codes b) ∙ length-counted b (count b) (whole-counted b (count b) (form_tells b e) refl)

  -- so the tally can be worked out from dfcm's
  pub can_tally : (n d bytes : ℕ) → n ≡ count b → d ≡ dfcm_words (counted_codes b) → bytes ≡ length b → (d ≤ n) × (n ≤ 65536) × (residuals_at n ≤ bytes)
  can_tally n d bytes p q r =
      let w = form_tells b e in
      (omega (arith, counts_sum, p, q), omega (arith, w.few, p), omega (arith, w.adds, p, r))

  pub tallied_is : (n d bytes : ℕ) → n ≡ count b → d ≡ dfcm_words (counted_codes b) → bytes ≡ length b
      → record { fcm_words = n - d; dfcm_words = d; residual_bytes = bytes - residuals_at n } ≡ tally b
  unfolding tally
  tallied_is n d bytes p q r =
      let x : n - d ≡ fcm_words (counted_codes b) = omega (arith, counts_sum, p, q) in
      let y : bytes - residuals_at n ≡ residual_length (counted_codes b) = omega (arith, (form_tells b e).adds, p, r) in
      rw (x, y, ← q)
