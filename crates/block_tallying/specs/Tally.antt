-- What the codes of a block tell: which predictor won, and what the residuals cost.
use Rattle.std.specs.Prelude.{ℕ, ◌+◌, List, [], ◌∷◌, Bool, cond}
use Rattle.block_rules.specs.Block.{counted_codes, residual_length}
use Rattle.block_rules.specs.Forms.{names_dfcm}
use Rattle.block_tallying.specs.declared.answer.Tally.{Tally}

-- how many of some codes take their word from fcm
abbrev pub fcm_words : List ℕ → ℕ
fcm_words [] = 0
fcm_words (c ∷ cs) = cond (names_dfcm c) 0 1 + fcm_words cs

-- how many take it from dfcm
abbrev pub dfcm_words : List ℕ → ℕ
dfcm_words [] = 0
dfcm_words (c ∷ cs) = cond (names_dfcm c) 1 0 + dfcm_words cs

-- the tally of a block, by its counted codes: words taken from fcm, words taken from dfcm, residual bytes
unfoldable pub tally : List ℕ → Tally
tally b = record { fcm_words = fcm_words (counted_codes b); dfcm_words = dfcm_words (counted_codes b); residual_bytes = residual_length (counted_codes b) }

-- the tally of a refusal: all three are 0
abbrev pub no_tally : Tally
no_tally = record { fcm_words = 0; dfcm_words = 0; residual_bytes = 0 }

-- how many of some predictors are dfcm
abbrev pub dfcm_among : List Bool → ℕ
dfcm_among [] = 0
dfcm_among (n ∷ ns) = cond n 1 0 + dfcm_among ns
