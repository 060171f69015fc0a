-- What the inner functions require and ensure. No promise of a call is stated here.
use Rattle.std.specs.Prelude.{◌≡◌, ℕ, ◌+◌, ◌*◌, ◌/◌, ◌%◌, ◌≤◌, List, [], ◌++◌, length, drop}
use Rattle.std.proofs.lemmas.List.Edits.{sets}
use Rattle.block_rules.specs.Predictors.{after}
use Rattle.block_rules.specs.Codes.{dfcm_chosen, coded_words}
use Rattle.block_rules.specs.Block.{codes, code_bytes, all_residual_bytes, residuals_at, worst}
use Rattle.block_choice.specs.Inside.{held, size, Able, Becomes}
use Rattle.block_choice.specs.declared.predict.Predictors.{Predictors}
use Rattle.block_staging.specs.Waiting.{Waiting}

-- the bytes that a stage has room for
abbrev pub stage_length : ℕ
stage_length = 480

-- words are put, and the predictors learn them: their code bytes at one place, and at another first what is held back and then their residual bytes
pub record Puts (p : Predictors) (words : List ℕ) (codes_at at : ℕ) (held_back out : List ℕ) (p' : Predictors) (out' : List ℕ) (end : ℕ) : Type 0 where
  pub learnt : Becomes p (after (size p) (held p) words) p'
  pub bytes :
      out' ≡ sets (sets out codes_at (code_bytes (codes (coded_words dfcm_chosen (size p) (held p) words)))) at
      (held_back ++ all_residual_bytes (coded_words dfcm_chosen (size p) (held p) words))
  pub ends : end ≡ at + length (held_back ++ all_residual_bytes (coded_words dfcm_chosen (size p) (held p) words))

-- the last word of an odd count, which no pair holds
abbrev pub unpaired : List ℕ → List ℕ
unpaired words = drop (2 * (length words / 2)) words

-- what the whole pairs leave can be put: the stage has room for a word more, and the output for what is staged and, where the count is odd, for a word
pub record Resting (words : List ℕ) (p : Predictors) (out : List ℕ) (stage : Waiting) (at : ℕ) : Type 0 where
  pub able : Able p
  pub few : length words ≤ 65536
  pub word_fits : 8 ≤ stage.room
  pub codes : residuals_at (length words) ≤ length out
  pub room : at + length stage.held + 8 * (length words % 2) ≤ length out

-- words to be put, with room for the worst block, and nothing staged in a whole stage
pub record Putting (words : List ℕ) (p : Predictors) (out : List ℕ) (stage : Waiting) : Type 0 where
  pub able : Able p
  pub few : length words ≤ 65536
  pub room : worst (length words) ≤ length out
  pub staged : stage.held ≡ []
  pub free : stage.room ≡ stage_length
