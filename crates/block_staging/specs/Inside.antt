-- What the inner functions require and ensure. No promise of a call is stated here.
use Rattle.std.specs.Prelude.{◌≡◌, ℕ, ◌+◌, ◌-◌, ◌*◌, ◌≤◌, List, ◌++◌, length, take}
use Rattle.std.specs.Borrow.{MutBor}
use Rattle.std.proofs.lemmas.List.Edits.{sets}
use Rattle.block_rules.specs.Predictors.{learn}
use Rattle.block_rules.specs.Codes.{dfcm_chosen, coded_word, residual_bytes}
use Rattle.block_rules.specs.declared.Coded.{Coded}
use Rattle.block_choice.specs.Inside.{held, size, Becomes}
use Rattle.block_choice.specs.declared.predict.Predictors.{Predictors}
use Rattle.block_staging.specs.Waiting.{Waiting, whole}

-- so many bytes wait at most once room was made: in a buffer of 480, two words more have room then
abbrev pub most_staged : ℕ
most_staged = 464

-- of a lent buffer so many first bytes wait, and the others have room
pub record Holds (bytes : MutBor (List ℕ)) (staged : ℕ) (stage : Waiting) : Type 0 where
  pub held : stage.held ≡ take staged bytes.now
  pub count : length stage.held ≡ staged
  pub room : stage.room ≡ length bytes.now - staged
  pub same_buffer : stage.buffer ≡ bytes.ghost_name

-- bytes are added to those that wait, in the same buffer
pub record Adds (stage : Waiting) (bytes : List ℕ) (stage' : Waiting) : Type 0 where
  pub held : stage'.held ≡ stage.held ++ bytes
  pub same_whole : whole stage' ≡ whole stage
  pub same_buffer : stage'.buffer ≡ stage.buffer

-- the residual bytes of a coded residual are staged, and its code is answered
pub record StagesChosen (stage : Waiting) (c : Coded) (stage' : Waiting) (code : ℕ) : Type 0 where
  pub code_is : code ≡ c.code
  pub adds : Adds stage (residual_bytes c) stage'

-- a word was coded, staged and learnt, and its code is answered
pub record StagesWord (p : Predictors) (v : ℕ) (stage : Waiting) (p' : Predictors) (stage' : Waiting) (code : ℕ) : Type 0 where
  pub code_is : code ≡ (coded_word dfcm_chosen (held p) v).code
  pub learnt : Becomes p (learn (size p) (held p) v) p'
  pub adds : Adds stage (residual_bytes (coded_word dfcm_chosen (held p) v)) stage'

-- two words were coded, staged and learnt, and both codes are answered
pub record StagesPair (p : Predictors) (v w : ℕ) (stage : Waiting) (p' : Predictors) (stage' : Waiting) (byte : ℕ) : Type 0 where
  pub codes_are : byte ≡ (coded_word dfcm_chosen (held p) v).code * 16 + (coded_word dfcm_chosen (learn (size p) (held p) v) w).code
  pub learnt : Becomes p (learn (size p) (learn (size p) (held p) v) w) p'
  pub adds : Adds stage (residual_bytes (coded_word dfcm_chosen (held p) v) ++ residual_bytes (coded_word dfcm_chosen (learn (size p) (held p) v) w)) stage'

-- few bytes wait: what was staged may have been copied out, and what it comes to is the same
pub record MakesRoom (out : List ℕ) (stage : Waiting) (at : ℕ) (out' : List ℕ) (stage' : Waiting) (at' : ℕ) : Type 0 where
  pub few : length stage'.held ≤ most_staged
  pub same_whole : whole stage' ≡ whole stage
  pub same_buffer : stage'.buffer ≡ stage.buffer
  pub from : at ≤ at'
  pub same : at' + length stage'.held ≡ at + length stage.held
  pub held : sets out' at' stage'.held ≡ sets out at stage.held
