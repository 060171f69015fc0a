-- What the inner functions require and ensure. No promise of a call is stated here.
use Rattle.std.specs.Prelude.{◌≡◌, ℕ, ◌+◌, ◌≤◌, List, length, slice_set}
use Rattle.std.proofs.lemmas.List.Edits.{sets}
use Rattle.block_rules.specs.Predictors.{cleared, learn, after}
use Rattle.block_rules.specs.Codes.{written, decoded_word}
use Rattle.block_rules.specs.Block.{words_in}
use Rattle.block_rules.specs.Block as Block
use Rattle.block_rules.specs.Numbers.{block_number}
use Rattle.block_rules.specs.Inside.{Cleared, coded_at}
use Rattle.block_choice.specs.Inside.{held, size, Able, Becomes}
use Rattle.block_choice.specs.declared.predict.Predictors.{Predictors}

-- the word of a code can be decoded: its residual bytes start at a place of the block, with eight bytes before them
pub record Decodable (b : List ℕ) (at code : ℕ) (p : Predictors) : Type 0 where
  pub able : Able p
  pub past : 8 ≤ at
  pub within : at + written code ≤ length b

-- the word of a code was decoded and learnt, and put as word i
pub record GetsWord (b : List ℕ) (at code : ℕ) (p : Predictors) (words : List ℕ) (i : ℕ) (p' : Predictors) (words' : List ℕ) (at' : ℕ) : Type 0 where
  pub word : words' ≡ slice_set words i (decoded_word (held p) (coded_at b at code))
  pub learnt : Becomes p (learn (size p) (held p) (decoded_word (held p) (coded_at b at code))) p'
  pub next : at' ≡ at + written code

-- the words of a block to be read, with cleared tables and room for them
pub record Getting (b : List ℕ) (n : ℕ) (f d words : List ℕ) : Type 0 where
  pub cleared : Cleared f d
  pub whole : block_number b ≡ 0
  pub count : n ≡ Block.count b
  pub room : n ≤ length words

-- the words of a block are read, and the tables are the predictors' after them
pub record Gets (t : ℕ) (b old f' d' words' : List ℕ) : Type 0 where
  pub fcm : f' ≡ (after t (cleared t) (words_in t b)).fcm
  pub dfcm : d' ≡ (after t (cleared t) (words_in t b)).dfcm
  pub words : words' ≡ sets old 0 (words_in t b)
