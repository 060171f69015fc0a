-- What the packer makes of its input: the number, and the block that it writes.
use Rattle.std.specs.Prelude.{◌≡◌, ℕ, zero, suc, ◌/◌, ◌%◌, List, [], ◌∷◌, leb, eqb, length, take, drop}
use Rattle.words.specs.Bytes.{number}
use Rattle.answers.specs.Answers.{unless, first_failure, afterwards, over}
use Rattle.block_rules.specs.Predictors.{Memory, cleared, after}
use Rattle.block_rules.specs.Block.{block}
use Rattle.block_rules.specs.Calls.{packed, Packed}

-- the first n words in bytes: 8 bytes each, low byte first
abbrev pub first_words : ℕ → List ℕ → List ℕ
first_words zero bs = []
first_words (suc n) bs = number (take 8 bs) ∷ first_words n (drop 8 bs)

-- the words in the whole input
unfoldable pub words_of : List ℕ → List ℕ
words_of input = first_words (length input / 8) input

-- the packer's number for an input of n bytes: 2 where there are more than 32,768, 4 where they are not whole words
unfoldable pub packer_number : ℕ → ℕ
packer_number n =
    first_failure
    (unless (leb n 32768) 2
    ∷ unless (eqb (n % 8) 0) 4
    ∷ [])

-- the block that it writes, with two tables of 1,024 words: t is 10
unfoldable pub packer_block : List ℕ → List ℕ
packer_block input = block 10 (words_of input)

-- what both predictors hold after the words
abbrev pub packer_memory : List ℕ → Memory
packer_memory input = after 10 (cleared 10) (words_of input)

-- the answer, both tables and the output afterwards: the predictors' state, the block and then the old content; or all as it was
pub record Answers (input fcm dfcm out : List ℕ) (r : Packed) (fcm' dfcm' out' : List ℕ) : Type 0 where
  pub answer : r ≡ packed (packer_number (length input)) (packer_block input)
  pub fcm_left : fcm' ≡ afterwards (packer_number (length input)) (packer_memory input).fcm fcm
  pub dfcm_left : dfcm' ≡ afterwards (packer_number (length input)) (packer_memory input).dfcm dfcm
  pub out_left : out' ≡ afterwards (packer_number (length input)) (over (packer_block input) out) out
