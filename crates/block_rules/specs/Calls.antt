-- What each call answers, and what it leaves in everything lent to it, refused or not.
use Rattle.std.specs.Prelude.{◌≡◌, ℕ, List, length, Result}
use Rattle.answers.specs.Answers.{afterwards, over}
use Rattle.answers.specs.Refusals.{number_told, value_told}
use Rattle.block_rules.specs.Predictors.{Memory, cleared, after}
use Rattle.block_rules.specs.Block.{block, count, words_in}
use Rattle.block_rules.specs.Numbers.{t_of, pack_number, block_number, unpack_number}
use Rattle.answers.specs.declared.Refusal.{Refusal}

-- what pack tells: the number, and the block's length or 0
pub record Packed : Type 0 where
  pub number : ℕ
  pub length : ℕ

-- what check tells: the number, and the word count or 0
pub record Checked : Type 0 where
  pub number : ℕ
  pub count : ℕ

-- what unpack tells: the number, and the word count or 0
pub record Unpacked : Type 0 where
  pub number : ℕ
  pub count : ℕ

-- what their answers tell: a length or a count, or a refusal
abbrev pub packed_told : Result ℕ Refusal → Packed
packed_told r = record { number = number_told r; length = value_told (λ n. n) r }

abbrev pub checked_told : Result ℕ Refusal → Checked
checked_told r = record { number = number_told r; count = value_told (λ n. n) r }

abbrev pub unpacked_told : Result ℕ Refusal → Unpacked
unpacked_told r = record { number = number_told r; count = value_told (λ n. n) r }

-- pack answers the number, and the block's length or 0 where it is refused
unfoldable pub packed : ℕ → List ℕ → Packed
packed k b = record { number = k; length = afterwards k (length b) 0 }

-- check answers the number, and the word count or 0 where it is refused
unfoldable pub checked : List ℕ → Checked
checked b = record { number = block_number b; count = afterwards (block_number b) (count b) 0 }

-- unpack answers the number, and the word count or 0 where it is refused
unfoldable pub unpacked : ℕ → List ℕ → Unpacked
unpacked k b = record { number = k; count = afterwards k (count b) 0 }

-- pack(words, fcm, dfcm, out). Where it is refused, all is as it was. After success the tables hold the predictors' state after the last word,
-- and out holds the block and then its old content.
module _ (words fcm dfcm out : List ℕ) where
  abbrev pub packs_number : ℕ
  packs_number = pack_number (length words) (length fcm) (length dfcm) (length out)

  abbrev pub packs_block : List ℕ
  packs_block = block (t_of (length fcm)) words

  abbrev pub packs_memory : Memory
  packs_memory = after (t_of (length fcm)) (cleared (t_of (length fcm))) words

  pub record Packs (r : Packed) (fcm' dfcm' out' : List ℕ) : Type 0 where
    pub answer : r ≡ packed packs_number packs_block
    pub fcm_left : fcm' ≡ afterwards packs_number packs_memory.fcm fcm
    pub dfcm_left : dfcm' ≡ afterwards packs_number packs_memory.dfcm dfcm
    pub out_left : out' ≡ afterwards packs_number (over packs_block out) out

-- Where the number k is 0, the words of a block are unpacked with tables of 2 ^ t words: the tables hold the predictors' state after the last word, and words
-- holds the block's words and then its old content. Where k is a refusal, all is as it was.
pub record UnpacksWhere (k t : ℕ) (bytes fcm dfcm words : List ℕ) (r : Unpacked) (fcm' dfcm' words' : List ℕ) : Type 0 where
  pub answer : r ≡ unpacked k bytes
  pub fcm_left : fcm' ≡ afterwards k (after t (cleared t) (words_in t bytes)).fcm fcm
  pub dfcm_left : dfcm' ≡ afterwards k (after t (cleared t) (words_in t bytes)).dfcm dfcm
  pub words_left : words' ≡ afterwards k (over (words_in t bytes) words) words

-- unpack(block, fcm, dfcm, words), with the t of its tables
module _ (bytes fcm dfcm words : List ℕ) where
  abbrev pub unpacks_number : ℕ
  unpacks_number = unpack_number bytes (length fcm) (length dfcm) (length words)

  abbrev pub Unpacks : Unpacked → (fcm' dfcm' words' : List ℕ) → Type 0
  Unpacks r fcm' dfcm' words' = UnpacksWhere unpacks_number (t_of (length fcm)) bytes fcm dfcm words r fcm' dfcm' words'
