-- What inner functions of more than one crate require and ensure. No promise of a call is stated here.
use Rattle.std.specs.Prelude.{◌≡◌, ℕ, ◌+◌, ◌^◌, ◌<◌, ◌≤◌, List, length, replicate}
use Rattle.words.specs.Bytes.{field}
use Rattle.answers.specs.Answers.{over}
use Rattle.block_rules.specs.Predictors.{Memory, cleared, after}
use Rattle.block_rules.specs.Codes.{written}
use Rattle.block_rules.specs.Block.{residuals_at, counted_codes, residual_length, worst, block, words_in}
use Rattle.block_rules.specs.Block as Block
use Rattle.block_rules.specs.Numbers.{t_of, block_number}
use Rattle.block_rules.specs.declared.Carry.{Carry}
use Rattle.block_rules.specs.declared.Coded.{Coded}

-- the two tables, and the hashes and the last word that the code carries, as one memory
abbrev pub memory : List ℕ → List ℕ → Carry → Memory
memory f d c = record { fcm = f; dfcm = d; fcm_hash = c.fcm; dfcm_hash = c.dfcm; last = c.last }

-- tables of f and d words, both 2 ^ t, with t from 0 to 16
pub record Sized (f d : ℕ) : Type 0 where
  pub small : t_of f ≤ 16
  pub power : f ≡ 2 ^ t_of f
  pub same : d ≡ f

-- tables of one size, and hashes within them
pub record Ready (f d : List ℕ) (c : Carry) : Type 0 where
  pub sized : Sized (length f) (length d)
  pub fcm : c.fcm < length f
  pub dfcm : c.dfcm < length f

-- nothing refuses to pack: words, tables and output in number
pub record Packable (n f d bytes : ℕ) : Type 0 where
  pub sized : Sized f d
  pub few : n ≤ 65536
  pub room : worst n ≤ bytes

-- tables of one size, cleared
pub record Cleared (f d : List ℕ) : Type 0 where
  pub sized : Sized (length f) (length d)
  pub fcm : f ≡ replicate (length f) 0
  pub dfcm : d ≡ replicate (length f) 0

-- words are packed
pub record PacksAll (t : ℕ) (words old f' d' out' : List ℕ) (k : ℕ) : Type 0 where
  pub size : k ≡ length (block t words)
  pub fcm : f' ≡ (after t (cleared t) words).fcm
  pub dfcm : d' ≡ (after t (cleared t) words).dfcm
  pub out : out' ≡ over (block t words) old

-- a block of n words, long enough for its codes
pub record Counted (b : List ℕ) (n : ℕ) : Type 0 where
  pub count : n ≡ Block.count b
  pub few : n ≤ 65536
  pub codes : residuals_at n ≤ length b

-- one that is just as long as its codes say
pub record Spanned (b : List ℕ) (n : ℕ) : Type 0 where
  pub counted : Counted b n
  pub adds : length b ≡ residuals_at n + residual_length (counted_codes b)

-- a code with its residual, whose bytes start at a place of a block
abbrev pub coded_at : List ℕ → ℕ → ℕ → Coded
coded_at b at code = record { code = code; residual = field (written code) at b }

-- nothing refuses to unpack: the block, the tables and the room in number
pub record Unpackable (b : List ℕ) (f d words : ℕ) : Type 0 where
  pub sized : Sized f d
  pub whole : block_number b ≡ 0
  pub room : Block.count b ≤ words

-- a block's words are unpacked
pub record UnpacksAll (t : ℕ) (b old f' d' words' : List ℕ) (n : ℕ) : Type 0 where
  pub count : n ≡ Block.count b
  pub fcm : f' ≡ (after t (cleared t) (words_in t b)).fcm
  pub dfcm : d' ≡ (after t (cleared t) (words_in t b)).dfcm
  pub words : words' ≡ over (words_in t b) old
