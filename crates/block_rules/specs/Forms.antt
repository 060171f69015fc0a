-- The one form of a block: codes that are padded, and the block of words by predictors that are named, one for each word.
use Rattle.std.specs.Prelude.{◌≡◌, ℕ, ◌/◌, ◌<◌, List, [], ◌∷◌, ◌++◌, map, Bool, true, cond, leb, take}
use Rattle.words.specs.Bytes.{number}
use Rattle.block_rules.specs.Predictors.{Memory, cleared, learn}
use Rattle.block_rules.specs.Codes.{Choice, fcm_residual, dfcm_residual, written, coded_by, residual_bytes, padded}
use Rattle.block_rules.specs.Block.{arranged, counted_codes}
use Rattle.block_rules.specs.declared.Coded.{Coded}

-- a padded code among coded words, with those before it and those behind it
pub record HasPadded (cs : List Coded) : Type 0 where
  pub first : List Coded
  pub code : Coded
  pub rest : List Coded
  pub whole : first ++ code ∷ rest ≡ cs
  pub is : padded code ≡ true

-- a smaller code than c: of the same predictor, with fewer bytes, and from the first of c's residual bytes it reads the same residual
pub record Smaller (c : Coded) : Type 0 where
  pub code : ℕ
  pub predictor : code / 8 ≡ c.code / 8
  pub fewer : written code < written c.code
  pub reads : number (take (written code) (residual_bytes c)) ≡ c.residual

-- whether a code names dfcm: its top bit is 1
unfoldable pub names_dfcm : ℕ → Bool
names_dfcm c = leb 8 c

-- the predictors that the counted codes of a block name, one for each word: true for dfcm
unfoldable pub named : List ℕ → List Bool
named b = map names_dfcm (counted_codes b)

-- the code and the residual of the word v by the predictor that is named
unfoldable pub coded_naming : Memory → Bool → ℕ → Coded
coded_naming m dfcm v = coded_by dfcm (cond dfcm (dfcm_residual m v) (fcm_residual m v))

-- the codes and residuals of words, each by the predictor that is named for it, each word learnt before the next
abbrev pub all_naming : ℕ → Memory → List Bool → List ℕ → List Coded
all_naming t m [] ws = []
all_naming t m (n ∷ ns) [] = []
all_naming t m (n ∷ ns) (v ∷ vs) = coded_naming m n v ∷ all_naming t (learn t m v) ns vs

-- the block of words by predictors that are named, with tables of 2 ^ t words
unfoldable pub block_naming : List Bool → ℕ → List ℕ → List ℕ
block_naming ns t ws = arranged (all_naming t (cleared t) ns ws)

-- the predictors that a choice names for words, one for each
abbrev pub names_by : Choice → ℕ → Memory → List ℕ → List Bool
names_by choice t m [] = []
names_by choice t m (v ∷ vs) = choice (fcm_residual m v) (dfcm_residual m v) ∷ names_by choice t (learn t m v) vs
