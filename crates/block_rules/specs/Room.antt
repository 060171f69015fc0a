-- How much room a block needs: words cut into runs, what each run may cost, the bound, how soon a hash settles; and the blocks that are compared with it.
use Rattle.std.specs.Prelude.{◌≡◌, ℕ, zero, suc, ◌+◌, ◌*◌, ◌/◌, ◌%◌, ◌^◌, min, ◌<◌, List, [], ◌∷◌, ◌++◌, Bool, cond, ◌||◌, leb, eqb, length}
use Rattle.words.specs.Words.{add64}
use Rattle.words.specs.Bytes.{Bytes}
use Rattle.block_rules.specs.Block.{words_in}
use Rattle.block_rules.specs.Numbers.{form_number}

-- a run: its first word, the one fixed amount by which each word differs from the one before, and how many words it has
pub record Run : Type 0 where
  pub first : ℕ
  pub difference : ℕ
  pub count : ℕ

-- the words of a run: each is the one before plus the difference, modulo 2^64
abbrev pub words_from : ℕ → ℕ → ℕ → List ℕ
words_from first difference zero = []
words_from first difference (suc count) = first ∷ words_from (add64 first difference) difference count

-- the words of runs, one run after another
abbrev pub joined : List Run → List ℕ
joined [] = []
joined (r ∷ rs) = words_from r.first r.difference r.count ++ joined rs

-- a cut of the words ws: runs whose words, one run after another, are ws
pub record Cut (ws : List ℕ) : Type 0 where
  pub runs : List Run
  pub whole : joined runs ≡ ws

-- a run of equal words: the difference is 0 modulo 2^64, or there is no second word
unfoldable pub of_equal_words : Run → Bool
of_equal_words r = eqb (r.difference % 2 ^ 64) 0 || leb r.count 1

-- what a run may cost, with tables of 2 ^ t words: of equal words 8 times (t/6 rounded up, plus 1), any other 8 times (t/2 rounded up, plus 2)
unfoldable pub run_cost : ℕ → Run → ℕ
run_cost t r = cond (of_equal_words r) (8 * ((t + 5) / 6 + 1)) (8 * ((t + 1) / 2 + 2))

-- a cost of each run, added up
abbrev pub added : (Run → ℕ) → List Run → ℕ
added cost [] = 0
added cost (r ∷ rs) = cost r + added cost rs

-- the bound on the block of n words ws: 8, plus n/2 rounded up, plus what each run of the cut may cost
abbrev pub bound : ℕ → (ws : List ℕ) → Cut ws → ℕ
bound t ws cut = 8 + (length ws + 1) / 2 + added (run_cost t) cut.runs

-- the lesser of what a run may cost and 8 bytes for each of its words
unfoldable pub closer_cost : ℕ → Run → ℕ
closer_cost t r = min (8 * r.count) (run_cost t r)

-- the closer bound: 8, plus n/2 rounded up, plus the lesser cost of each run of the cut
abbrev pub closer_bound : ℕ → (ws : List ℕ) → Cut ws → ℕ
closer_bound t ws cut = 8 + (length ws + 1) / 2 + added (closer_cost t) cut.runs

-- ---- how soon a hash settles

-- an update made k times, from the hash h on
abbrev pub times : ℕ → (ℕ → ℕ) → ℕ → ℕ
times zero update h = h
times (suc k) update h = times k update (update h)

-- k updates settle a hash of t bits: it no longer depends on what it was, and one update more keeps it
pub record Settles (update : ℕ → ℕ) (t k : ℕ) : Type 0 where
  pub forgets : (h g : ℕ) → h < 2 ^ t → g < 2 ^ t → times k update h ≡ times k update g
  pub stays : (h : ℕ) → h < 2 ^ t → times (suc k) update h ≡ times k update h

-- ---- the blocks of some words

-- b is a block of the words ws, with tables of 2 ^ t words, whoever packed it: bytes that can be read, and that read as these words
pub record BlockFor (t : ℕ) (ws b : List ℕ) : Type 0 where
  pub bytes : Bytes b
  pub formed : form_number b ≡ 0
  pub reads : words_in t b ≡ ws
