-- The block: word count, length of the whole block, codes, residual bytes; and what a block reads as.
use Rattle.std.specs.Prelude.{ℕ, ◌+◌, ◌*◌, ◌/◌, ◌%◌, List, [], ◌∷◌, ◌++◌, Bool, true, not, ◌&&◌, length, get_or, take, drop}
use Rattle.words.specs.Bytes.{low_bytes, number, field}
use Rattle.block_rules.specs.Predictors.{cleared}
use Rattle.block_rules.specs.Codes.{Choice, dfcm_chosen, coded_words, residual_bytes, padded, written, decoded_words}
use Rattle.block_rules.specs.declared.Coded.{Coded}

-- the codes of coded words
abbrev pub codes : List Coded → List ℕ
codes [] = []
codes (c ∷ cs) = c.code ∷ codes cs

-- two codes a byte, the first in the high half; with an odd count the last low half is 7
abbrev pub code_bytes : List ℕ → List ℕ
code_bytes [] = []
code_bytes (c ∷ []) = (c * 16 + 7) ∷ []
code_bytes (c ∷ d ∷ cs) = (c * 16 + d) ∷ code_bytes cs

-- the residual bytes of coded words
abbrev pub all_residual_bytes : List Coded → List ℕ
all_residual_bytes [] = []
all_residual_bytes (c ∷ cs) = residual_bytes c ++ all_residual_bytes cs

-- all codes, then all residual bytes
unfoldable pub body : List Coded → List ℕ
body cs = code_bytes (codes cs) ++ all_residual_bytes cs

-- coded words arranged as a block: count (4 bytes), length of the whole block (4), codes, residual bytes
unfoldable pub arranged : List Coded → List ℕ
arranged cs = low_bytes 4 (length cs) ++ low_bytes 4 (8 + length (body cs)) ++ body cs

-- the block of the words ws by a choice, with tables of 2 ^ t words
unfoldable pub block_by : Choice → ℕ → List ℕ → List ℕ
block_by choice t ws = arranged (coded_words choice t (cleared t) ws)

-- the block of the words ws: by the rule's choice
unfoldable pub block : ℕ → List ℕ → List ℕ
block t ws = block_by dfcm_chosen t ws

-- where the residual bytes of n words start: after the two fields and n/2, rounded up, code bytes
abbrev pub residuals_at : ℕ → ℕ
residuals_at n = 8 + (n + 1) / 2

-- W(n), the worst length of a block of n words: 8 + n/2 rounded up + 8n
abbrev pub worst : ℕ → ℕ
worst n = residuals_at n + 8 * n

-- ---- what a block reads as

-- the word count that it declares
abbrev pub count : List ℕ → ℕ
count b = field 4 0 b

-- the length that it states
abbrev pub stated_length : List ℕ → ℕ
stated_length b = field 4 4 b

-- the two halves of each byte, the high half first
abbrev pub halves : List ℕ → List ℕ
halves [] = []
halves (b ∷ bs) = b / 16 ∷ b % 16 ∷ halves bs

-- the counted codes, or those that are there where the block is too short for them
unfoldable pub counted_codes : List ℕ → List ℕ
counted_codes b = take (count b) (halves (drop 8 b))

-- the half after the last counted code: the last low half, where the count is odd
unfoldable pub last_half : List ℕ → ℕ
last_half b = get_or (halves (drop 8 b)) (count b) 0

-- how many residual bytes codes have, all together
abbrev pub residual_length : List ℕ → ℕ
residual_length [] = 0
residual_length (c ∷ cs) = written c + residual_length cs

-- codes with their residuals, taken one after another from the residual bytes
abbrev pub with_residuals : List ℕ → List ℕ → List Coded
with_residuals [] bs = []
with_residuals (c ∷ cs) bs = record { code = c; residual = number (take (written c) bs) } ∷ with_residuals cs (drop (written c) bs)

-- the coded words of a block: the counted codes, with their residuals
unfoldable pub coded_in : List ℕ → List Coded
coded_in b = with_residuals (counted_codes b) (drop (residuals_at (count b)) b)

-- whether no code of coded words is padded
abbrev pub none_padded : List Coded → Bool
none_padded [] = true
none_padded (c ∷ cs) = not (padded c) && none_padded cs

-- the words of a block, with tables of 2 ^ t words
unfoldable pub words_in : ℕ → List ℕ → List ℕ
words_in t b = decoded_words t (cleared t) (coded_in b)
