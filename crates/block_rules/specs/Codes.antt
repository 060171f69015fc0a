-- The choice between the two predictions, the code of a word, its residual bytes, and the way back.
use Rattle.std.specs.Prelude.{◌≡◌, ℕ, ◌+◌, ◌-◌, ◌%◌, ◌≤◌, List, [], ◌∷◌, Bool, true, false, cond, ◌&&◌, ltb, eqb, get_or}
use Rattle.std.specs.Int.Count.{count_leading_zeros}
use Rattle.words.specs.Words.{xor, zero_bytes}
use Rattle.words.specs.Bytes.{low_bytes}
use Rattle.block_rules.specs.Predictors.{Memory, fcm_prediction, dfcm_prediction, learn}
use Rattle.block_rules.specs.declared.Coded.{Coded}

-- the residual by fcm: v xor the fcm prediction
unfoldable pub fcm_residual : Memory → ℕ → ℕ
fcm_residual m v = xor v (fcm_prediction m)

-- the residual by dfcm: v xor the dfcm prediction
unfoldable pub dfcm_residual : Memory → ℕ → ℕ
dfcm_residual m v = xor v (dfcm_prediction m)

-- a choice: of the residuals f by fcm and d by dfcm, whether dfcm is chosen
abbrev pub Choice : Type 0
Choice = ℕ → ℕ → Bool

-- the rule's choice: dfcm is chosen when its residual has strictly more leading zero bits; otherwise fcm
unfoldable pub dfcm_chosen : Choice
dfcm_chosen f d = ltb (count_leading_zeros 64 f) (count_leading_zeros 64 d)

-- the choice before request L2, of blocks that were packed before: dfcm was chosen when its residual had strictly more leading zero bytes; otherwise fcm
unfoldable pub dfcm_chosen_by_bytes : Choice
dfcm_chosen_by_bytes f d = ltb (zero_bytes f) (zero_bytes d)

-- what a choice keeps so that a block's length does not depend on it: it never takes the residual with fewer leading zero bytes
pub record Thrifty (choice : Choice) : Type 0 where
  pub dfcm : (f d : ℕ) → choice f d ≡ true → zero_bytes f ≤ zero_bytes d
  pub fcm : (f d : ℕ) → choice f d ≡ false → zero_bytes d ≤ zero_bytes f

-- zero bytes       0   1   2   3   4   5   6   7   8
-- low three bits   0   1   2   3   3   4   5   6   7
unfoldable pub low_three : ℕ → ℕ
low_three z = get_or (0 ∷ 1 ∷ 2 ∷ 3 ∷ 3 ∷ 4 ∷ 5 ∷ 6 ∷ 7 ∷ []) z 0

-- low three bits   0   1   2   3   4   5   6   7
-- bytes written    8   7   6   5   3   2   1   0
unfoldable pub written : ℕ → ℕ
written c = get_or (8 ∷ 7 ∷ 6 ∷ 5 ∷ 3 ∷ 2 ∷ 1 ∷ 0 ∷ []) (c % 8) 0

-- a residual with its code: the top bit is 1 for dfcm, the low three bits give the leading zero bytes
unfoldable pub coded_by : Bool → ℕ → Coded
coded_by dfcm r = record { code = cond dfcm 8 0 + low_three (zero_bytes r); residual = r }

-- of the residuals f by fcm and d by dfcm, the chosen one with its code
unfoldable pub chosen : Choice → ℕ → ℕ → Coded
chosen choice f d = cond (choice f d) (coded_by true d) (coded_by false f)

-- the code and the residual of the word v
unfoldable pub coded_word : Choice → Memory → ℕ → Coded
coded_word choice m v = chosen choice (fcm_residual m v) (dfcm_residual m v)

-- the codes and residuals of words, each word learnt before the next
abbrev pub coded_words : Choice → ℕ → Memory → List ℕ → List Coded
coded_words choice t m [] = []
coded_words choice t m (v ∷ vs) = coded_word choice m v ∷ coded_words choice t (learn t m v) vs

-- the residual bytes that are written, low byte first
unfoldable pub residual_bytes : Coded → List ℕ
residual_bytes c = low_bytes (written c.code) c.residual

-- the top residual byte of a code: the last that is written
unfoldable pub top_byte : Coded → ℕ
top_byte c = get_or (residual_bytes c) (written c.code - 1) 0

-- the residual byte below the top one, where two are written or more
unfoldable pub second_byte : Coded → ℕ
second_byte c = get_or (residual_bytes c) (written c.code - 2) 0

-- a padded code: low bits 0 to 6, and its top residual byte is 0; for low bits 3, only when the two top bytes are both 0
unfoldable pub padded : Coded → Bool
padded c = ltb (c.code % 8) 7 && cond (eqb (c.code % 8) 3) (eqb (top_byte c) 0 && eqb (second_byte c) 0) (eqb (top_byte c) 0)

-- ---- the way back

-- the prediction that a code names: dfcm's where the top bit is 1
unfoldable pub named_prediction : Memory → ℕ → ℕ
named_prediction m c = cond (ltb c 8) (fcm_prediction m) (dfcm_prediction m)

-- the word of a code and a residual
unfoldable pub decoded_word : Memory → Coded → ℕ
decoded_word m c = xor c.residual (named_prediction m c.code)

-- the words of codes and residuals, each word learnt before the next
abbrev pub decoded_words : ℕ → Memory → List Coded → List ℕ
decoded_words t m [] = []
decoded_words t m (c ∷ cs) = decoded_word m c ∷ decoded_words t (learn t m (decoded_word m c)) cs
