-- The two predictors: what they hold, what they predict, and what they learn from a word.
use Rattle.std.specs.Prelude.{ℕ, ◌^◌, List, [], ◌∷◌, get_or, set, replicate}
use Rattle.words.specs.Words.{add64, sub64, shifted_left, shifted_right, low_bits, xor}

-- what the predictors hold: two tables, two hashes, the last word
pub record Memory : Type 0 where
  pub fcm : List ℕ
  pub dfcm : List ℕ
  pub fcm_hash : ℕ
  pub dfcm_hash : ℕ
  pub last : ℕ

-- before each block: both tables, of 2 ^ t words, both hashes and the last word are zero
unfoldable pub cleared : ℕ → Memory
cleared t = record { fcm = replicate (2 ^ t) 0; dfcm = replicate (2 ^ t) 0; fcm_hash = 0; dfcm_hash = 0; last = 0 }

-- fcm: the prediction is the entry at the fcm hash
unfoldable pub fcm_prediction : Memory → ℕ
fcm_prediction m = get_or m.fcm m.fcm_hash 0

-- the new fcm hash: (old hash shifted left by 6) xor (v shifted right by 48), reduced to its low t bits
unfoldable pub next_fcm_hash : ℕ → ℕ → ℕ → ℕ
next_fcm_hash t h v = low_bits t (xor (shifted_left 6 h) (shifted_right 48 v))

-- dfcm: the prediction is the entry at the dfcm hash plus the last word
unfoldable pub dfcm_prediction : Memory → ℕ
dfcm_prediction m = add64 (get_or m.dfcm m.dfcm_hash 0) m.last

-- the difference d: v minus the last word
unfoldable pub difference : Memory → ℕ → ℕ
difference m v = sub64 v m.last

-- the new dfcm hash: (old hash shifted left by 2) xor (d shifted right by 40), reduced to its low t bits
unfoldable pub next_dfcm_hash : ℕ → ℕ → ℕ → ℕ
next_dfcm_hash t h d = low_bits t (xor (shifted_left 2 h) (shifted_right 40 d))

-- what is held after the word v: v stored at the fcm hash, d at the dfcm hash, the new hashes, and v as the last word
unfoldable pub learn : ℕ → Memory → ℕ → Memory
learn t m v =
    record {
      fcm = set m.fcm m.fcm_hash v;
      dfcm = set m.dfcm m.dfcm_hash (difference m v);
      fcm_hash = next_fcm_hash t m.fcm_hash v;
      dfcm_hash = next_dfcm_hash t m.dfcm_hash (difference m v);
      last = v;
    }

-- what is held after words
abbrev pub after : ℕ → Memory → List ℕ → Memory
after t m [] = m
after t m (v ∷ vs) = after t (learn t m v) vs
