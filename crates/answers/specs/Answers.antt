-- The numbers that calls answer: checks in order, where the first failure answers; what a refusal leaves.
use Rattle.std.specs.Prelude.{ℕ, zero, suc, List, [], ◌∷◌, ◌++◌, Bool, cond, length, drop}

-- a check: unless the test holds, its number; else 0
unfoldable pub unless : Bool → ℕ → ℕ
unless test k = cond test 0 k

-- the first failure answers: the first number of the list that isn't 0, or 0
unfoldable pub first_failure : List ℕ → ℕ
first_failure [] = 0
first_failure (zero ∷ ks) = first_failure ks
first_failure (suc k ∷ ks) = suc k

-- what there is afterwards, where the number k is answered: the new where k is 0, done; the old where k is a refusal
unfoldable pub afterwards {ℓ} : {A : Type ℓ} → ℕ → A → A → A
afterwards zero new old = new
afterwards (suc k) new old = old

-- a lent output after success: its result first and its old content beyond
abbrev pub over : List ℕ → List ℕ → List ℕ
over result old = result ++ drop (length result) old
