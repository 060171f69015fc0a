-- What the inner functions ensure. No promise of a call is stated here.
use Rattle.std.specs.Prelude.{ℕ, ◌%◌, [], ◌∷◌, get_or}

-- the least number that the two top residual bytes of a code may make: 256 where the top byte may not be 0, 1 where the two may not both be, 0 where there is none
-- low three bits     0     1     2     3     4     5     6     7
-- least            256   256   256     1   256   256   256     0
unfoldable pub least_top : ℕ → ℕ
least_top c = get_or (256 ∷ 256 ∷ 256 ∷ 1 ∷ 256 ∷ 256 ∷ 256 ∷ 0 ∷ []) (c % 8) 0
