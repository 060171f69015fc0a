-- Bytes, the least significant first.
use Rattle.std.specs.Prelude.{ℕ, zero, suc, ◌+◌, ◌*◌, ◌/◌, ◌%◌, ◌<◌, Bool, true, false, ◌&&◌, List, [], ◌∷◌, take, drop, ◌==◌, slice_index}

-- every number of the list is a byte: it fits in 8 bits
abbrev pub Bytes : List ℕ → Type 0
Bytes bs = (i : ℕ) → slice_index bs i < 256

-- the k low bytes of x, low byte first
abbrev pub low_bytes : ℕ → ℕ → List ℕ
low_bytes zero x = []
low_bytes (suc k) x = x % 256 ∷ low_bytes k (x / 256)

-- the number that bytes make, low byte first
abbrev pub number : List ℕ → ℕ
number [] = 0
number (b ∷ bs) = b + 256 * number bs

-- the number in a field of k bytes that starts at a place
abbrev pub field : ℕ → ℕ → List ℕ → ℕ
field k at bs = number (take k (drop at bs))

-- whether two lists have the same bytes
abbrev pub same_bytes : List ℕ → List ℕ → Bool
same_bytes [] [] = true
same_bytes [] (b ∷ bs) = false
same_bytes (a ∷ xs) [] = false
same_bytes (a ∷ xs) (b ∷ bs) = a == b && same_bytes xs bs
