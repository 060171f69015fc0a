-- Words of 64 bits: sums and differences modulo 2^64, shifts, low bits, xor, leading zero bytes.
use Rattle.std.specs.Prelude.{ℕ, ◌+◌, ◌-◌, ◌*◌, ◌/◌, ◌%◌, ◌^◌, ◌<◌, List, bit_xor, slice_index}
use Rattle.std.specs.Int.Count.{count_leading_zeros}

-- every number of the list is a word: it fits in 64 bits
abbrev pub Words : List ℕ → Type 0
Words ws = (i : ℕ) → slice_index ws i < 2 ^ 64

-- the sum modulo 2^64
unfoldable pub add64 : ℕ → ℕ → ℕ
add64 a b = (a + b) % 2 ^ 64

-- the difference modulo 2^64
unfoldable pub sub64 : ℕ → ℕ → ℕ
sub64 a b = (a + (2 ^ 64 - b)) % 2 ^ 64

-- x shifted left by k bits
unfoldable pub shifted_left : ℕ → ℕ → ℕ
shifted_left k x = x * 2 ^ k

-- x shifted right by k bits
unfoldable pub shifted_right : ℕ → ℕ → ℕ
shifted_right k x = x / 2 ^ k

-- the low t bits of x
unfoldable pub low_bits : ℕ → ℕ → ℕ
low_bits t x = x % 2 ^ t

-- the exclusive or, bit by bit
unfoldable pub xor : ℕ → ℕ → ℕ
xor a b = bit_xor a b

-- the leading zero bytes: how many of a word's eight bytes, from the top, are zero
unfoldable pub zero_bytes : ℕ → ℕ
zero_bytes r = count_leading_zeros 64 r / 8
