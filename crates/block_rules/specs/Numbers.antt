-- The numbers that pack, check and unpack answer, in order; the first failure answers.
use Rattle.std.specs.Prelude.{ℕ, ◌^◌, ◌%◌, ◌+◌, List, [], ◌∷◌, Bool, true, cond, ◌&&◌, leb, eqb, length}
use Rattle.std.specs.Int.Count.{count_trailing_zeros}
use Rattle.answers.specs.Answers.{unless, first_failure}
use Rattle.block_rules.specs.Block.{count, stated_length, residuals_at, counted_codes, last_half, residual_length, coded_in, none_padded, worst}

-- the t of a table of n words, where n is 2 ^ t: the zero bits below n's lowest set bit
unfoldable pub t_of : ℕ → ℕ
t_of n = count_trailing_zeros 64 n

-- a power of two from 1 to 65,536: 2 ^ t, with t from 0 to 16
unfoldable pub is_table_length : ℕ → Bool
is_table_length n = leb (t_of n) 16 && eqb n (2 ^ t_of n)

-- the number for tables of f and d words: 1
unfoldable pub tables_number : ℕ → ℕ → ℕ
tables_number f d =
    first_failure
    (unless (eqb f d) 1
    ∷ unless (is_table_length f) 1
    ∷ [])

-- the number for packing n words, with tables of f and d words, into room for some bytes: 1, 2, 3
unfoldable pub pack_number : ℕ → ℕ → ℕ → ℕ → ℕ
pack_number n f d room =
    first_failure
    (tables_number f d
    ∷ unless (leb n 65536) 2
    ∷ unless (leb (worst n) room) 3
    ∷ [])

-- an odd count has 7 as the last low half
unfoldable pub filler_stands : List ℕ → Bool
filler_stands b = cond (eqb (count b % 2) 1) (eqb (last_half b) 7) true

-- the number for the form of the block b: 4, 2, 5, 6; where it is 0 the block can be read
unfoldable pub form_number : List ℕ → ℕ
form_number b =
    first_failure
    (unless (leb 8 (length b)) 4
    ∷ unless (leb (count b) 65536) 2
    ∷ unless (eqb (stated_length b) (length b)) 5
    ∷ unless (eqb (stated_length b) (residuals_at (count b) + residual_length (counted_codes b))) 5
    ∷ unless (filler_stands b) 6
    ∷ [])

-- the number for checking the block b: its form's, then 13 where a counted code is padded
unfoldable pub block_number : List ℕ → ℕ
block_number b =
    first_failure
    (form_number b
    ∷ unless (none_padded (coded_in b)) 13
    ∷ [])

-- the number for unpacking the block b, with tables of f and d words, into room for some words: 1, then check's, then 3
unfoldable pub unpack_number : List ℕ → ℕ → ℕ → ℕ → ℕ
unpack_number b f d room =
    first_failure
    (tables_number f d
    ∷ block_number b
    ∷ unless (leb (count b) room) 3
    ∷ [])
