-- The blocks that stand whole at the start of bytes, and the file that salvage makes of them.
use Rattle.std.specs.Prelude.{ℕ, zero, suc, ◌+◌, List, [], ◌∷◌, Bool, cond, ◌&&◌, leb, eqb, length, take, drop}
use Rattle.block_rules.specs.Block.{stated_length}
use Rattle.block_rules.specs.Numbers.{block_number}
use Rattle.exam_rules.specs.File.{File}
use Rattle.exam_rules.specs.Pieces.{Piece, file_of_pieces}

-- whether a well-formed block stands at the start of bytes: the length that it states is within them, and check accepts exactly those bytes
unfoldable pub block_stands : List ℕ → Bool
block_stands bs = leb (stated_length bs) (length bs) && eqb (block_number (take (stated_length bs) bs)) 0

-- the blocks from the start of bytes on, one after another, while a well-formed block stands there, up to n
unfoldable pub whole_blocks : ℕ → List ℕ → List (List ℕ)
whole_blocks zero bs = []
whole_blocks (suc n) bs = cond (block_stands bs) (take (stated_length bs) bs ∷ whole_blocks n (drop (stated_length bs) bs)) []

-- blocks as pieces, with slots from a number up
abbrev pub numbered : ℕ → List (List ℕ) → List Piece
numbered slot [] = []
numbered slot (b ∷ bs) = record { slot = slot; block = b } ∷ numbered (slot + 1) bs

-- the file that salvage makes of old bytes: their whole blocks, up to 1,024, with slots from 0 up
unfoldable pub salvaged_file : List ℕ → ℕ → ℕ → File
salvaged_file old exam t = file_of_pieces exam t (numbered 0 (whole_blocks 1024 old))
