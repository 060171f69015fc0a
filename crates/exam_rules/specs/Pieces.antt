-- The file of pieces: blocks of any bytes one after another, and an entry for each.
use Rattle.std.specs.Prelude.{ℕ, ◌+◌, List, [], ◌∷◌, ◌++◌, length}
use Rattle.exam_rules.specs.File.{Entry, entry, File}

-- a piece: its slot and the bytes of its block
pub record Piece : Type 0 where
  pub slot : ℕ
  pub block : List ℕ

-- the blocks of pieces, one after another
abbrev pub blocks_of : List Piece → List ℕ
blocks_of [] = []
blocks_of (p ∷ ps) = p.block ++ blocks_of ps

-- the entries of pieces whose first block starts at a place
abbrev pub entries_of : ℕ → List Piece → List Entry
entries_of at [] = []
entries_of at (p ∷ ps) = entry p.slot at (length p.block) ∷ entries_of (at + length p.block) ps

-- the file of pieces
abbrev pub file_of_pieces : ℕ → ℕ → List Piece → File
file_of_pieces exam t ps = record { edition = 1; t = t; exam = exam; body = blocks_of ps; entries = entries_of 0 ps }
