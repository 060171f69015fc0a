-- The file of a list of maps: what create and then an append for each map make.
use Rattle.std.specs.Prelude.{ℕ, ◌+◌, List, [], ◌∷◌, map, cond, eqb}
use Rattle.block_rules.specs.Codes.{Choice}
use Rattle.block_rules.specs.Block.{block_by, block}
use Rattle.exam_rules.specs.File.{File}
use Rattle.exam_rules.specs.Pieces.{Piece, file_of_pieces}

-- a map: its slot and its words
pub record Map : Type 0 where
  pub slot : ℕ
  pub words : List ℕ

-- the piece of a map: its slot and the block of its words
abbrev pub piece_of : ℕ → Map → Piece
piece_of t m = record { slot = m.slot; block = block t m.words }

-- the file of maps: the file of their pieces
abbrev pub file_of : ℕ → ℕ → List Map → File
file_of exam t ms = file_of_pieces exam t (map (piece_of t) ms)

-- the piece of a map that was packed by a choice of its own
abbrev pub piece_by : (Map → Choice) → ℕ → Map → Piece
piece_by choice t m = record { slot = m.slot; block = block_by (choice m) t m.words }

-- the file of maps that were packed so: one with maps that were packed before request L2, some or all
abbrev pub file_by : (Map → Choice) → ℕ → ℕ → List Map → File
file_by choice exam t ms = file_of_pieces exam t (map (piece_by choice t) ms)

-- the changed list of maps: other words for the map of a slot
abbrev pub changed : ℕ → List ℕ → List Map → List Map
changed slot words [] = []
changed slot words (m ∷ ms) = cond (eqb m.slot slot) (record { slot = m.slot; words = words } ∷ ms) (m ∷ changed slot words ms)

-- the renumbered list of maps: their slots are lost, and they get others, from a number up
abbrev pub renumbered_from : ℕ → List Map → List Map
renumbered_from slot [] = []
renumbered_from slot (m ∷ ms) = record { slot = slot; words = m.words } ∷ renumbered_from (slot + 1) ms
