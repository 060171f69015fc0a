-- What the inner functions require and ensure. No promise of a call is stated here.
use Rattle.std.specs.Prelude.{◌≡◌, ℕ, ◌+◌, ◌*◌, ◌≤◌, List, cond, length, Option, None, Some}
use Rattle.answers.specs.Answers.{over}
use Rattle.block_rules.specs.Block.{stated_length}
use Rattle.exam_rules.specs.File.{file_length, file_bytes}
use Rattle.exam_rules.specs.Pieces.{blocks_of}
use Rattle.exam_rules.specs.Salvage.{block_stands, whole_blocks, numbered, salvaged_file}
use Rattle.exam_salvaging.specs.declared.Found.{Found}

-- the size of the block that stands at the start of bytes, where one does
unfoldable pub standing_size : List ℕ → Option ℕ
standing_size bs = cond (block_stands bs) (Some (stated_length bs)) None

-- the whole blocks at the start of old bytes: how many, and where the last ends
pub record FoundIn (old : List ℕ) (s : Found) : Type 0 where
  pub kept : s.kept ≡ length (whole_blocks 1024 old)
  pub end : s.end ≡ length (blocks_of (numbered 0 (whole_blocks 1024 old)))

-- the length of a file of so many blocks, of which the last ends at a place
abbrev pub new_length : ℕ → ℕ → ℕ
new_length kept end = end + 12 * kept + 32

-- room for the entries of the n whole blocks of old bytes at a place
pub record Listing (file old : List ℕ) (at n : ℕ) : Type 0 where
  pub many : n ≡ length (whole_blocks 1024 old)
  pub room : at + 12 * n ≤ length file

-- room for the file of the whole blocks of old bytes
pub record Rebuilding (file old : List ℕ) (s : Found) : Type 0 where
  pub found : FoundIn old s
  pub room : new_length s.kept s.end ≤ length file

-- the file of the whole blocks of old bytes is written, and its length is answered
pub record Rebuilds (file old : List ℕ) (exam t : ℕ) (file' : List ℕ) (l : ℕ) : Type 0 where
  pub end : l ≡ file_length (salvaged_file old exam t)
  pub bytes : file' ≡ over (file_bytes (salvaged_file old exam t)) file
