-- What the inner functions require and ensure. No promise of a call is stated here.
use Rattle.std.specs.Prelude.{◌≡◌, ℕ, ◌+◌, ◌*◌, ◌≤◌, ◌<◌, List, ◌++◌, length, take, drop}
use Rattle.std.proofs.lemmas.List.Edits.{sets}
use Rattle.exam_rules.specs.File.{entry, entry_bytes, trailer_bytes}
use Rattle.exam_rules.specs.Numbers.{most_bytes}
use Rattle.exam_rules.specs.declared.Trailer.{Trailer}

-- the trailer of a file stands behind the directory, and the file's length is answered
pub record Trails (b : List ℕ) (tr : Trailer) (exam : ℕ) (b' : List ℕ) (l : ℕ) : Type 0 where
  pub end : l ≡ tr.start + 12 * tr.entries + 32
  pub bytes : b' ≡ sets b (tr.start + 12 * tr.entries) (trailer_bytes tr.edition tr.t exam tr.entries l)

-- a file with this trailer, and room for a block, an entry and the new trailer
pub record Adding (b blk : List ℕ) (tr : Trailer) : Type 0 where
  pub few : tr.entries < 1024
  pub room : tr.start + length blk + 12 * tr.entries + 44 ≤ length b
  pub small : tr.start + length blk + 12 * tr.entries + 44 ≤ most_bytes

-- a block, the directory, an entry more and a new trailer stand from the directory's old start on
pub record Adds (b blk : List ℕ) (tr : Trailer) (slot exam : ℕ) (b' : List ℕ) (l : ℕ) : Type 0 where
  pub end : l ≡ tr.start + length blk + 12 * tr.entries + 44
  pub bytes :
      b'
      ≡ sets b tr.start
      (blk ++ take (12 * tr.entries) (drop tr.start b) ++ entry_bytes (entry slot tr.start (length blk)) ++ trailer_bytes tr.edition tr.t exam (tr.entries + 1) l)
