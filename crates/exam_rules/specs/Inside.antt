-- What inner functions of more than one crate require and ensure. No promise of a call is stated here.
use Rattle.std.specs.Prelude.{◌≡◌, ℕ, ◌+◌, ◌*◌, ◌/◌, ◌≤◌, List, length}
use Rattle.exam_rules.specs.File.{Entry}
use Rattle.exam_rules.specs.Reading.{entries_at, file_in}
use Rattle.exam_rules.specs.Numbers.{trailer_number, directory_number}
use Rattle.exam_rules.specs.Calls.{trailer_of}
use Rattle.exam_rules.specs.declared.Trailer.{Trailer}

-- room for n entries at a place, at most 1,024
pub record Entries (f : List ℕ) (at n : ℕ) : Type 0 where
  pub room : at + 12 * n ≤ length f
  pub few : n ≤ 1024

-- the entries that a directory's bytes list
unfoldable pub entries_listed : List ℕ → List Entry
entries_listed directory = entries_at directory 0 (length directory / 12)

-- a file that is open, and its trailer
pub record Standing (f : List ℕ) (tr : Trailer) : Type 0 where
  pub trailer : tr ≡ trailer_of (file_in f)
  pub rules : trailer_number f ≡ 0
  pub directory : directory_number (file_in f) ≡ 0
