-- What the inner functions require and ensure. No promise of a call is stated here.
use Rattle.std.specs.Prelude.{ℕ, List, length}
use Rattle.block_rules.specs.Calls.{UnpacksWhere, Unpacked}
use Rattle.exam_rules.specs.File.{block_of}
use Rattle.exam_rules.specs.Reading.{file_in, entry_of}
use Rattle.exam_rules.specs.Numbers.{slot_number, found_number}

-- the block of a slot in a file that is open
abbrev pub opened_block : List ℕ → ℕ → List ℕ
opened_block f slot = block_of (file_in f) (entry_of slot (file_in f))

-- fetching a slot from a file that is open: 10, 1, block checks, 3; then as unpack leaves them, with tables of 2 ^ t words
module _ (f : List ℕ) (slot : ℕ) (fcm dfcm words : List ℕ) where
  abbrev pub opened_fetch_number : ℕ
  opened_fetch_number = found_number (slot_number (file_in f) slot) (opened_block f slot) (file_in f).t (length fcm) (length dfcm) (length words)

  abbrev pub FetchesOpened : Unpacked → List ℕ → List ℕ → List ℕ → Type 0
  FetchesOpened r fcm' dfcm' words' = UnpacksWhere opened_fetch_number (file_in f).t (opened_block f slot) fcm dfcm words r fcm' dfcm' words'
