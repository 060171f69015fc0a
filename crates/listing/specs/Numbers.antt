-- The number that listing answers: checks in order, where the first failure answers.
use Rattle.std.specs.Prelude.{ℕ, List, [], ◌∷◌, leb, length}
use Rattle.answers.specs.Answers.{unless, first_failure}
use Rattle.block_rules.specs.Numbers.{block_number}
use Rattle.exam_rules.specs.File.{Entry, File, block_of}
use Rattle.exam_rules.specs.Reading.{exam_in, file_in}
use Rattle.exam_rules.specs.Numbers.{open_number}
use Rattle.listing.specs.Text.{most_text}

-- the lister takes a file of at most 65,536 bytes
abbrev pub most_listed : ℕ
most_listed = 65536

-- checks all blocks, in file order
abbrev pub blocks_number : File → List Entry → ℕ
blocks_number f [] = 0
blocks_number f (e ∷ es) = first_failure (block_number (block_of f e) ∷ blocks_number f es ∷ [])

-- list the file f into room for some bytes: 3 beyond the limit; open's, for the exam number in the trailer; all blocks' numbers; 3
unfoldable pub list_number : List ℕ → ℕ → ℕ
list_number f room =
    first_failure
    (unless (leb (length f) most_listed) 3
    ∷ open_number f (exam_in f)
    ∷ blocks_number (file_in f) (file_in f).entries
    ∷ unless (leb (most_text (length (file_in f).entries)) room) 3
    ∷ [])
