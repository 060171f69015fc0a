-- What the lister writes for its input.
use Rattle.std.specs.Prelude.{ℕ, List}
use Rattle.exam_rules.specs.Reading.{file_in}
use Rattle.listing.specs.Text.{listing}
use Rattle.listing.specs.Numbers.{list_number}
use Rattle.streams.specs.Refusal.{output_of, errors_of}

-- the room for the text: enough for every file that it takes
abbrev pub lister_room : ℕ
lister_room = 23618

-- what it writes to its output: the text, or nothing where it refuses
unfoldable pub lister_output : List ℕ → List ℕ
lister_output input = output_of (list_number input lister_room) (listing (file_in input))

-- what it writes to its errors: nothing, or the refusal
unfoldable pub lister_errors : List ℕ → List ℕ
lister_errors input = errors_of (list_number input lister_room)
