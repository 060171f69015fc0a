-- The lister's text: a line for the exam, a heading, a line for each slot. Numbers are decimal, with one space between fields.
use Rattle.std.specs.Prelude.{ℕ, zero, suc, ◌+◌, ◌*◌, ◌/◌, ◌%◌, ◌^◌, List, [], ◌∷◌, ◌++◌, cond, ltb, length}
use Prim.Native.String.{String, [] as []ˢ, ◌∷◌ as ◌∷ˢ◌}
use Prim.Native.Char.{code}
use Rattle.block_rules.specs.Block.{count}
use Rattle.exam_rules.specs.File.{Entry, File, block_of}

-- a number below 10 as a digit: `0` is 48
abbrev pub digit : ℕ → List ℕ
digit d = (48 + d) ∷ []

-- the decimal digits of a number that has at most k of them, no zero in front
abbrev pub decimal_of : ℕ → ℕ → List ℕ
decimal_of zero n = []
decimal_of (suc k) n = cond (ltb n 10) (digit n) (decimal_of k (n / 10) ++ digit (n % 10))

-- a 64-bit number in decimal: it has at most 20 digits
unfoldable pub decimal : ℕ → List ℕ
decimal n = decimal_of 20 n

-- the bytes of a text: the codes of its letters
abbrev pub ascii : String → List ℕ
ascii []ˢ = []
ascii (c ∷ˢ s) = code c ∷ ascii s

-- the first line: exam number, table entries, slot count
unfoldable pub exam_line : ℕ → ℕ → ℕ → List ℕ
exam_line exam t slots = ascii "exam " ++ decimal exam ++ ascii " table " ++ decimal (2 ^ t) ++ ascii " slots " ++ decimal slots ++ ascii "\n"

-- the heading
abbrev pub heading : List ℕ
heading = ascii "slot words bytes\n"

-- the line of a slot: slot, word count, block length
unfoldable pub slot_line : ℕ → ℕ → ℕ → List ℕ
slot_line slot words bytes = decimal slot ++ ascii " " ++ decimal words ++ ascii " " ++ decimal bytes ++ ascii "\n"

-- a line for each entry of a file, in file order
abbrev pub slot_lines : File → List Entry → List ℕ
slot_lines f [] = []
slot_lines f (e ∷ es) = slot_line e.slot (count (block_of f e)) e.size ++ slot_lines f es

-- the whole text
unfoldable pub listing : File → List ℕ
listing f = exam_line f.exam f.t (length f.entries) ++ heading ++ slot_lines f f.entries

-- the room for the text of n slots, in a file of at most 65,536 bytes: 49 bytes for the first line, 17 for the heading, 23 for each slot
unfoldable pub most_text : ℕ → ℕ
most_text n = 66 + 23 * n
