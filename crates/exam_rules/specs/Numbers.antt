-- The numbers that the file's calls answer, in order; the first failure answers.
use Rattle.std.specs.Prelude.{ℕ, min, ◌+◌, ◌-◌, ◌*◌, ◌^◌, List, [], ◌∷◌, Bool, leb, ltb, eqb, length, take}
use Rattle.words.specs.Bytes.{same_bytes}
use Rattle.answers.specs.Answers.{unless, first_failure}
use Rattle.block_rules.specs.Block.{worst, count}
use Rattle.block_rules.specs.Numbers.{block_number}
use Rattle.exam_rules.specs.File.{Entry, File, mark, block_of}
use Rattle.exam_rules.specs.declared.Record.{Record}
use Rattle.exam_rules.specs.Reading.{mark_in, edition_in, t_in, exam_in, distance_in, entries_in, length_in, file_in, index_of, entry_of}

-- a file has at most 16,777,216 bytes
abbrev pub most_bytes : ℕ
most_bytes = 16777216

-- the editions there are
unfoldable pub edition_known : ℕ → Bool
edition_known e = eqb e 1

-- how neighbours join: what comes next starts where what came before ends
unfoldable pub joins : ℕ → ℕ → Bool
joins end next = eqb end next

-- the entries of a directory, of which the first slot is at least `lowest`, where the block before ends at `from`, the directory starts at `to`,
-- and a test says how neighbours join: slots strictly ascend, each block joins the one before and has at least 8 bytes, and the directory joins the last
abbrev pub entries_number : (ℕ → ℕ → Bool) → ℕ → ℕ → List Entry → ℕ → ℕ
entries_number test lowest from [] to = unless (test from to) 9
entries_number test lowest from (e ∷ es) to =
    first_failure
    (unless (leb lowest e.slot) 9
    ∷ unless (test from e.offset) 9
    ∷ unless (leb 8 e.size) 9
    ∷ entries_number test (e.slot + 1) (e.offset + e.size) es to
    ∷ [])

-- the directory's rule: the first block starts at 0, each next where the one before ends, and the directory where the last ends
unfoldable pub directory_number : File → ℕ
directory_number f = entries_number joins 0 0 f.entries (length f.body)

-- the trailer's numbers at the end of l bytes: the edition, t, the distance back to the directory, the entries, the file length that is stated
unfoldable pub fields_number : ℕ → ℕ → ℕ → ℕ → ℕ → ℕ → ℕ
fields_number edition t distance entries stated l =
    first_failure
    (unless (edition_known edition) 7
    ∷ unless (leb t 16) 7
    ∷ unless (leb entries 1024) 7
    ∷ unless (eqb distance (32 + 12 * entries)) 7
    ∷ unless (leb distance l) 7
    ∷ unless (eqb stated l) 7
    ∷ [])

-- the trailer of the file f, but for the exam number: 4, 7
unfoldable pub trailer_number : List ℕ → ℕ
trailer_number f =
    first_failure
    (unless (leb 32 (length f)) 4
    ∷ unless (leb (length f) most_bytes) 7
    ∷ unless (same_bytes (mark_in f) mark) 7
    ∷ fields_number (edition_in f) (t_in f) (distance_in f) (entries_in f) (length_in f) (length f)
    ∷ [])

-- open the file f for an exam: 4, 7, 8, 9
unfoldable pub open_number : List ℕ → ℕ → ℕ
open_number f exam =
    first_failure
    (trailer_number f
    ∷ unless (ltb 0 exam) 8
    ∷ unless (eqb (exam_in f) exam) 8
    ∷ directory_number (file_in f)
    ∷ [])

-- open the first l bytes of a buffer b: 4 where l is beyond the buffer
unfoldable pub open_in_number : List ℕ → ℕ → ℕ → ℕ
open_in_number b l exam =
    first_failure
    (unless (leb l (length b)) 4
    ∷ open_number (take l b) exam
    ∷ [])

-- find a slot among the entries of a file: 10
unfoldable pub slot_number : File → ℕ → ℕ
slot_number f slot = unless (ltb (index_of slot f.entries) (length f.entries)) 10

-- find a slot: open, 10
unfoldable pub find_number : List ℕ → ℕ → ℕ → ℕ → ℕ
find_number b l exam slot =
    first_failure
    (open_in_number b l exam
    ∷ slot_number (file_in (take l b)) slot
    ∷ [])

-- the block of a slot in the first l bytes of a buffer
unfoldable pub block_in : List ℕ → ℕ → ℕ → List ℕ
block_in b l slot = block_of (file_in (take l b)) (entry_of slot (file_in (take l b)))

-- the tables of a file, of f and d words: 1 where they differ, or are not of 2 ^ t words
unfoldable pub file_tables_number : ℕ → ℕ → ℕ → ℕ
file_tables_number t f d =
    first_failure
    (unless (eqb f d) 1
    ∷ unless (eqb f (2 ^ t)) 1
    ∷ [])

-- fetch the words of the block b, of a file with this t, once a slot was looked for: the number of that, 1, block checks, 3
unfoldable pub found_number : ℕ → List ℕ → ℕ → ℕ → ℕ → ℕ → ℕ
found_number found b t f d room =
    first_failure
    (found
    ∷ file_tables_number t f d
    ∷ block_number b
    ∷ unless (leb (count b) room) 3
    ∷ [])

-- fetch a slot's words with tables of f and d words into room for some words: find, 1, block checks, 3
unfoldable pub fetch_number : List ℕ → ℕ → ℕ → ℕ → ℕ → ℕ → ℕ → ℕ
fetch_number b l exam slot f d room = found_number (find_number b l exam slot) (block_in b l slot) (file_in (take l b)).t f d room

-- create an empty file in room for some bytes: 8, 7, 3
unfoldable pub create_number : ℕ → ℕ → ℕ → ℕ
create_number exam t room =
    first_failure
    (unless (ltb 0 exam) 8
    ∷ unless (leb t 16) 7
    ∷ unless (leb 32 room) 3
    ∷ [])

-- the lowest slot that may come after entries, where none below `lowest` may
abbrev pub next_slot : ℕ → List Entry → ℕ
next_slot lowest [] = lowest
next_slot lowest (e ∷ es) = next_slot (e.slot + 1) es

-- store n words in a file as a block, beside so many bytes that are kept, with tables of f and d words for its t, a buffer and a bench buffer
-- of so many bytes: 1, 2, 3
unfoldable pub store_number : ℕ → ℕ → ℕ → ℕ → ℕ → ℕ → ℕ → ℕ
store_number t n f d kept buffer bench =
    first_failure
    (file_tables_number t f d
    ∷ unless (leb n 65536) 2
    ∷ unless (leb (kept + worst n) (min buffer most_bytes)) 3
    ∷ unless (leb (worst n) bench) 3
    ∷ [])

-- append n words as a slot to a file of l bytes and k entries, after which the lowest slot is `next`: 12, 11, then 1, 2, 3, as the file and
-- an entry are kept
unfoldable pub append_number : ℕ → ℕ → ℕ → ℕ → ℕ → ℕ → ℕ → ℕ → ℕ → ℕ → ℕ
append_number k next slot t n f d l buffer bench =
    first_failure
    (unless (ltb k 1024) 12
    ∷ unless (leb next slot) 11
    ∷ store_number t n f d (l + 12) buffer bench
    ∷ [])

-- the same, for the file with these parts
abbrev pub append_number_to : File → ℕ → ℕ → ℕ → ℕ → ℕ → ℕ → ℕ → ℕ
append_number_to file slot n f d l buffer bench = append_number (length file.entries) (next_slot 0 file.entries) slot file.t n f d l buffer bench

-- append the map of a record, where so many words are lent: 15 where its first word plus its word count is above these, then as append
unfoldable pub record_number : Record → ℕ → ℕ → ℕ → ℕ → ℕ → ℕ → ℕ → ℕ → ℕ → ℕ
record_number r words k next t f d l buffer bench =
    first_failure
    (unless (leb (r.first + r.count) words) 15
    ∷ append_number k next r.slot t r.count f d l buffer bench
    ∷ [])

-- the same, for the file with these parts
abbrev pub record_number_to : File → Record → ℕ → ℕ → ℕ → ℕ → ℕ → ℕ → ℕ
record_number_to file r words f d l buffer bench = record_number r words (length file.entries) (next_slot 0 file.entries) file.t f d l buffer bench

-- replace the block of a slot by one of n words, with a bench buffer of so many bytes: find, then 1, 2, 3, as the file less its old block is kept
unfoldable pub replace_number : List ℕ → ℕ → ℕ → ℕ → ℕ → ℕ → ℕ → ℕ → ℕ
replace_number b l exam slot n f d bench =
    first_failure
    (find_number b l exam slot
    ∷ store_number (file_in (take l b)).t n f d (l - (entry_of slot (file_in (take l b))).size) (length b) bench
    ∷ [])

-- salvage blocks into a new file of l bytes, in room for some bytes: 8, 7, 3
unfoldable pub salvage_number : ℕ → ℕ → ℕ → ℕ → ℕ
salvage_number exam t l room =
    first_failure
    (unless (ltb 0 exam) 8
    ∷ unless (leb t 16) 7
    ∷ unless (leb l (min room most_bytes)) 3
    ∷ [])
