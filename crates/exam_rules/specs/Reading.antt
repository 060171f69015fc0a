-- What the bytes of a file read as, from the end.
use Rattle.std.specs.Prelude.{ℕ, zero, suc, ◌+◌, ◌-◌, List, [], ◌∷◌, cond, eqb, length, take, drop, get_or}
use Rattle.words.specs.Bytes.{field}
use Rattle.exam_rules.specs.File.{Entry, entry, File}

-- where the trailer starts
abbrev pub trailer_at : List ℕ → ℕ
trailer_at f = length f - 32

-- the trailer's fields: mark, edition, t, exam number, distance back to the directory, entries, file length
abbrev pub mark_in : List ℕ → List ℕ
mark_in f = take 4 (drop (trailer_at f) f)

abbrev pub edition_in : List ℕ → ℕ
edition_in f = field 2 (trailer_at f + 4) f

abbrev pub t_in : List ℕ → ℕ
t_in f = field 2 (trailer_at f + 6) f

abbrev pub exam_in : List ℕ → ℕ
exam_in f = field 8 (trailer_at f + 8) f

abbrev pub distance_in : List ℕ → ℕ
distance_in f = field 4 (trailer_at f + 16) f

abbrev pub entries_in : List ℕ → ℕ
entries_in f = field 4 (trailer_at f + 20) f

abbrev pub length_in : List ℕ → ℕ
length_in f = field 8 (trailer_at f + 24) f

-- where the directory starts
abbrev pub directory_at : List ℕ → ℕ
directory_at f = length f - distance_in f

-- the entry at a place
unfoldable pub entry_at : List ℕ → ℕ → Entry
entry_at f at = entry (field 4 at f) (field 4 (at + 4) f) (field 4 (at + 8) f)

-- n entries from a place on
abbrev pub entries_at : List ℕ → ℕ → ℕ → List Entry
entries_at f at zero = []
entries_at f at (suc n) = entry_at f at ∷ entries_at f (at + 12) n

-- the parts of a file
unfoldable pub file_in : List ℕ → File
file_in f =
    record {
      edition = edition_in f;
      t = t_in f;
      exam = exam_in f;
      body = take (directory_at f) f;
      entries = entries_at f (directory_at f) (entries_in f);
    }

-- where a slot stands among entries: how many come before it, or all of them where it is missing
abbrev pub index_of : ℕ → List Entry → ℕ
index_of s [] = 0
index_of s (e ∷ es) = cond (eqb e.slot s) 0 (suc (index_of s es))

-- the entry of a slot; where it is missing, an entry of no bytes
unfoldable pub entry_of : ℕ → File → Entry
entry_of s f = get_or f.entries (index_of s f.entries) (entry s 0 0)
