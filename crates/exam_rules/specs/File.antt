-- The exam file: its parts and their bytes. Blocks from offset 0, then the directory, then the trailer.
use Rattle.std.specs.Prelude.{ℕ, ◌+◌, ◌-◌, ◌*◌, List, [], ◌∷◌, ◌++◌, map, cond, eqb, length, take, drop}
use Rattle.words.specs.Bytes.{low_bytes}

-- a directory entry: slot, block offset, block length
pub record Entry : Type 0 where
  pub slot : ℕ
  pub offset : ℕ
  pub size : ℕ

abbrev pub entry : ℕ → ℕ → ℕ → Entry
entry s o n = record { slot = s; offset = o; size = n }

-- its 12 bytes: slot (4), block offset (4), block length (4)
unfoldable pub entry_bytes : Entry → List ℕ
entry_bytes e = low_bytes 4 e.slot ++ low_bytes 4 e.offset ++ low_bytes 4 e.size

-- the directory's bytes
abbrev pub directory_bytes : List Entry → List ℕ
directory_bytes [] = []
directory_bytes (e ∷ es) = entry_bytes e ++ directory_bytes es

-- the four bytes `coil`
abbrev pub mark : List ℕ
mark = 0x63 ∷ 0x6F ∷ 0x69 ∷ 0x6C ∷ []

-- the trailer's 32 bytes: mark, edition (2), t (2), exam number (8), distance from the file's end back to the directory (4), entries (4), file length (8)
unfoldable pub trailer_bytes : ℕ → ℕ → ℕ → ℕ → ℕ → List ℕ
trailer_bytes edition t exam entries l =
    mark ++ low_bytes 2 edition ++ low_bytes 2 t ++ low_bytes 8 exam ++ low_bytes 4 (32 + 12 * entries) ++ low_bytes 4 entries ++ low_bytes 8 l

-- the parts of a file: what the trailer tells, the bytes before the directory, the entries
pub record File : Type 0 where
  pub edition : ℕ
  pub t : ℕ
  pub exam : ℕ
  pub body : List ℕ
  pub entries : List Entry

-- the length of a file
abbrev pub file_length : File → ℕ
file_length f = length f.body + 12 * length f.entries + 32

-- the bytes of a file
unfoldable pub file_bytes : File → List ℕ
file_bytes f = f.body ++ directory_bytes f.entries ++ trailer_bytes f.edition f.t f.exam (length f.entries) (file_length f)

-- the block of an entry
unfoldable pub block_of : File → Entry → List ℕ
block_of f e = take e.size (drop e.offset f.body)

-- ---- what calls make of a file

-- an empty file
abbrev pub empty : ℕ → ℕ → File
empty exam t = record { edition = 1; t = t; exam = exam; body = []; entries = [] }

-- a file with one block more, at the directory's old start, and one entry more
abbrev pub appended : File → ℕ → List ℕ → File
appended f slot b =
    record {
      edition = f.edition;
      t = f.t;
      exam = f.exam;
      body = f.body ++ b;
      entries = f.entries ++ (entry slot (length f.body) (length b) ∷ []);
    }

-- an entry behind a block that had `old` bytes and has n: its offset, which is at least `old`, moves by the difference
abbrev pub moved : ℕ → ℕ → Entry → Entry
moved old n e = entry e.slot (e.offset + n - old) e.size

-- entries once the block of a slot has n bytes: its entry has the new size, each later offset moves by the difference, all else is kept
abbrev pub resized : ℕ → ℕ → List Entry → List Entry
resized slot n [] = []
resized slot n (e ∷ es) = cond (eqb e.slot slot) (entry e.slot e.offset n ∷ map (moved e.size n) es) (e ∷ resized slot n es)

-- a file with the block b in the place of an entry's block: it starts at the entry's offset, and what stood behind the entry's size stands behind it
abbrev pub replaced : File → Entry → List ℕ → File
replaced f e b =
    record {
      edition = f.edition;
      t = f.t;
      exam = f.exam;
      body = take e.offset f.body ++ b ++ drop (e.offset + e.size) f.body;
      entries = resized e.slot (length b) f.entries;
    }
