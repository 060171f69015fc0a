-- What the inner functions require and ensure. No promise of a call is stated here.
use Rattle.std.specs.Prelude.{◌≡◌, ℕ, ◌+◌, ◌≤◌, List, length}
use Rattle.std.proofs.lemmas.List.Edits.{sets}
use Rattle.exam_rules.specs.Reading.{directory_at, entry_at, file_in}
use Rattle.exam_rules.specs.Numbers.{directory_number}
use Rattle.exam_rules.specs.Inside.{entries_listed, Standing}
use Rattle.exam_rules.specs.declared.Trailer.{Trailer}
use Rattle.listing.specs.Text.{listing}
use Rattle.listing.specs.declared.text.Text.{Text}

-- room for more bytes behind a text
pub record HasRoom (text : Text) (bytes : List ℕ) : Type 0 where
  pub room : text.length + length bytes ≤ length text.bytes.now

-- what a text is once bytes were put behind it, in the same lent bytes
pub record Extends (text : Text) (bytes : List ℕ) (text' : Text) : Type 0 where
  pub same : text'.bytes.ghost_name ≡ text.bytes.ghost_name
  pub ends : text'.length ≡ text.length + length bytes
  pub left : text'.bytes.now ≡ sets text.bytes.now text.length bytes

-- the bytes of an entry, whose block ends where the directory starts or before
pub record Points (f bytes : List ℕ) : Type 0 where
  pub long : length bytes ≡ 12
  pub within : (entry_at bytes 0).offset + (entry_at bytes 0).size ≤ directory_at f

-- the bytes of a file's directory, which keeps its rule
pub record Directory (f directory : List ℕ) : Type 0 where
  pub lists : entries_listed directory ≡ (file_in f).entries
  pub rule : directory_number (file_in f) ≡ 0

-- a file that is open, with its trailer, and room for its whole text
pub record Listable (f : List ℕ) (tr : Trailer) (text : Text) : Type 0 where
  pub stands : Standing f tr
  pub room : HasRoom text (listing (file_in f))
