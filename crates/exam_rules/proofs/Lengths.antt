-- How long the parts of a file are.
use mathlib.Core.Path.{◌≡◌, refl, ◌∙◌}
use mathlib.Core.List.{List, [], ◌∷◌, ◌++◌}
use Prim.Native.Nat.{ℕ, ◌*◌}
use native.Mathlib.Omega.{arith}
use lib.ListN.{length, length-append}
use Rattle.exam_rules.specs.File.{Entry, entry_bytes, directory_bytes, trailer_bytes, File, file_length, file_bytes}

pub length-trailer : (edition t exam n l : ℕ) → length (trailer_bytes edition t exam n l) ≡ 32
unfolding trailer_bytes
length-trailer edition t exam n l = refl

pub length-entry : (e : Entry) → length (entry_bytes e) ≡ 12
unfolding entry_bytes
length-entry e = refl

pub length-directory : (es : List Entry) → length (directory_bytes es) ≡ 12 * length es
length-directory [] = refl
length-directory (e ∷ es) = length-append (entry_bytes e) (directory_bytes es) ∙ rw (length-entry e, length-directory es) (omega arith)

pub length-file : (f : File) → length (file_bytes f) ≡ file_length f
unfolding file_bytes
length-file f =
    length-append (f.body ++ directory_bytes f.entries) _
    ∙ rw (length-append, length-directory f.entries, length-trailer f.edition f.t f.exam (length f.entries) (file_length f))
