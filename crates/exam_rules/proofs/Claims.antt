-- What is promised of the rules of an exam file, each promise with one line of plain words.
use mathlib.Core.Path.{◌≡◌}
use mathlib.Core.Logic.{◌↔◌}
use lib.ListN.{length}
use Rattle.exam_rules.specs.File.{File}
use Rattle.exam_rules.specs.Numbers.{directory_number}
use Rattle.exam_rules.proofs.Accept.{Follows, directory-follows, follows-directory}

-- The directory's rule is what it says: slots strictly ascend, the first offset is 0, each next offset is the previous offset plus length, each length is
-- at least 8, and the last block ends where the directory starts.
pub directory-rule : (f : File) → (directory_number f ≡ 0) ↔ Follows 0 0 f.entries (length f.body)
directory-rule f = (directory-follows f, follows-directory f)
