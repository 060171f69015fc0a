use mathlib.Core.Path.{sym}
use Rattle.exam_appending.proofs.Appending.{append-refused}
use Rattle.exam_appending.proofs.append.Goals as goal

pub returns-in_default : goal.returns-in_default
returns-in_default c = append-refused _ _ _ _ _ _ _ _ _ (rw c.unwrap_err.ensures at c.open-opened.ensures)

pub append_opened-requires : goal.append_opened-requires
append_opened-requires c = sym c.in-Ok.ensures
