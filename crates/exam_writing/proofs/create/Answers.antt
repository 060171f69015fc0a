use mathlib.Core.Path.{sym}
use native.Mathlib.Omega.{arith}
use Rattle.answers.proofs.Told.{refuses, handed_on}
use Rattle.exam_rules.proofs.Changes.{change_refused}
use Rattle.exam_rules.proofs.Accept.{create_takes}
use Rattle.exam_writing.proofs.Writes.{create_done}
use Rattle.exam_writing.proofs.create.Goals as goal

pub returns-in_err-check_create : goal.returns-in_err-check_create
returns-in_err-check_create c = rw (handed_on c.from_residual.ensures.1) (change_refused _ _ _ _ c.in_err-check_create.ensures (refuses _))

pub end_file-requires : goal.end_file-requires
end_file-requires c = ((create_takes _ _ _ (sym c.in_ok-check_create.ensures)).enough, omega arith)

pub returns : goal.returns
returns c = create_done _ _ _ _ _ (sym c.in_ok-check_create.ensures) c.end_file.ensures
