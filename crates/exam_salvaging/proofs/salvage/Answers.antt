use mathlib.Core.Path.{sym}
use Rattle.answers.proofs.Told.{refuses, handed_on}
use Rattle.exam_salvaging.proofs.Rebuilt.{found-few, found_within, found_number, rebuilding, salvage_refused, salvage_done}
use Rattle.exam_salvaging.proofs.salvage.Goals as goal

pub check_salvage-requires : goal.check_salvage-requires
check_salvage-requires c = found-few c.find_blocks-found.ensures

pub returns-in_err-check_salvage : goal.returns-in_err-check_salvage
returns-in_err-check_salvage c =
    let number = found_number _ _ c.find_blocks-found.ensures _ _ c.args.file.now _ c.in_err-check_salvage.ensures in
    rw (handed_on c.from_residual.ensures.1) (salvage_refused _ _ _ _ _ number (refuses _))

pub rebuild-length-requires : goal.rebuild-length-requires
rebuild-length-requires c = rebuilding _ _ c.find_blocks-found.ensures _ _ _ (sym c.in_ok-check_salvage.ensures)

pub overflow_sub-result : goal.overflow_sub-result
overflow_sub-result c = found_within c.find_blocks-found.ensures

pub returns : goal.returns
returns c =
    let number = found_number _ _ c.find_blocks-found.ensures _ _ c.args.file.now _ c.in_ok-check_salvage.ensures in
    salvage_done _ _ _ _ _ _ _ c.find_blocks-found.ensures (sym number) c.rebuild-length.ensures
