use mathlib.Core.Path.{sym}
use Rattle.answers.proofs.Told.{refuses, handed_on}
use Rattle.exam_rules.proofs.Opens.{opens_in, done-tells, standing}
use Rattle.exam_opening.proofs.Finding.{not-opened, once-opened, locate_refused, locate_done}
use Rattle.exam_opening.proofs.locate.Goals as goal

pub returns-in_err-trailer : goal.returns-in_err-trailer
returns-in_err-trailer c = rw (handed_on c.from_residual.ensures.1) (locate_refused _ _ _ _ _ (not-opened _ _ _ _ _ c.in_err-trailer.ensures) (refuses _))

pub slice_bounds-part_of-end : goal.slice_bounds-part_of-end
slice_bounds-part_of-end c = sym (opens_in _ _ _ (done-tells _ _ _ _ (sym c.in_ok-trailer.ensures)).0).long

pub part_of-requires : goal.part_of-requires
part_of-requires c = standing _ _ _ _ (sym c.in_ok-trailer.ensures)

pub returns-in_err-part : goal.returns-in_err-part
returns-in_err-part c =
    rw (handed_on c.from_residual-in_err-part.ensures.1)
    (locate_refused _ _ _ _ _ (once-opened _ _ _ _ _ _ c.in_ok-trailer.ensures c.in_err-part.ensures) (refuses _))

pub returns : goal.returns
returns c = locate_done _ _ _ _ _ _ c.in_ok-trailer.ensures c.in_ok-part.ensures
