use mathlib.Core.Path.{sym}
use Rattle.answers.proofs.Told.{refuses}
use Rattle.exam_rules.proofs.Opens.{opens_in, done-tells, standing}
use Rattle.exam_opening.proofs.Finding.{not-opened, once-opened, find_refused, find_done}
use Rattle.exam_opening.proofs.find.Goals as goal

pub returns-in_default : goal.returns-in_default
returns-in_default c = rw (c.number_told.ensures, c.in_default.is) (find_refused _ _ _ _ _ (not-opened _ _ _ _ _ c.in_default.ensures) (refuses _))

pub slice_bounds-whole-end : goal.slice_bounds-whole-end
slice_bounds-whole-end c = sym (opens_in _ _ _ (done-tells _ _ _ _ (sym c.in-Ok.ensures)).0).long

pub part_of-found-requires : goal.part_of-found-requires
part_of-found-requires c = standing _ _ _ _ (sym c.in-Ok.ensures)

pub returns-in_default-found : goal.returns-in_default-found
returns-in_default-found c =
    rw (c.number_told-in_default-found.ensures, c.in_default-found.is) (find_refused _ _ _ _ _ (once-opened _ _ _ _ _ _ c.in-Ok.ensures c.in_default-found.ensures) (refuses _))

pub returns : goal.returns
returns c = find_done _ _ _ _ _ _ c.in-Ok.ensures c.in-Ok-found.ensures
