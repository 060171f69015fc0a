use mathlib.Core.Path.{sym}
use Rattle.answers.proofs.Told.{refuses, handed_on}
use Rattle.exam_rules.proofs.Opens.{opens_in, trails_keep, open_refused, open_done}
use Rattle.exam_opening.proofs.open.Goals as goal

pub returns-in_err-check_open_in : goal.returns-in_err-check_open_in
returns-in_err-check_open_in c = rw (handed_on c.from_residual.ensures.1) (open_refused _ _ _ _ c.in_err-check_open_in.ensures (refuses _))

pub slice_bounds-trailer-end : goal.slice_bounds-trailer-end
slice_bounds-trailer-end c = sym (opens_in _ _ _ (sym c.in_ok-check_open_in.ensures)).long

pub trailer-requires : goal.trailer-requires
trailer-requires c = trails_keep _ (opens_in _ _ _ (sym c.in_ok-check_open_in.ensures)).is.trailer

pub returns : goal.returns
returns c = open_done _ _ _ _ (sym c.in_ok-check_open_in.ensures) c.trailer.ensures
