use mathlib.Core.Path.{sym}
use Rattle.answers.proofs.Told.{refuses}
use Rattle.exam_rules.proofs.Opens.{opens_in, done-tells, standing}
use Rattle.exam_fetching.proofs.Fetching.{fetch_refused, fetch_done}
use Rattle.exam_fetching.proofs.fetch.Goals as goal

pub returns-in_default : goal.returns-in_default
returns-in_default c = fetch_refused _ _ _ _ _ _ _ _ (rw c.unwrap_err.ensures at c.open-opened.ensures) (refuses _)

pub slice_bounds-fetch_opened-end : goal.slice_bounds-fetch_opened-end
slice_bounds-fetch_opened-end c = sym (opens_in _ _ _ (done-tells _ _ _ _ (sym c.in-Ok.ensures)).0).long

pub fetch_opened-requires : goal.fetch_opened-requires
fetch_opened-requires c = standing _ _ _ _ (sym c.in-Ok.ensures)

pub returns : goal.returns
returns c = fetch_done _ _ _ _ _ _ _ _ c.in-Ok.ensures c.fetch_opened.ensures
