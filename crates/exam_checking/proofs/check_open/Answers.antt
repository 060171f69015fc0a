use mathlib.Core.Path.{sym, ◌∙◌}
use native.Mathlib.Omega.{arith}
use borrow.Author.Tests.{lt-ltb, ne_eqb}
use Rattle.answers.proofs.Checks.{fails_later, passes, stops}
use Rattle.exam_rules.specs.Numbers.{open_number}
use Rattle.exam_checking.proofs.check_open.Goals as goal

-- The check finds this too. It is written out so that a comparison with other bytes is refused here, by what they read as.
pub returns-then-get_bytes-exam : goal.returns-then-get_bytes-exam
unfolding open_number
returns-then-get_bytes-exam c =
    fails_later _ _ _ (sym c.in_ok-check_trailer.ensures)
    (passes _ _ _ _ (lt-ltb 0 c.args.exam (omega (arith, c.if-exam-eq0.false)))
    (stops _ _ _ (ne_eqb _ _ (λ e. c.if-get_bytes-exam.true (c.get_bytes.ensures ∙ e))) (omega arith)))
