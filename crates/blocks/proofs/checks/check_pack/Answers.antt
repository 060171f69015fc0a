use Rattle.std.proofs.Common.{sym, arith}
use borrow.Author.Tests.{le-leb, lt-leb}
use Rattle.answers.proofs.Checks.{unless-passes, unless_fails, all_pass, fails_here, fails_later}
use Rattle.answers.proofs.Told.{refuses, handed_on}
use Rattle.block_rules.specs.Numbers.{pack_number}
use Rattle.blocks.proofs.checks.check_pack.Goals as goal

pub returns-in_err-check_tables : goal.returns-in_err-check_tables
unfolding pack_number
returns-in_err-check_tables c = rw (handed_on c.from_residual.ensures.1) (fails_here _ _ _ c.in_err-check_tables.ensures (refuses _))

pub returns-then-count-gt65536 : goal.returns-then-count-gt65536
unfolding pack_number
returns-then-count-gt65536 c =
    fails_later _ _ _ (sym c.in_ok-check_tables.ensures)
    (fails_here _ _ _ (unless_fails _ _ (lt-leb _ _ c.if-count-gt65536.true)) (λ e. omega arith))

pub returns-then-room-count : goal.returns-then-room-count
unfolding pack_number
returns-then-room-count c =
    fails_later _ _ _ (sym c.in_ok-check_tables.ensures)
    (fails_later _ _ _ (unless-passes _ _ (le-leb _ _ c.if-count-gt65536.false))
    (fails_here _ _ _ (unless_fails _ _ (lt-leb _ _ c.if-room-count.true)) (λ e. omega arith)))

pub returns : goal.returns
unfolding pack_number
returns c =
    fails_later _ _ _ (sym c.in_ok-check_tables.ensures)
    (fails_later _ _ _ (unless-passes _ _ (le-leb _ _ c.if-count-gt65536.false))
    (fails_later _ _ _ (unless-passes _ _ (le-leb _ _ c.if-room-count.false)) all_pass))
