use Rattle.std.proofs.Common.{sym, arith}
use borrow.Author.Tests.{le-leb, lt-leb}
use Rattle.answers.proofs.Checks.{unless-passes, unless_fails, all_pass, fails_here, fails_later}
use Rattle.answers.proofs.Told.{refuses, handed_on}
use Rattle.block_rules.specs.Block.{count}
use Rattle.block_rules.specs.Numbers.{unpack_number}
use Rattle.block_rules.proofs.Accept.{checked-number, checked-count}
use Rattle.blocks.proofs.checks.check_unpack.Goals as goal

pub returns-in_err-check_tables : goal.returns-in_err-check_tables
unfolding unpack_number
returns-in_err-check_tables c = rw (handed_on c.from_residual.ensures.1) (fails_here _ _ _ c.in_err-check_tables.ensures (refuses _))

pub returns-in_err-count : goal.returns-in_err-count
unfolding unpack_number
returns-in_err-count c =
    rw (handed_on c.from_residual-in_err-count.ensures.1)
    (fails_later _ _ _ (sym c.in_ok-check_tables.ensures)
    (fails_here _ _ _ (checked-number _ _ c.in_err-count.ensures) (refuses _)))

pub returns-then-room-count : goal.returns-then-room-count
unfolding unpack_number
returns-then-room-count c =
    fails_later _ _ _ (sym c.in_ok-check_tables.ensures)
    (fails_later _ _ _ (sym (checked-number _ _ c.in_ok-count.ensures))
    (fails_here _ _ _ (unless_fails _ _ (lt-leb (count c.args.block.now) c.args.room (omega (arith, checked-count _ _ c.in_ok-count.ensures, c.if-room-count.true)))) (λ e. omega arith)))

pub returns : goal.returns
unfolding unpack_number
returns c =
    fails_later _ _ _ (sym c.in_ok-check_tables.ensures)
    (fails_later _ _ _ (sym (checked-number _ _ c.in_ok-count.ensures))
    (fails_later _ _ _ (unless-passes _ _ (le-leb (count c.args.block.now) c.args.room (omega (arith, checked-count _ _ c.in_ok-count.ensures, c.if-room-count.false)))) all_pass))
