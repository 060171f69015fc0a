use Rattle.std.proofs.Common.{arith}
use Rattle.block_checking.proofs.Adding.{filler_odd, filler_even}
use Rattle.block_checking.proofs.filler_stands.Goals as goal

pub returns-then-block-eq0 : goal.returns-then-block-eq0
returns-then-block-eq0 c = rw c.if-block-eq0.true (filler_even _ c.args.block.count c.args.block.counted.count (omega (arith, c.if-block-eq0.true)))

pub returns-else-block-eq0 : goal.returns-else-block-eq0
returns-else-block-eq0 c = filler_odd _ _ _ c.args.block.counted.count (omega (arith, c.if-block-eq0.false)) c.half.ensures
