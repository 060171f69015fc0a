use native.Mathlib.Omega.{arith}
use Rattle.block_checking.proofs.Adding.{both_written}
use Rattle.block_checking.proofs.both_written.Goals as goal

pub returns : goal.returns
returns c = (both_written c.args.byte, omega arith)
