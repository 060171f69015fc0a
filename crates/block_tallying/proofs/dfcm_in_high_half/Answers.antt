use native.Mathlib.Omega.{arith}
use Rattle.block_tallying.proofs.Counting.{high_top}
use Rattle.block_tallying.proofs.dfcm_in_high_half.Goals as goal

pub returns : goal.returns
returns c = high_top c.args.byte (omega arith)
