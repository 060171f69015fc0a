use Rattle.std.proofs.Common.{arith}
use Rattle.block_tallying.proofs.Counting.{both_tops}
use Rattle.block_tallying.proofs.dfcm_in_byte.Goals as goal

pub returns : goal.returns
returns c = (both_tops c.args.byte (omega arith), omega arith)
