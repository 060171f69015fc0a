use Rattle.std.proofs.Common.{arith}
use Rattle.words.specs.Words.{sub64}
use Rattle.words.proofs.difference.Goals as goal

pub returns : goal.returns
unfolding sub64
returns c = omega arith
