use Rattle.std.proofs.Common.{refl, arith}
use lib.Count.{leading_le}
use Rattle.words.specs.Words.{zero_bytes}
use Rattle.words.proofs.zero_bytes.Goals as goal

pub overflow_cast-result : goal.overflow_cast-result
overflow_cast-result c = omega (arith, leading_le 64 c.args.r)

pub returns : goal.returns
unfolding zero_bytes
returns c = refl
