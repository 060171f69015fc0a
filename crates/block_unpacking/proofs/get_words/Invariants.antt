use Rattle.std.proofs.Common.{◌*◌}
use Rattle.block_unpacking.proofs.GetLoop.{Going}
use Rattle.block_unpacking.proofs.get_words.Given as goal

abbrev pub invariant-loop-j : goal.invariant-loop-j
invariant-loop-j l = Going l.bytes l.n l.initial.predictors l.initial.words l.predictors l.words l.at (2 * l.j)
