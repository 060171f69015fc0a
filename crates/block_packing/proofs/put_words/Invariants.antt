use Prim.Native.Nat.{◌≤◌}
use lib.ListN.{length}
use Rattle.block_staging.specs.Inside.{most_staged}
use Rattle.block_packing.proofs.PutLoop.{Going}
use Rattle.block_packing.proofs.put_words.Given as goal

abbrev pub invariant-loop-k : goal.invariant-loop-k
invariant-loop-k l = (length l.stage.held ≤ most_staged) × Going l.words l.initial.predictors l.initial.out l.predictors l.out l.stage l.at l.k
