use Rattle.exam_salvaging.proofs.Standing.{Walking}
use Rattle.exam_salvaging.proofs.find_blocks.Given as goal

abbrev pub invariant-loop-kept : goal.invariant-loop-kept
invariant-loop-kept l = Walking l.old l.kept l.end
