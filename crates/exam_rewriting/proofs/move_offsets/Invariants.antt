use Rattle.exam_rewriting.proofs.Offsets.{Moving}
use Rattle.exam_rewriting.proofs.move_offsets.Given as goal

abbrev pub invariant-loop-i : goal.invariant-loop-i
invariant-loop-i l = Moving l.initial.file l.at l.n l.old l.new l.file l.i
