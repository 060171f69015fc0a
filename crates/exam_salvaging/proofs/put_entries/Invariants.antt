use Rattle.exam_salvaging.proofs.Listed.{Listed}
use Rattle.exam_salvaging.proofs.put_entries.Given as goal

abbrev pub invariant-loop-i : goal.invariant-loop-i
invariant-loop-i l = Listed l.initial.file l.old l.at l.n l.file l.offset l.i
