use Rattle.exam_rules.specs.Numbers.{joins}
use Rattle.exam_checking.proofs.Walk.{Walking}
use Rattle.exam_checking.proofs.check_entries.Given as goal

abbrev pub invariant-loop-entry : goal.invariant-loop-entry
invariant-loop-entry l = Walking joins l.directory l.start l.entry-iterator l.lowest l.from
