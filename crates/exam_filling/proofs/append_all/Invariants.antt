use Rattle.exam_rules.specs.Calls.{lent}
use Rattle.exam_filling.proofs.Progress.{Going}
use Rattle.exam_filling.proofs.append_all.Given as goal

-- so many records went in, and going on from here gives the whole outcome
abbrev pub invariant-loop-appended : goal.invariant-loop-appended
invariant-loop-appended l =
    Going l.words l.records l.fn.length l.exam (lent l.fn.file l.fn.fcm l.fn.dfcm l.fn.bench) l.appended l.length (lent l.file l.fcm l.dfcm l.bench)
