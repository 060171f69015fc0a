use mathlib.Core.Path.{refl, sym}
use native.Mathlib.Omega.{arith}
use Rattle.exam_rules.proofs.Filling.{appends-all}
use Rattle.exam_filling.proofs.Progress.{not_opened, going_starts, going_ends, going_on, going_stops}
use Rattle.exam_filling.proofs.append_all.Goals as goal

pub returns-in-Err : goal.returns-in-Err
returns-in-Err c = rw c.stopped.ensures (appends-all (not_opened _ _ _ _ _ _ c.in-Err.ensures))

pub loop-appended-init : goal.loop-appended-init
loop-appended-init c = going_starts _ _ _ _ _ (sym c.in_default.ensures)

pub returns-in-Err-append_record : goal.returns-in-Err-append_record
returns-in-Err-append_record c =
    rw c.stopped-in-Err-append_record.ensures (appends-all (going_stops _ _ _ _ _ _ _ _ c.loop-appended.invariant _ c.loop-appended-test.true _ _ c.in-Err-append_record.ensures _ refl))

pub loop-appended-preserved : goal.loop-appended-preserved
loop-appended-preserved c = going_on _ _ _ _ _ _ _ _ c.loop-appended.invariant _ c.loop-appended-test.true _ _ c.in-Ok.ensures refl

pub returns : goal.returns
returns c = appends-all (going_ends _ _ _ _ _ _ _ _ c.loop-appended.invariant (omega arith))
