use native.Mathlib.Omega.{arith}
use Rattle.exam_salvaging.proofs.Listed.{list_starts, list_room, list_within, list_on, list_ends}
use Rattle.exam_salvaging.proofs.put_entries.Goals as goal

pub loop-i-init : goal.loop-i-init
loop-i-init c = list_starts _ _ _ _ c.requires

pub overflow_add-offset : goal.overflow_add-offset
overflow_add-offset c =
    let room = list_room _ _ _ _ _ _ _ c.loop-i-test.true c.loop-i.invariant in
    omega (arith, room)

pub get_bytes-size-requires : goal.get_bytes-size-requires
get_bytes-size-requires c =
    let room = list_room _ _ _ _ _ _ _ c.loop-i-test.true c.loop-i.invariant in
    (omega (arith, room), omega arith)

pub overflow_add-offset-in-loop-i : goal.overflow_add-offset-in-loop-i
overflow_add-offset-in-loop-i c =
    let within = list_within _ _ _ _ _ _ _ c.loop-i-test.true c.loop-i.invariant _ c.get_bytes-size.ensures in
    omega (arith, within)

pub loop-i-preserved : goal.loop-i-preserved
loop-i-preserved c = list_on _ _ _ _ _ _ _ c.loop-i-test.true c.loop-i.invariant _ c.get_bytes-size.ensures _ c.put_entry.ensures

pub returns : goal.returns
returns c = list_ends _ _ _ _ _ _ _ c.loop-i-test.false c.loop-i.invariant
