use native.Mathlib.Omega.{arith}
use Rattle.block_packing.proofs.PutLoop.{going-starts, going-staged, going-room, going_on}
use Rattle.block_packing.proofs.put_words.Goals as goal

pub loop-k-init : goal.loop-k-init
loop-k-init c = (rw c.requires.staged (omega arith), going-starts _ _ _ _ c.requires)

pub make_room-at-requires : goal.make_room-at-requires
make_room-at-requires c =
    let room = c.requires.room in
    going-staged room (going_on room c.loop-k.invariant.1 _ _ _ c.loop-k-test.true c.stage_pair.ensures)

pub loop-k-preserved : goal.loop-k-preserved
loop-k-preserved c =
    let room = c.requires.room in
    let g = going_on room c.loop-k.invariant.1 _ _ _ c.loop-k-test.true c.stage_pair.ensures in
    (c.make_room-at.ensures.few, going-room room g _ _ _ c.make_room-at.auto.out c.make_room-at.ensures)
