use mathlib.Core.Path.{◌≡◌}
use native.Mathlib.Omega.{arith}
use Rattle.std.proofs.lemmas.List.{take_rest}
use Rattle.exam_salvaging.proofs.Standing.{walk-starts, walk-within, walk_on, walk-stops, walk_ends}
use Rattle.exam_salvaging.proofs.find_blocks.Goals as goal

pub loop-kept-init : goal.loop-kept-init
loop-kept-init c = walk-starts _

pub returns-in_default : goal.returns-in_default
returns-in_default c = walk-stops _ _ _ c.loop-kept.invariant (rw take_rest at c.in_default.ensures)

pub overflow_add-end : goal.overflow_add-end
overflow_add-end c =
    let within = walk-within _ _ _ _ c.loop-kept.invariant (rw take_rest at c.in-Some.ensures) in
    omega (arith, within)

pub loop-kept-preserved : goal.loop-kept-preserved
loop-kept-preserved c = walk_on _ _ _ _ c.loop-kept.invariant (rw take_rest at c.in-Some.ensures) c.loop-kept-test.true

pub returns : goal.returns
returns c =
    let all : c.loop-kept.kept ≡ 1024 = omega arith in
    walk_ends _ _ _ (omega arith) (rw all at c.loop-kept.invariant)
