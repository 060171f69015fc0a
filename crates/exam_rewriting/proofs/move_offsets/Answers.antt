use native.Mathlib.Omega.{arith}
use Rattle.exam_rewriting.proofs.Offsets.{moving_starts, offset_fits, moving_on, moving_ends}
use Rattle.exam_rewriting.proofs.move_offsets.Goals as goal

pub loop-i-init : goal.loop-i-init
loop-i-init c = moving_starts _ _ _ _ _

pub overflow_add-offset : goal.overflow_add-offset
overflow_add-offset c =
    let fits = offset_fits _ _ _ _ _ c.requires (λ i. (c.slice_known-1.given i).fits) _ _ c.loop-i-test.true c.loop-i.invariant _ c.get_bytes-offset.ensures in
    omega (arith, fits, c.requires.small)

pub overflow_sub-offset : goal.overflow_sub-offset
overflow_sub-offset c =
    let fits = offset_fits _ _ _ _ _ c.requires (λ i. (c.slice_known-1.given i).fits) _ _ c.loop-i-test.true c.loop-i.invariant _ c.get_bytes-offset.ensures in
    omega (arith, fits, c.requires.small)

pub loop-i-preserved : goal.loop-i-preserved
loop-i-preserved c = moving_on _ _ _ _ _ c.requires (λ i. (c.slice_known-1.given i).fits) _ _ c.loop-i-test.true c.loop-i.invariant _ c.get_bytes-offset.ensures _ c.put_bytes.ensures

pub returns : goal.returns
returns c = moving_ends _ _ _ _ _ _ _ c.loop-i-test.false c.loop-i.invariant
