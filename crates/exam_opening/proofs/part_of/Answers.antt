use mathlib.Core.Path.{◌≡◌}
use native.Mathlib.Omega.{arith}
use Rattle.answers.specs.declared.Refusal.TheVariants.{NoSuchSlot}
use Rattle.answers.proofs.Told.{handed_on}
use Rattle.exam_rules.proofs.Parts.{rules_are}
use Rattle.exam_opening.proofs.Finding.{part_missing, its-room, its-long, part-ends, part-found}
use Rattle.exam_opening.proofs.part_of.Goals as goal

pub returns-in_err-index : goal.returns-in_err-index
returns-in_err-index c =
    let e : c.in_err-index.field-0.0 ≡ NoSuchSlot = cc (rw c.in_err-index.ensures.ok_part at c.in_err-index.ensures.value) in
    rw (handed_on c.from_residual.ensures.1, e) (part_missing _ _ c.requires _ _ c.index_of.ensures c.in_err-index.ensures.ok_part)

pub overflow_mul-entry : goal.overflow_mul-entry
overflow_mul-entry c = omega (arith, its-room _ _ c.requires _ _ c.index_of.ensures _ c.in_ok-index.ensures.ok_part)

pub slice_bounds-entry-count : goal.slice_bounds-entry-count
slice_bounds-entry-count c = omega (arith, its-room _ _ c.requires _ _ c.index_of.ensures _ c.in_ok-index.ensures.ok_part)

pub slice_bounds-entry-start : goal.slice_bounds-entry-start
slice_bounds-entry-start c = omega (arith, its-room _ _ c.requires _ _ c.index_of.ensures _ c.in_ok-index.ensures.ok_part)

pub get_bytes-offset-requires : goal.get_bytes-offset-requires
get_bytes-offset-requires c = (omega (arith, its-long _ _ c.requires _ _ c.index_of.ensures _ c.in_ok-index.ensures.ok_part), omega arith)

pub get_bytes-size-requires : goal.get_bytes-size-requires
get_bytes-size-requires c = (omega (arith, its-long _ _ c.requires _ _ c.index_of.ensures _ c.in_ok-index.ensures.ok_part), omega arith)

pub overflow_add-result : goal.overflow_add-result
overflow_add-result c = omega (arith, (rules_are _ _ c.requires).small, part-ends _ _ c.requires _ _ c.index_of.ensures _ c.in_ok-index.ensures.ok_part _ _ c.get_bytes-offset.ensures c.get_bytes-size.ensures)

pub returns : goal.returns
returns c = part-found _ _ c.requires _ _ c.index_of.ensures _ c.in_ok-index.ensures.ok_part _ _ c.get_bytes-offset.ensures c.get_bytes-size.ensures
