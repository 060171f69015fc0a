use mathlib.Core.Path.{sym, ◌∙◌}
use native.Mathlib.Omega.{arith}
use Rattle.words.proofs.Bytes.{field_below}
use Rattle.exam_rules.proofs.Listed.{its-bytes}
use Rattle.exam_checking.proofs.Walk.{slot_too_low, offset_apart, block-too_short, walk_on, walk-joins, walk_gap}
use Rattle.exam_checking.proofs.check_entries.Goals as goal

pub returns-then-slot-lowest : goal.returns-then-slot-lowest
returns-then-slot-lowest c = slot_too_low _ _ c.loop-entry.entry-iterator c.next.new.self _ _ c.loop-entry.invariant c.in-Some.entry _ _ _ c.in-Some.ensures.steps c.get_bytes-slot.ensures c.get_bytes-offset.ensures c.get_bytes-size.ensures c.if-slot-lowest.true

pub returns-then-not-joins : goal.returns-then-not-joins
returns-then-not-joins c =
    offset_apart _ _ c.loop-entry.entry-iterator c.next.new.self _ _ c.loop-entry.invariant c.in-Some.entry _ _ _ c.in-Some.ensures.steps c.get_bytes-slot.ensures c.get_bytes-offset.ensures c.get_bytes-size.ensures
    c.if-slot-lowest.false (sym c.joins.ensures ∙ c.if-not-joins.true)

pub returns-then-size-lt8 : goal.returns-then-size-lt8
returns-then-size-lt8 c =
    block-too_short _ _ c.loop-entry.entry-iterator c.next.new.self _ _ c.loop-entry.invariant c.in-Some.entry _ _ _ c.in-Some.ensures.steps c.get_bytes-slot.ensures c.get_bytes-offset.ensures c.get_bytes-size.ensures
    c.if-slot-lowest.false (sym c.joins.ensures ∙ c.if-not-joins.false) c.if-size-lt8.true

pub overflow_add-lowest : goal.overflow_add-lowest
overflow_add-lowest c = omega (arith, c.get_bytes-slot.ensures, field_below 4 0 c.in-Some.entry.now (its-bytes c.loop-entry.entry-iterator c.next.new.self c.loop-entry.invariant.turning c.in-Some.entry c.in-Some.ensures.steps))

pub overflow_add-from : goal.overflow_add-from
overflow_add-from c =
    let bytes = its-bytes c.loop-entry.entry-iterator c.next.new.self c.loop-entry.invariant.turning c.in-Some.entry c.in-Some.ensures.steps in
    omega (arith, c.get_bytes-offset.ensures, c.get_bytes-size.ensures, field_below 4 4 c.in-Some.entry.now bytes, field_below 4 8 c.in-Some.entry.now bytes)

pub loop-entry-preserved : goal.loop-entry-preserved
loop-entry-preserved c =
    walk_on _ _ c.loop-entry.entry-iterator c.next.new.self _ _ c.loop-entry.invariant c.in-Some.entry _ _ _ c.in-Some.ensures.steps c.get_bytes-slot.ensures c.get_bytes-offset.ensures c.get_bytes-size.ensures
    c.if-slot-lowest.false (sym c.joins.ensures ∙ c.if-not-joins.false) c.if-size-lt8.false

pub returns-then-not-joins-2 : goal.returns-then-not-joins-2
returns-then-not-joins-2 c = walk_gap _ _ c.loop-entry.entry-iterator c.next.new.self _ _ c.loop-entry.invariant c.in-None.ensures.steps (sym c.joins-2.ensures ∙ c.if-not-joins-2.true)

pub returns : goal.returns
returns c = walk-joins _ _ c.loop-entry.entry-iterator c.next.new.self _ _ c.loop-entry.invariant c.in-None.ensures.steps (sym c.joins-2.ensures ∙ c.if-not-joins-2.false)
