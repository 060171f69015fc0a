use Rattle.std.proofs.Common.{rules}
use Rattle.listing.proofs.Walks.{points, block-long, write_starts, write_room, write_on, write_ends}
use Rattle.listing.proofs.text.Text.put_slot_lines.Goals as goal

pub loop-entry-init : goal.loop-entry-init
loop-entry-init c = write_starts _ _ _ _ c.requires.0 c.requires.1 (record { size = search rules; bytes = search rules }) (search rules)

pub block_of-block-requires : goal.block_of-block-requires
block_of-block-requires c = points _ c.loop-entry.entry-iterator c.next.new.self c.loop-entry.invariant.entries c.in-Some.entry c.in-Some.ensures.steps

pub count-requires : goal.count-requires
count-requires c = rw c.block_of-block.ensures (block-long _ c.loop-entry.entry-iterator c.next.new.self c.loop-entry.invariant.entries c.in-Some.entry c.in-Some.ensures.steps)

pub put_slot_line-requires : goal.put_slot_line-requires
put_slot_line-requires c =
    write_room _ _ _ c.loop-entry.entry-iterator c.next.new.self c.loop-entry.invariant c.in-Some.entry c.in-Some.ensures.steps _ _ _ c.get_bytes-slot.ensures c.block_of-block.ensures c.count.ensures

pub loop-entry-preserved : goal.loop-entry-preserved
loop-entry-preserved c =
    write_on _ _ _ c.loop-entry.entry-iterator c.next.new.self c.loop-entry.invariant c.in-Some.entry c.in-Some.ensures.steps _ _ _ c.get_bytes-slot.ensures c.block_of-block.ensures c.count.ensures _
    c.put_slot_line.ensures

pub returns : goal.returns
returns c = write_ends _ _ _ c.loop-entry.entry-iterator c.next.new.self c.loop-entry.invariant c.in-None.ensures.steps
