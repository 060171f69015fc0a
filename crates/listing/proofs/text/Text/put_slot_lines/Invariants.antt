use Rattle.listing.proofs.Walks.{Writing}
use Rattle.listing.proofs.text.Text.put_slot_lines.Given as goal

abbrev pub invariant-loop-entry : goal.invariant-loop-entry
invariant-loop-entry l = Writing l.file l.initial.self l.self l.entry-iterator
