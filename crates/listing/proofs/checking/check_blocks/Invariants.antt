use Rattle.listing.proofs.Walks.{Checking}
use Rattle.listing.proofs.checking.check_blocks.Given as goal

abbrev pub invariant-loop-entry : goal.invariant-loop-entry
invariant-loop-entry l = Checking l.file l.entry-iterator
