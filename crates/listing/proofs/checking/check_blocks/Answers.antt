use Rattle.std.proofs.Common.{rules, refl}
use Rattle.answers.proofs.Told.{refuses, handed_on}
use Rattle.block_rules.proofs.Accept.{checked-number}
use Rattle.listing.proofs.Walks.{points, check_starts, check_stops, check_on, check_ends}
use Rattle.listing.proofs.checking.check_blocks.Goals as goal

pub loop-entry-init : goal.loop-entry-init
loop-entry-init c = check_starts _ _ _ c.requires (record { size = search rules; bytes = search rules }) (search rules)

pub block_of-requires : goal.block_of-requires
block_of-requires c = points _ c.loop-entry.entry-iterator c.next.new.self c.loop-entry.invariant.entries c.in-Some.entry c.in-Some.ensures.steps

pub returns-in_err-check : goal.returns-in_err-check
returns-in_err-check c =
    rw (handed_on c.from_residual.ensures.1)
    (check_stops _ c.loop-entry.entry-iterator c.next.new.self c.loop-entry.invariant c.in-Some.entry c.in-Some.ensures.steps _ _ c.block_of.ensures (checked-number _ _ c.in_err-check.ensures) (refuses _))

pub loop-entry-preserved : goal.loop-entry-preserved
loop-entry-preserved c =
    check_on _ c.loop-entry.entry-iterator c.next.new.self c.loop-entry.invariant c.in-Some.entry c.in-Some.ensures.steps _ _ c.block_of.ensures (checked-number _ _ c.in_ok-check.ensures) refl

pub returns : goal.returns
returns c = check_ends _ c.loop-entry.entry-iterator c.next.new.self c.loop-entry.invariant c.in-None.ensures.steps
