use lib.Dec.{eqb}
use borrow.Author.Tests.{tests}
use Rattle.std.proofs.Common.{rules}
use Rattle.std.proofs.lemmas.Iterator.Search.{position_from_yields_List}
use Rattle.exam_rules.specs.File.{Entry}
use Rattle.exam_rules.specs.Reading.{entry_at}
use Rattle.exam_rules.proofs.Listed.{yields}
use Rattle.exam_opening.proofs.index_of.Goals as goal

pub returns : goal.returns
unfolding entry_at
returns c =
    let entries = yields _ _ c.chunks_exact.ensures.rest c.chunks_exact.ensures.size in
    position_from_yields_List (λ (e : Entry). eqb e.slot c.args.slot) _ _ _ c.position.ensures.ran entries (λ x b q k. search (rules, tests))
