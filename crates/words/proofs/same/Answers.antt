use Rattle.std.proofs.Common.{◌∙◌, arith}
use Rattle.std.proofs.lemmas.Bool.{false_from_ne_true}
use borrow.Author.Tests.{eqb-true}
use Rattle.words.proofs.Alike.{begins_same, length-differs}
use Rattle.words.proofs.same.Goals as goal

pub returns-then-a-b : goal.returns-then-a-b
returns-then-a-b c = c.starts_with.ensures.value ∙ begins_same c.args.a.now c.args.b.now (omega (arith, c.if-a-b.true))

pub returns-else-a-b : goal.returns-else-a-b
returns-else-a-b c = false_from_ne_true _ (λ e. c.if-a-b.false (eqb-true _ _ e)) ∙ length-differs _ _ c.if-a-b.false
