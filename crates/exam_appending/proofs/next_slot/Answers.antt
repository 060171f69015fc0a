use mathlib.Core.Path.{sym, ◌∙◌}
use native.Mathlib.Omega.{arith}
use Rattle.exam_rules.proofs.Listed.{listed-none}
use Rattle.exam_appending.proofs.Appending.{last_small, next_of}
use Rattle.exam_appending.proofs.next_slot.Goals as goal

pub returns-in_default : goal.returns-in_default
returns-in_default c = rw (listed-none c.args.directory.now (rw (c.chunks_exact.ensures.rest, c.chunks_exact.ensures.size) at c.in_default.ensures.steps.2.0))

pub overflow_add-result : goal.overflow_add-result
overflow_add-result c =
    let s = c.in-Some.ensures.steps in
    let small = last_small c.args.directory.now _ c.in-Some.last.now s.2.0 (sym c.chunks_exact.ensures.rest ∙ s.2.1) (s.2.2 ∙ c.chunks_exact.ensures.size) (λ i. (c.type_inv.directory i).fits) in
    omega (arith, c.get_bytes.ensures, small)

pub returns : goal.returns
returns c =
    let s = c.in-Some.ensures.steps in
    next_of c.args.directory.now _ _ s.2.0 (sym c.chunks_exact.ensures.rest ∙ s.2.1) (s.2.2 ∙ c.chunks_exact.ensures.size) _
    (rw (c.chunks_exact.ensures.rest, c.chunks_exact.ensures.size) at s.2.3) c.get_bytes.ensures
