use Rattle.std.proofs.Common.{◌≡◌, refl, ◌+◌, ◌-◌, ◌/◌, sym, ◌∙◌, arith}
use Rattle.block_rules.specs.Codes.{written}
use Rattle.block_rules.specs.Block.{counted_codes}
use Rattle.block_rules.proofs.Codes.{written_small}
use Rattle.block_checking.proofs.Weighing.{weight_even, weight_odd}
use Rattle.block_checking.proofs.Adding.{lengths_added}
use Rattle.block_checking.proofs.residual_length.Goals as goal

pub overflow_add-result : goal.overflow_add-result
overflow_add-result c = omega (arith, c.written.ensures, written_small c.half.result)

pub returns-then-n-eq1 : goal.returns-then-n-eq1
returns-then-n-eq1 c =
    let pairs : 8 + c.args.block.count / 2 - 8 ≡ c.args.block.count / 2 = omega arith in
    omega (arith, rw pairs at c.all_written-paired.ensures, rw c.half.ensures at c.written.ensures, weight_odd written _ (λ byte. refl) _ _ c.args.block.counted c.if-n-eq1.true, lengths_added (counted_codes c.args.block.bytes.now))

pub returns : goal.returns
returns c =
    let pairs : 8 + c.args.block.count / 2 - 8 ≡ c.args.block.count / 2 = omega arith in
    (rw pairs at c.all_written-paired.ensures) ∙ sym (lengths_added _ ∙ weight_even written _ (λ byte. refl) _ _ c.args.block.counted c.if-n-eq1.false)
