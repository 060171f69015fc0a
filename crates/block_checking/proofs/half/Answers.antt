use Rattle.block_rules.proofs.Get.{half_even, half_odd}
use Rattle.block_checking.proofs.half.Goals as goal

pub returns-then-i-eq0 : goal.returns-then-i-eq0
returns-then-i-eq0 c = half_even c.args.block.now _ c.if-i-eq0.true

pub returns-else-i-eq0 : goal.returns-else-i-eq0
returns-else-i-eq0 c = half_odd c.args.block.now _ c.if-i-eq0.false
