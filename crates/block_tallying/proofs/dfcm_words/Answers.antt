use Rattle.std.proofs.Common.{◌+◌, ◌-◌, ◌/◌, drop, arith, length-drop, length-take-le}
use Rattle.block_tallying.proofs.Counting.{none-counted, last_one, last_two}
use Rattle.block_tallying.proofs.dfcm_words.Goals as goal

pub returns-in_default : goal.returns-in_default
returns-in_default c =
    let block = c.args.block.bytes.now in
    let n = c.args.block.count in
    none-counted _ _ c.args.block.counted
    (omega (arith, c.in_default.ensures.cases, length-take-le (8 + (n + 1) / 2 - 8) (drop 8 block) (omega (arith, c.args.block.counted.codes, length-drop 8 block))))

pub returns-then-n-eq1 : goal.returns-then-n-eq1
returns-then-n-eq1 c = last_one _ _ c.args.block.counted _ _ _ (omega arith) c.in-Some.ensures.cases _ _ c.if-n-eq1.true c.dfcm_in_bytes-sum.ensures c.dfcm_in_high_half.ensures

pub returns : goal.returns
returns c = last_two _ _ c.args.block.counted _ _ _ (omega arith) c.in-Some.ensures.cases _ _ c.if-n-eq1.false c.dfcm_in_bytes-sum.ensures c.dfcm_in_byte.ensures.0
