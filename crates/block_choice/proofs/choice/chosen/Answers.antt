use Rattle.std.proofs.Common.{◌∙◌, arith}
use Rattle.block_rules.proofs.Codes.{low_three_small}
use Rattle.block_choice.proofs.Choosing.{Taken, taken_dfcm, taken_fcm}
use Rattle.block_choice.proofs.choice.chosen.Goals as goal
use Rattle.block_choice.proofs.choice.chosen.Goals.{then-by_fcm-by_dfcm, else-by_fcm-by_dfcm}

-- where the two ways meet
taken : (c : goal.Joined-by_fcm-by_dfcm) → Taken c.args.by_fcm c.args.by_dfcm c.if-by_fcm-by_dfcm.top c.if-by_fcm-by_dfcm.zeros c.if-by_fcm-by_dfcm.residual
taken c =
    elim c.if-by_fcm-by_dfcm.branch [
      | then-by_fcm-by_dfcm w ↦ taken_dfcm (omega arith) c.requires.1 (omega (arith, w.if-by_fcm-by_dfcm.true)) w.top-is w.residual-is (w.zeros-is ∙ w.zero_bytes-zeros-then-by_fcm-by_dfcm.ensures)
      | else-by_fcm-by_dfcm w ↦ taken_fcm (omega arith) c.requires.0 (omega (arith, w.if-by_fcm-by_dfcm.false)) w.top-is w.residual-is (w.zeros-is ∙ c.zero_bytes-zeros.ensures)
    ]

pub low_three-requires : goal.low_three-requires
low_three-requires c = (taken c).some

pub overflow_add-code : goal.overflow_add-code
overflow_add-code c =
    let at = c.before.before in
    let t = taken at in
    omega (arith, t.bit, c.low_three.ensures, low_three_small c.if-by_fcm-by_dfcm.zeros (omega (arith, t.some)))

pub returns : goal.returns
returns c = rw c.low_three.ensures (taken c.before.before).coded
