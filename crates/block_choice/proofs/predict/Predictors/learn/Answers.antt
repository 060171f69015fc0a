use Rattle.std.proofs.Common.{refl, ap, arith, length-set}
use Rattle.block_rules.specs.Numbers.{t_of}
use Rattle.block_rules.proofs.Tables.{sized-some}
use Rattle.block_rules.proofs.Learn.{ready-learn}
use Rattle.block_choice.proofs.Learning.{learnt_of}
use Rattle.block_choice.proofs.predict.Predictors.learn.Goals as goal

pub returns : goal.returns
returns c =
    let p = c.args.self.now in
    let learnt = learnt_of p.fcm.now p.dfcm.now p.carry c.args.word _ _ _ _ (omega (arith, sized-some _ _ c.requires.sized)) c.difference-difference.ensures c.next_hash.ensures c.next_hash-2.ensures in
    record { same_fcm = refl; same_dfcm = refl; same_size = ap t_of (length-set _ _ _); able = ready-learn p.fcm.now p.dfcm.now _ _ p.carry _ c.args.word c.requires learnt; holds = learnt }
