use Rattle.std.proofs.Common.{refl}
use Rattle.block_rules.proofs.Learn.{cleared-is, ready-start}
use Rattle.block_choice.proofs.predict.Predictors.new.Goals as goal

pub returns : goal.returns
returns c =
    record {
      same_fcm = refl;
      same_dfcm = refl;
      same_size = refl;
      able = ready-start c.args.fcm.now c.args.dfcm.now c.requires;
      holds = cleared-is c.args.fcm.now c.args.dfcm.now c.requires;
    }
