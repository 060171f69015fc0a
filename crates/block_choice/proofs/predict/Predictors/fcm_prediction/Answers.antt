use Rattle.std.proofs.Common.{refl}
use Rattle.block_rules.specs.Predictors.{fcm_prediction}
use Rattle.block_choice.proofs.predict.Predictors.fcm_prediction.Goals as goal

pub returns : goal.returns
unfolding fcm_prediction
returns c = refl
