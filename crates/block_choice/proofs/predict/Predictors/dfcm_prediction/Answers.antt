use Rattle.words.specs.Words.{add64}
use Rattle.block_rules.specs.Predictors.{dfcm_prediction}
use Rattle.block_choice.proofs.predict.Predictors.dfcm_prediction.Goals as goal

pub returns : goal.returns
unfolding dfcm_prediction add64
returns c = c.wrapping_add_u64.ensures.value
