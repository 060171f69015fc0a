use Rattle.block_staging.proofs.Staging.{coded-word, word-staged}
use Rattle.block_staging.proofs.stage_word.Goals as goal

pub returns : goal.returns
returns c =
    word-staged _ _ _ _ _ _ _ (coded-word _ c.args.word _ _ c.fcm_prediction-fcm_predicts.ensures c.dfcm_prediction-dfcm_predicts.ensures) c.learn.ensures
    c.stage_chosen.ensures
