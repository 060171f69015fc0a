use Rattle.std.proofs.Common.{arith}
use Rattle.words.specs.Words.{xor}
use Rattle.words.proofs.Xor.{xor_same, xor_differs, xor-word}
use Rattle.block_staging.proofs.Staging.{fcm_zero, dfcm_zero}
use Rattle.block_staging.proofs.stage_chosen.Goals as goal

pub returns-then-word-fcm_predicts : goal.returns-then-word-fcm_predicts
returns-then-word-fcm_predicts c = fcm_zero _ _ _ (xor_same _ _ c.if-word-fcm_predicts.true)

pub returns-then-word-dfcm_predicts : goal.returns-then-word-dfcm_predicts
returns-then-word-dfcm_predicts c = dfcm_zero _ _ _ (xor-word _ _ (omega arith) (omega arith)) (xor_differs _ _ c.if-word-fcm_predicts.false) (xor_same _ _ c.if-word-dfcm_predicts.true)

pub returns : goal.returns
unfolding xor
returns c = record { code_is = rw c.chosen-coded.ensures; adds = rw c.chosen-coded.ensures at c.push.ensures }
