use Rattle.std.proofs.Common.{arith}
use Rattle.block_unpacking.proofs.GetLoop.{named-fcm, named-dfcm}
use Rattle.block_unpacking.proofs.named_prediction.Goals as goal

pub returns-then-code-lt8 : goal.returns-then-code-lt8
returns-then-code-lt8 c = named-fcm _ c.args.code _ (omega (arith, c.if-code-lt8.true)) c.fcm_prediction.ensures

pub returns : goal.returns
returns c = named-dfcm _ c.args.code _ (omega (arith, c.if-code-lt8.false)) c.dfcm_prediction.ensures
