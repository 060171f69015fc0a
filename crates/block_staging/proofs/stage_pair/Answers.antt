use Rattle.std.proofs.Common.{arith}
use Rattle.block_staging.proofs.Staging.{word-code, word_room, pair_staged}
use Rattle.block_staging.proofs.stage_pair.Goals as goal

pub stage_word-two-requires : goal.stage_word-two-requires
stage_word-two-requires c = (omega (arith, c.requires.0, word_room c.stage_word-one.ensures), c.stage_word-one.ensures.learnt.able)

pub overflow_mul-result : goal.overflow_mul-result
overflow_mul-result c = omega (arith, word-code c.stage_word-one.ensures, word-code c.stage_word-two.ensures)

pub overflow_add-result : goal.overflow_add-result
overflow_add-result c = omega (arith, word-code c.stage_word-one.ensures, word-code c.stage_word-two.ensures)

pub returns : goal.returns
returns c = pair_staged _ _ _ _ _ _ _ _ _ _ c.stage_word-one.ensures c.stage_word-two.ensures
