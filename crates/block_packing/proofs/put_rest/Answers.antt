use native.Mathlib.Omega.{arith}
use lib.ListN.{length-set}
use Rattle.block_staging.proofs.Staging.{word-code, word_bytes}
use Rattle.block_packing.proofs.put_rest.Goals as goal

pub overflow_mul-out : goal.overflow_mul-out
overflow_mul-out c = omega (arith, word-code c.stage_word-code.ensures)

pub overflow_add-out : goal.overflow_add-out
overflow_add-out c = omega (arith, word-code c.stage_word-code.ensures)

pub flush-requires-2 : goal.flush-requires-2
flush-requires-2 c = simp length-set (omega (arith, word_bytes c.stage_word-code.ensures, c.requires.room, c.if-count-eq0.false))
