use native.Mathlib.Omega.{arith}
use Rattle.block_rules.proofs.Codes.{written_is}
use Rattle.block_choice.proofs.choice.written.Goals as goal

pub returns : goal.returns
returns c = omega (arith, written_is c.args.code)
