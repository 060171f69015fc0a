use native.Mathlib.Omega.{arith}
use Rattle.block_rules.proofs.Codes.{low_three_is}
use Rattle.block_choice.proofs.choice.low_three.Goals as goal

pub returns : goal.returns
returns c = omega (arith, low_three_is c.args.zero_bytes c.requires)
