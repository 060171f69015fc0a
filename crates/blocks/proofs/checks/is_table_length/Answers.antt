use mathlib.Core.Path.{refl}
use native.Mathlib.Omega.{arith}
use Rattle.block_rules.proofs.Tables.{table_too_long, table_is_power}
use Rattle.blocks.proofs.checks.is_table_length.Goals as goal

pub returns-then-t-gt16 : goal.returns-then-t-gt16
returns-then-t-gt16 c = table_too_long _ _ refl (omega (arith, c.if-t-gt16.true))

pub returns : goal.returns
returns c = table_is_power _ _ refl (omega (arith, c.if-t-gt16.false))
