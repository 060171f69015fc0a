use Prim.Native.Nat.{◌+◌, ◌-◌}
use native.Mathlib.Omega.{arith}
use Rattle.block_rules.specs.Codes.{written}
use Rattle.block_padding.proofs.Tops.{least-small}
use Rattle.block_padding.proofs.Told.{told-padded}
use Rattle.block_padding.proofs.padded.Goals as goal

pub overflow_add-result : goal.overflow_add-result
overflow_add-result c = omega (arith, c.least_top.ensures, least-small c.args.code)

pub returns : goal.returns
returns c =
    let least = c.least_top.ensures in (
      told-padded c.args.block.now c.args.tops (c.args.tops + 2 - written c.args.code) c.args.code (λ i. (c.type_inv.block i).fits) (omega (arith, c.requires)) (omega (arith, c.requires)) _ _
          c.load_two.ensures.0 least,
      omega (arith, least, least-small c.args.code),
    )
