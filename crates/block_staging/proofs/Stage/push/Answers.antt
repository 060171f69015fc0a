use Rattle.std.proofs.Common.{◌+◌, ◌≤◌, length, ap, arith}
use Rattle.block_rules.proofs.Codes.{written_small}
use Rattle.block_staging.specs.Waiting.{Waiting}
use Rattle.block_staging.proofs.Staging.{code_staged}
use Rattle.block_staging.proofs.Stage.push.Goals as goal

pub overflow_add-self : goal.overflow_add-self
overflow_add-self c = omega (arith, c.written_by_table.ensures, written_small c.args.coded.code, ap (λ (w : Waiting). w.room) c.self.view_is, c.requires)

pub invariant_of-self : goal.invariant_of-self
invariant_of-self c = omega (arith, c.store_eight.auto.stage, c.written_by_table.ensures, written_small c.args.coded.code, ap (λ (w : Waiting). w.room) c.self.view_is, c.requires)

pub returns : goal.returns
returns c =
    let room : c.self.inside.staged + 8 ≤ length c.self.inside.bytes.now = omega (arith, ap (λ (w : Waiting). w.room) c.self.view_is, c.requires) in
    rw (← c.self.view_is) (code_staged _ _ _ _ c.args.coded _ room c.written_by_table.ensures c.store_eight.ensures)
