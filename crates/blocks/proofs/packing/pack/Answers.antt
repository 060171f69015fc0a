use Rattle.std.proofs.Common.{sym}
use Rattle.answers.proofs.Told.{refuses, handed_on}
use Rattle.block_rules.proofs.Accept.{packable, pack_refused, pack_done}
use Rattle.blocks.proofs.packing.pack.Goals as goal

pub returns-in_err-check_pack : goal.returns-in_err-check_pack
returns-in_err-check_pack c = rw (handed_on c.from_residual.ensures.1) (pack_refused _ _ _ _ _ c.in_err-check_pack.ensures (refuses _))

pub pack_all-requires : goal.pack_all-requires
pack_all-requires c = packable _ _ _ _ (sym c.in_ok-check_pack.ensures)

pub returns : goal.returns
returns c = pack_done _ _ _ _ _ _ _ _ (sym c.in_ok-check_pack.ensures) c.pack_all.ensures
