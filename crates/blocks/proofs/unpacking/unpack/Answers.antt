use Rattle.std.proofs.Common.{sym}
use Rattle.answers.proofs.Told.{refuses, handed_on}
use Rattle.block_rules.proofs.Accept.{unpackable, where_refused, where_done}
use Rattle.blocks.proofs.unpacking.unpack.Goals as goal

pub returns-in_err-check_unpack : goal.returns-in_err-check_unpack
returns-in_err-check_unpack c = rw (handed_on c.from_residual.ensures.1) (where_refused _ _ _ _ _ _ _ c.in_err-check_unpack.ensures (refuses _))

pub unpack_all-requires : goal.unpack_all-requires
unpack_all-requires c = unpackable _ _ _ _ (sym c.in_ok-check_unpack.ensures)

pub returns : goal.returns
returns c = where_done _ _ _ _ _ _ _ _ _ _ (sym c.in_ok-check_unpack.ensures) c.unpack_all.ensures
