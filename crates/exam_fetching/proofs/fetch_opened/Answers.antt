use mathlib.Core.Path.{refl}
use Rattle.answers.proofs.Told.{refuses, handed_on}
use Rattle.block_rules.proofs.Accept.{where_refused}
use Rattle.exam_fetching.proofs.Fetching.{not-there, its-block, opened-unpackable, opened-done}
use Rattle.exam_fetching.proofs.fetch_opened.Goals as goal

pub returns-in_err-check_fetch : goal.returns-in_err-check_fetch
returns-in_err-check_fetch c =
    rw (handed_on c.from_residual-in_err-check_fetch.ensures.1)
    (where_refused _ _ _ _ _ _ _ (its-block _ _ c.requires _ _ _ _ _ c.in_ok-part.ensures _ c.in_err-check_fetch.ensures) (refuses _))

pub unpack_all-requires : goal.unpack_all-requires
unpack_all-requires c = opened-unpackable _ _ c.requires _ _ _ _ _ c.in_ok-part.ensures _ c.in_ok-check_fetch.ensures refl

pub returns : goal.returns
returns c = opened-done _ _ c.requires _ _ _ _ _ c.in_ok-part.ensures _ c.in_ok-check_fetch.ensures refl _ _ _ _ c.unpack_all.ensures

pub returns-in_err-part : goal.returns-in_err-part
returns-in_err-part c =
    rw (handed_on c.from_residual.ensures.1)
    (where_refused _ _ _ _ _ _ _ (not-there _ _ c.requires _ _ _ _ _ c.in_err-part.ensures (refuses _)) (refuses _))
