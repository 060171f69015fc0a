use mathlib.Core.Path.{refl, sym}
use native.Mathlib.Omega.{arith}
use Rattle.answers.proofs.Told.{refuses, handed_on}
use Rattle.exam_rules.proofs.Opens.{opens_in, done-tells, standing}
use Rattle.exam_opening.proofs.Finding.{not-opened, once-opened}
use Rattle.exam_replacing.proofs.Replacing.{not_found, replace_not_done, stores, bench-holds, replacing, replace_done}
use Rattle.exam_replacing.proofs.replace.Goals as goal

pub returns-in_err-trailer : goal.returns-in_err-trailer
returns-in_err-trailer c =
    rw (handed_on c.from_residual.ensures.1) (not_found _ _ _ _ _ _ _ _ _ (not-opened _ _ _ _ _ c.in_err-trailer.ensures) (refuses _))

pub slice_bounds-part_of-end : goal.slice_bounds-part_of-end
slice_bounds-part_of-end c = (opens_in _ _ _ (done-tells _ _ _ _ (sym c.in_ok-trailer.ensures)).0).within

pub slice_bounds-part_of-end-2 : goal.slice_bounds-part_of-end-2
slice_bounds-part_of-end-2 c = sym (opens_in _ _ _ (done-tells _ _ _ _ (sym c.in_ok-trailer.ensures)).0).long

pub part_of-requires : goal.part_of-requires
part_of-requires c = standing _ _ _ _ (sym c.in_ok-trailer.ensures)

pub returns-in_err-part : goal.returns-in_err-part
returns-in_err-part c =
    rw (handed_on c.from_residual-in_err-part.ensures.1)
    (not_found _ _ _ _ _ _ _ _ _ (once-opened _ _ _ _ _ _ c.in_ok-trailer.ensures c.in_err-part.ensures) (refuses _))

pub check_store-requires : goal.check_store-requires
check_store-requires c =
    let in-l = opens_in _ _ _ (done-tells _ _ _ _ (sym c.in_ok-trailer.ensures)).0 in
    omega (arith, in-l.long, in-l.is.trailer.small)

pub returns-in_err-check_store : goal.returns-in_err-check_store
returns-in_err-check_store c =
    rw (handed_on c.from_residual-in_err-check_store.ensures.1) (replace_not_done _ _ _ _ c.args.words.now c.args.fcm.now c.args.dfcm.now c.args.bench.now _ (sym c.in_ok-trailer.ensures) _ c.in_ok-part.ensures _ c.in_err-check_store.ensures (refuses _))

pub pack_all-size-requires : goal.pack_all-size-requires
pack_all-size-requires c = (stores _ _ _ _ c.args.words.now c.args.fcm.now c.args.dfcm.now c.args.bench.now _ (sym c.in_ok-trailer.ensures) _ c.in_ok-part.ensures _ c.in_ok-check_store.ensures refl).packs

pub slice_bounds-replace_block-end : goal.slice_bounds-replace_block-end
slice_bounds-replace_block-end c = bench-holds _ _ _ _ c.args.words.now c.args.fcm.now c.args.dfcm.now c.args.bench.now _ (sym c.in_ok-trailer.ensures) _ c.in_ok-part.ensures _ c.in_ok-check_store.ensures refl _ _ _ _ c.pack_all-size.ensures

pub replace_block-requires : goal.replace_block-requires
replace_block-requires c = replacing _ _ _ _ c.args.words.now c.args.fcm.now c.args.dfcm.now c.args.bench.now _ (sym c.in_ok-trailer.ensures) _ c.in_ok-part.ensures _ c.in_ok-check_store.ensures refl _ _ _ _ c.pack_all-size.ensures

pub returns : goal.returns
returns c = replace_done _ _ _ _ c.args.words.now c.args.fcm.now c.args.dfcm.now c.args.bench.now _ (sym c.in_ok-trailer.ensures) _ c.in_ok-part.ensures _ c.in_ok-check_store.ensures refl _ _ _ _ c.pack_all-size.ensures _ _ c.replace_block.ensures
