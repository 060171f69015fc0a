use mathlib.Core.Path.{refl}
use native.Mathlib.Omega.{arith}
use Rattle.answers.proofs.Told.{refuses, handed_on}
use Rattle.exam_rules.proofs.Opens.{opens_in, done-tells}
use Rattle.exam_appending.proofs.Appending.{directory-within, next_read, opened-refused, opened-appendable, bench-holds, adding, opened-done}
use Rattle.exam_appending.proofs.append_opened.Goals as goal

pub overflow_mul-directory_end : goal.overflow_mul-directory_end
overflow_mul-directory_end c = omega (arith, directory-within _ _ _ _ c.requires)

pub overflow_add-directory_end : goal.overflow_add-directory_end
overflow_add-directory_end c = omega (arith, directory-within _ _ _ _ c.requires)

pub slice_bounds-next_slot-end : goal.slice_bounds-next_slot-end
slice_bounds-next_slot-end c = directory-within _ _ _ _ c.requires

pub check_append-requires : goal.check_append-requires
check_append-requires c =
    let in-l = opens_in _ _ _ (done-tells _ _ _ _ c.requires).0 in
    omega (arith, in-l.long, in-l.is.trailer.small)

pub returns-in_err-check_append : goal.returns-in_err-check_append
returns-in_err-check_append c =
    rw (handed_on c.from_residual.ensures.1)
    (opened-refused _ _ _ _ c.args.words.now c.args.fcm.now c.args.dfcm.now c.args.bench.now _ c.requires _ _ (next_read _ _ _ _ c.requires _ c.next_slot-next.ensures) c.in_err-check_append.ensures (refuses _))

pub pack_all-size-requires : goal.pack_all-size-requires
pack_all-size-requires c = (opened-appendable _ _ _ _ c.args.words.now c.args.fcm.now c.args.dfcm.now c.args.bench.now _ c.requires _ _ (next_read _ _ _ _ c.requires _ c.next_slot-next.ensures) c.in_ok-check_append.ensures refl).stores.packs

pub slice_bounds-add_block-end : goal.slice_bounds-add_block-end
slice_bounds-add_block-end c = (bench-holds _ _ _ _ c.args.words.now c.args.fcm.now c.args.dfcm.now c.args.bench.now _ c.requires _ _ (next_read _ _ _ _ c.requires _ c.next_slot-next.ensures) c.in_ok-check_append.ensures refl _ _ _ _ c.pack_all-size.ensures)

pub add_block-requires : goal.add_block-requires
add_block-requires c = adding _ _ _ _ c.args.words.now c.args.fcm.now c.args.dfcm.now c.args.bench.now _ c.requires _ _ (next_read _ _ _ _ c.requires _ c.next_slot-next.ensures) c.in_ok-check_append.ensures refl _ _ _ _ c.pack_all-size.ensures

pub returns : goal.returns
returns c = opened-done _ _ _ _ c.args.words.now c.args.fcm.now c.args.dfcm.now c.args.bench.now _ c.requires _ _ (next_read _ _ _ _ c.requires _ c.next_slot-next.ensures) c.in_ok-check_append.ensures refl _ _ _ _ c.pack_all-size.ensures (λ i. (c.slice_known-1.given i).fits) _ _ c.add_block.ensures
