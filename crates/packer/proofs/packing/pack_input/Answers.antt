use Rattle.std.proofs.Common.{rules, sym, arith}
use lib.Seq.{length-take-le}
use Rattle.answers.proofs.Told.{refuses, handed_on}
use Rattle.packer.proofs.Input.{takes, answers-refused, answers-done}
use Rattle.packer.proofs.packing.pack_input.Goals as goal

pub returns-in_err-check_input : goal.returns-in_err-check_input
returns-in_err-check_input c = rw (handed_on c.from_residual.ensures.1) (answers-refused _ _ _ _ _ c.in_err-check_input.ensures (refuses _))

pub put_words-requires : goal.put_words-requires
put_words-requires c =
    let t = takes _ (sym c.in_ok-check_input.ensures) in
    record { whole = t.whole; room = omega (arith, t.few) }

pub slice_bounds-words-end : goal.slice_bounds-words-end
slice_bounds-words-end c =
    let t = takes _ (sym c.in_ok-check_input.ensures) in
    omega (arith, t.few)

pub slice_bounds-pack-end : goal.slice_bounds-pack-end
slice_bounds-pack-end c =
    let t = takes _ (sym c.in_ok-check_input.ensures) in
    sym (length-take-le _ _ (omega (arith, t.few)))

pub returns : goal.returns
returns c = answers-done _ _ _ _ c.requires (sym c.in_ok-check_input.ensures) _ _ _ _ _ _ (search rules) c.put_words.ensures c.pack.ensures
