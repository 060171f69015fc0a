use Rattle.std.proofs.Common.{◌∙◌, ap, length, length-set, length-append, arith}
use Rattle.packer.specs.Program.{words_of}
use Rattle.packer.proofs.Input.{words_next, words_end}
use Rattle.packer.proofs.packing.put_words.Goals as goal

pub loop-i-preserved : goal.loop-i-preserved
loop-i-preserved c =
    let (size, long, count, put) = c.loop-i.invariant in
    let ((kept, (split, whole), _), i, next, _) = c.in-Some.ensures.steps in
    let eight = whole ∙ size in (
      kept ∙ size,
      length-set _ _ _ ∙ long,
      omega (arith, count, next, ap length split, length-append c.in-Some.bytes.now c.next.new.self.iter.rest.now, eight),
      rw (next, i) (words_next _ _ _ _ _ _ eight c.get_bytes.ensures (rw split at put)),
    )

pub returns : goal.returns
unfolding words_of
returns c =
    let (size, _, _, put) = c.loop-i.invariant in
    words_end c.loop-i.i-iterator.iter.rest.now _ _ _ (omega (arith, size, c.in-None.ensures.steps.0.1.0)) put
