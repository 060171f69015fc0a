use Rattle.std.proofs.Common.{◌≡◌, ◌+◌, ◌∙◌, sym, arith}
use lib.Bits.{xor_zero_l}
use Rattle.words.specs.Words.{xor}
use Rattle.words.specs.Bytes.{field}
use Rattle.block_rules.specs.Codes.{written}
use Rattle.block_rules.proofs.Codes.{written_small}
use Rattle.block_unpacking.proofs.GetLoop.{gets_word}
use Rattle.block_unpacking.proofs.get_word.Goals as goal
use Rattle.block_unpacking.proofs.get_word.Goals.{then-k-gt0, else-k-gt0}

pub load_bytes-word-requires : goal.load_bytes-word-requires
load_bytes-word-requires c =
    let r = c.requires.0 in
    let k = c.written-k.ensures in
    (omega (arith, c.if-k-gt0.true), omega (arith, k, written_small c.args.code), omega (arith, r.past), omega (arith, k, r.within))

pub returns : goal.returns
unfolding xor
returns c =
    let k = c.written-k.ensures in
    let word : c.if-k-gt0.word ≡ xor (field (written c.args.code) c.args.at c.args.block.now) c.named_prediction-word.result =
    elim c.if-k-gt0.branch [
      | then-k-gt0 w ↦ w.word-is ∙ rw (w.load_bytes-word.ensures, k)
      | else-k-gt0 w ↦ let none : written c.args.code ≡ 0 = omega (arith, k, w.if-k-gt0.false) in w.word-is ∙ rw none (sym (xor_zero_l c.named_prediction-word.result))
    ] in
    let next : c.if-k-gt0.next ≡ c.args.at + written c.args.code =
    elim c.if-k-gt0.branch [ then-k-gt0 w ↦ omega (arith, w.next-is, k) | else-k-gt0 w ↦ omega (arith, w.next-is, k, w.if-k-gt0.false) ] in
    gets_word c.args.block.now c.args.at c.args.code _ _ _ _ _ _ _ c.named_prediction-word.ensures word c.learn.ensures next
