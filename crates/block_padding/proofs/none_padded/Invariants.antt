use Prim.Native.Nat.{◌+◌, ◌*◌}
use Rattle.block_padding.proofs.Tops.{Walking}
use Rattle.block_padding.proofs.none_padded.Given as goal

abbrev pub invariant-loop-byte : goal.invariant-loop-byte
invariant-loop-byte l = Walking l.block l.n (l.tops + 2) (l.high_faults + l.low_faults) (2 * l.byte-index)
