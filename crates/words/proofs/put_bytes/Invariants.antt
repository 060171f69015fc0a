use Rattle.std.proofs.Common.{◌≡◌, ◌-◌}
use lib.Seq.{sets}
use Rattle.words.specs.Bytes.{low_bytes}
use Rattle.words.proofs.put_bytes.Given as goal

abbrev pub invariant-loop-byte : goal.invariant-loop-byte
invariant-loop-byte l = sets l.byte-items l.byte-index (low_bytes (l.k - l.byte-index) l.rest) ≡ low_bytes l.k l.x
