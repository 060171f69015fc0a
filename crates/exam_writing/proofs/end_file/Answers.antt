use native.Mathlib.Omega.{arith}
use Rattle.exam_writing.proofs.Writes.{trails}
use Rattle.exam_writing.proofs.end_file.Goals as goal

pub returns : goal.returns
returns c = trails _ _ c.args.trailer _ _ _ _ c.put_trailer.ensures (omega arith) (omega arith) (omega arith)
