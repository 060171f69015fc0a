use native.Mathlib.Omega.{arith}
use Rattle.exam_rewriting.proofs.Offsets.{resizes}
use Rattle.exam_rewriting.proofs.resize.Goals as goal

pub returns : goal.returns
returns c = resizes c.args.file.now _ _ c.args.place c.args.n c.args.old c.args.new (λ i. (c.slice_known-1.given i).fits) (omega (arith, c.requires.0.room)) c.move_offsets.ensures c.put_bytes.ensures
