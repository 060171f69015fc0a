use Rattle.std.proofs.Common.{arith}
use Rattle.words.proofs.Bytes.{field_shifted}
use Rattle.words.proofs.load_bytes.Goals as goal

pub returns : goal.returns
returns c = field_shifted _ _ _ c.args.src.now (λ i. (c.type_inv.src i).fits) (omega arith) (omega arith) c.load_eight.ensures
