use native.Mathlib.Omega.{arith}
use mathlib.Core.Path.{sym, ◌∙◌}
use Rattle.listing.proofs.Decimals.{decimal-is}
use Rattle.listing.proofs.Lines.{room_on, extends_on}
use Rattle.listing.proofs.text.Text.put_number.Goals as goal

pub put-requires-2 : goal.put-requires-2
put-requires-2 c = rw (c.as_bytes.ensures.value ∙ c.format.ensures.text ∙ sym (decimal-is c.args.n (omega arith))) (room_on _ _ c.requires c.put.ensures)

pub returns : goal.returns
returns c = extends_on _ _ c.put.ensures (rw (c.as_bytes.ensures.value ∙ c.format.ensures.text ∙ sym (decimal-is c.args.n (omega arith))) at c.put-2.ensures)
