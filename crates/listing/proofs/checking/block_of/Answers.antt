use native.Mathlib.Omega.{arith}
use Rattle.listing.proofs.Walks.{part-is, part-ends}
use Rattle.listing.proofs.checking.block_of.Goals as goal

pub overflow_add-end : goal.overflow_add-end
overflow_add-end c = omega (arith, part-ends c.args.file.now _ _ _ c.requires c.get_bytes-offset.ensures c.get_bytes.ensures)

pub slice_bounds-result-end : goal.slice_bounds-result-end
slice_bounds-result-end c = part-ends c.args.file.now _ _ _ c.requires c.get_bytes-offset.ensures c.get_bytes.ensures

pub returns : goal.returns
returns c = part-is c.args.file.now _ _ _ c.requires c.get_bytes-offset.ensures c.get_bytes.ensures
