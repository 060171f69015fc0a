use native.Mathlib.Omega.{arith}
use Rattle.exam_rewriting.proofs.Rewriting.{lies, stands-behind, stands_with, exchanging, rewrites}
use Rattle.exam_rewriting.proofs.replace_block.Goals as goal

pub overflow_mul-place : goal.overflow_mul-place
overflow_mul-place c = omega (arith, lies _ _ _ _ _ _ c.requires)

pub overflow_add-place : goal.overflow_add-place
overflow_add-place c = omega (arith, lies _ _ _ _ _ _ c.requires)

pub overflow_sub-n : goal.overflow_sub-n
overflow_sub-n c = omega (arith, lies _ _ _ _ _ _ c.requires)

pub overflow_sub-n-2 : goal.overflow_sub-n-2
overflow_sub-n-2 c = omega (arith, lies _ _ _ _ _ _ c.requires)

pub resize-requires : goal.resize-requires
resize-requires c = (stands_with _ _ _ _ _ _ c.requires, stands-behind _ _ _ _ _ _ c.requires)

pub overflow_mul-n : goal.overflow_mul-n
overflow_mul-n c = omega (arith, lies _ _ _ _ _ _ c.requires)

pub overflow_add-trailer : goal.overflow_add-trailer
overflow_add-trailer c = omega (arith, lies _ _ _ _ _ _ c.requires)

pub exchange-requires : goal.exchange-requires
exchange-requires c = exchanging _ _ _ _ _ _ c.requires _ c.resize.ensures

pub overflow_sub-new_trailer : goal.overflow_sub-new_trailer
overflow_sub-new_trailer c = omega (arith, lies _ _ _ _ _ _ c.requires)

pub overflow_add-new_trailer : goal.overflow_add-new_trailer
overflow_add-new_trailer c = omega (arith, lies _ _ _ _ _ _ c.requires)

pub end_file-new_length-requires : goal.end_file-new_length-requires
end_file-new_length-requires c =
    let lie = lies _ _ _ _ _ _ c.requires in
    (omega (arith, lie), lie.few)

pub wipe-requires : goal.wipe-requires
wipe-requires c = omega (arith, lies _ _ _ _ _ _ c.requires)

pub returns : goal.returns
returns c =
    rewrites _ _ _ _ _ _ c.requires (λ i. (c.slice_known-1.given i).fits) _ _ _ _ _ _ c.resize.ensures c.exchange.ensures
    c.end_file-new_length.ensures c.wipe.ensures (omega arith)
