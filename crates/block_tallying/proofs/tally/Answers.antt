use mathlib.Core.Path.{refl}
use native.Mathlib.Omega.{arith}
use Rattle.block_rules.proofs.Accept.{form_tells, whole-counted}
use Rattle.block_tallying.proofs.Tallies.{can_tally, tallied_is}
use Rattle.block_tallying.proofs.tally.Goals as goal

pub count-n-requires : goal.count-n-requires
count-n-requires c = (form_tells _ c.requires).long

pub invariant_of-counted : goal.invariant_of-counted
invariant_of-counted c = record { counted = whole-counted _ _ (form_tells _ c.requires) c.count-n.ensures }

pub overflow_sub-result : goal.overflow_sub-result
overflow_sub-result c =
    let can = can_tally _ c.requires _ _ _ c.count-n.ensures c.dfcm_words-dfcm_words.ensures refl in
    omega (arith, can.0)

pub overflow_add-result : goal.overflow_add-result
overflow_add-result c =
    let can = can_tally _ c.requires _ _ _ c.count-n.ensures c.dfcm_words-dfcm_words.ensures refl in
    omega (arith, can.1)

pub overflow_add-result-2 : goal.overflow_add-result-2
overflow_add-result-2 c =
    let can = can_tally _ c.requires _ _ _ c.count-n.ensures c.dfcm_words-dfcm_words.ensures refl in
    omega (arith, can.1)

pub overflow_sub-result-2 : goal.overflow_sub-result-2
overflow_sub-result-2 c =
    let can = can_tally _ c.requires _ _ _ c.count-n.ensures c.dfcm_words-dfcm_words.ensures refl in
    omega (arith, can.2)

pub returns : goal.returns
returns c = tallied_is _ c.requires _ _ _ c.count-n.ensures c.dfcm_words-dfcm_words.ensures refl
