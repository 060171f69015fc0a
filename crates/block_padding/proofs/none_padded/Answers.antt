use mathlib.Core.Path.{refl}
use native.Mathlib.Omega.{arith}
use Rattle.block_padding.proofs.Tops.{walking_starts, pair_within, walking_pair, walking_ends, last_within, walking_last}
use Rattle.block_padding.proofs.none_padded.Goals as goal

pub loop-byte-init : goal.loop-byte-init
loop-byte-init c = walking_starts _ _ _ c.requires (omega arith)

pub overflow_add-middle : goal.overflow_add-middle
overflow_add-middle c =
    let within = pair_within _ _ _ _ _ _ _ _ _ c.requires c.loop-byte.invariant c.loop-byte-test.true refl c.written_by_table.ensures refl in
    omega (arith, within, c.well_formed.0.0)

pub overflow_add-tops-in-loop-byte : goal.overflow_add-tops-in-loop-byte
overflow_add-tops-in-loop-byte c =
    let within = pair_within _ _ _ _ _ _ _ _ _ c.requires c.loop-byte.invariant c.loop-byte-test.true refl c.written_by_table.ensures c.written_by_table-in-loop-byte.ensures in
    omega (arith, within, c.well_formed.0.0)

pub padded-high_faults-requires : goal.padded-high_faults-requires
padded-high_faults-requires c =
    let first = c.written_by_table.ensures in
    let within = pair_within _ _ _ _ _ _ _ _ _ c.requires c.loop-byte.invariant c.loop-byte-test.true refl first c.written_by_table-in-loop-byte.ensures in
    (omega (arith, first, c.loop-byte.invariant.past), omega (arith, within))

pub padded-low_faults-requires : goal.padded-low_faults-requires
padded-low_faults-requires c =
    let first = c.written_by_table.ensures in
    let second = c.written_by_table-in-loop-byte.ensures in
    let within = pair_within _ _ _ _ _ _ _ _ _ c.requires c.loop-byte.invariant c.loop-byte-test.true refl first second in
    (omega (arith, second, c.loop-byte.invariant.past), within)

pub loop-byte-preserved : goal.loop-byte-preserved
loop-byte-preserved c =
    walking_pair _ _ _ _ _ _ _ _ _ c.requires c.loop-byte.invariant c.loop-byte-test.true refl c.written_by_table.ensures c.written_by_table-in-loop-byte.ensures _ _
    c.padded-high_faults.ensures.0 c.padded-low_faults.ensures.0

pub overflow_add-tops-then-n-eq1 : goal.overflow_add-tops-then-n-eq1
overflow_add-tops-then-n-eq1 c =
    let within = last_within _ _ _ _ _ _ _ c.requires c.loop-byte.invariant c.loop-byte-test.false c.if-n-eq1.true refl c.written_by_table-then-n-eq1.ensures in
    omega (arith, within, c.well_formed.0.0)

pub padded-requires : goal.padded-requires
padded-requires c =
    let last = c.written_by_table-then-n-eq1.ensures in
    (omega (arith, last, c.loop-byte.invariant.past), last_within _ _ _ _ _ _ _ c.requires c.loop-byte.invariant c.loop-byte-test.false c.if-n-eq1.true refl last)

pub returns-then-n-eq1 : goal.returns-then-n-eq1
returns-then-n-eq1 c = walking_last _ _ _ _ _ _ _ c.requires c.loop-byte.invariant c.loop-byte-test.false c.if-n-eq1.true refl c.written_by_table-then-n-eq1.ensures _ c.padded.ensures.0

pub returns : goal.returns
returns c = walking_ends _ _ _ _ _ c.requires c.loop-byte.invariant c.loop-byte-test.false c.if-n-eq1.false
