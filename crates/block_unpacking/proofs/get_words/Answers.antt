use borrow.Author.Rules.{rules}
use Rattle.std.proofs.Common.{◌≡◌, ◌+◌, ◌-◌, ◌*◌, ◌<◌, refl, arith}
use Rattle.block_rules.proofs.Get.{pairs_end, pairs_high, pairs_low}
use Rattle.block_unpacking.proofs.GetLoop.{going-starts, code-within, codes-within, going_next, going_second, going_on, going-ends}
use Rattle.block_unpacking.proofs.get_words.Goals as goal

pub slice_bounds-byte-items-end : goal.slice_bounds-byte-items-end
slice_bounds-byte-items-end c = omega (arith, c.args.block.counted.codes)

pub loop-j-init : goal.loop-j-init
loop-j-init c = going-starts _ _ _ _ _ _ c.requires c.new-predictors.ensures

pub get_word-middle-requires : goal.get_word-middle-requires
get_word-middle-requires c =
    let u = c.args.block.counted in
    let h : 2 * c.loop-j.j + 1 < c.args.block.count = omega (arith, c.loop-j-test.true, pairs_end _ _ u) in
    let l = codes-within _ _ _ _ _ _ _ _ c.loop-j.invariant c.requires _ _ h (pairs_high _ _ u _ _ c.loop-j-test.true refl) (pairs_low _ _ u _ _ c.loop-j-test.true refl) in
    going_next _ _ _ _ _ _ _ _ c.loop-j.invariant c.requires _ (omega (arith, h)) (omega (arith, l))

pub get_word-at-requires : goal.get_word-at-requires
get_word-at-requires c =
    let u = c.args.block.counted in
    let h : 2 * c.loop-j.j + 1 < c.args.block.count = omega (arith, c.loop-j-test.true, pairs_end _ _ u) in
    let l = codes-within _ _ _ _ _ _ _ _ c.loop-j.invariant c.requires _ _ h (pairs_high _ _ u _ _ c.loop-j-test.true refl) (pairs_low _ _ u _ _ c.loop-j-test.true refl) in
    going_second _ _ _ _ _ _ _ _ c.loop-j.invariant c.requires _ _ _ _ _ h c.get_word-middle.ensures (omega (arith, l, c.get_word-middle.ensures.next))

pub loop-j-preserved : goal.loop-j-preserved
loop-j-preserved c =
    let u = c.args.block.counted in
    let h : 2 * c.loop-j.j + 1 < c.args.block.count = omega (arith, c.loop-j-test.true, pairs_end _ _ u) in
    let g = going_on _ _ _ _ _ _ _ _ c.loop-j.invariant c.requires _ _ _ _ (omega (arith, h)) (pairs_high _ _ u _ _ c.loop-j-test.true refl) c.get_word-middle.ensures in
    let e : 2 * (c.loop-j.j + 1) ≡ 2 * c.loop-j.j + 1 + 1 = omega arith in
    rw e (going_on _ _ _ _ _ _ _ _ g c.requires _ _ _ _ h (pairs_low _ _ u _ _ c.loop-j-test.true refl) c.get_word-at.ensures)

pub half-code-requires : goal.half-code-requires
half-code-requires c = omega (arith, c.args.block.counted.codes, c.if-n-eq1.true)

pub get_word-requires : goal.get_word-requires
get_word-requires c =
    let u = c.args.block.counted in
    let i : c.args.block.count - 1 ≡ 2 * c.loop-j.j = omega (arith, c.loop-j-test.false, pairs_end _ _ u, c.if-n-eq1.true, c.loop-j.invariant.upto) in
    let h : 2 * c.loop-j.j < c.args.block.count = omega (arith, i) in
    let l = code-within _ _ _ _ _ _ _ _ c.loop-j.invariant c.requires _ h (rw i at c.half-code.ensures) in
    rw i (going_next _ _ _ _ _ _ _ _ c.loop-j.invariant c.requires _ h l)

pub returns-then-n-eq1 : goal.returns-then-n-eq1
returns-then-n-eq1 c =
    let u = c.args.block.counted in
    let i : c.args.block.count - 1 ≡ 2 * c.loop-j.j = omega (arith, c.loop-j-test.false, pairs_end _ _ u, c.if-n-eq1.true, c.loop-j.invariant.upto) in
    let g = going_on _ _ _ _ _ _ _ _ c.loop-j.invariant c.requires _ _ _ _ (omega (arith, i)) (rw i at c.half-code.ensures) (rw i at c.get_word.ensures) in
    going-ends _ _ _ _ _ _ _ _ g c.requires (omega (arith, i)) c.new-predictors.ensures.same_size _ _ (search rules) (search rules)

pub returns-else-n-eq1 : goal.returns-else-n-eq1
returns-else-n-eq1 c =
    let u = c.args.block.counted in
    going-ends _ _ _ _ _ _ _ _ c.loop-j.invariant c.requires (omega (arith, c.loop-j-test.false, pairs_end _ _ u, c.if-n-eq1.false)) c.new-predictors.ensures.same_size _ _ (search rules)
    (search rules)
