use mathlib.Core.Path.{sym, ◌∙◌}
use native.Mathlib.Omega.{arith}
use Rattle.block_rules.proofs.Accept.{check_refused, check_done, too_short, too_many, misstated, uneven, unfilled, has_padding, fine}
use Rattle.block_rules.proofs.Get.{counted_cost}
use Rattle.block_checking.proofs.check.Goals as goal

pub returns-then-length-lt8 : goal.returns-then-length-lt8
returns-then-length-lt8 c = check_refused _ _ (too_short _ c.if-length-lt8.true) (λ z. omega arith)

pub returns-then-n-gt65536 : goal.returns-then-n-gt65536
returns-then-n-gt65536 c = check_refused _ _ (too_many _ _ c.if-length-lt8.false c.count-n.ensures c.if-n-gt65536.true) (λ z. omega arith)

pub returns-then-get_bytes-length : goal.returns-then-get_bytes-length
returns-then-get_bytes-length c = check_refused _ _ (misstated _ _ c.if-length-lt8.false c.count-n.ensures c.if-n-gt65536.false _ c.get_bytes.ensures c.if-get_bytes-length.true) (λ z. omega arith)

pub returns-then-length-start : goal.returns-then-length-start
returns-then-length-start c = check_refused _ _ (uneven _ _ c.if-length-lt8.false c.count-n.ensures c.if-n-gt65536.false _ c.get_bytes.ensures c.if-get_bytes-length.false (λ e. omega arith)) (λ z. omega arith)

pub overflow_add-start-3 : goal.overflow_add-start-3
overflow_add-start-3 c =
    let block = c.args.block.now in
    omega (
      arith,
      c.residual_length.ensures,
      c.if-n-gt65536.false,
      counted_cost block c.count-n.result (record { count = c.count-n.ensures; few = c.if-n-gt65536.false; codes = c.if-length-start.false }),
    )

pub returns-then-length-start-2 : goal.returns-then-length-start-2
returns-then-length-start-2 c = check_refused _ _ (uneven _ _ c.if-length-lt8.false c.count-n.ensures c.if-n-gt65536.false _ c.get_bytes.ensures c.if-get_bytes-length.false (λ e. omega (arith, c.residual_length.ensures, c.if-length-start-2.true))) (λ z. omega arith)

pub returns-then-not-filler_stands : goal.returns-then-not-filler_stands
returns-then-not-filler_stands c = check_refused _ _ (unfilled _ _ c.if-length-lt8.false c.count-n.ensures c.if-n-gt65536.false _ c.get_bytes.ensures c.if-get_bytes-length.false
    (omega (arith, c.residual_length.ensures, c.if-length-start-2.false)) (sym c.filler_stands.ensures ∙ c.if-not-filler_stands.true)) (λ z. omega arith)

pub none_padded-requires : goal.none_padded-requires
none_padded-requires c =
    record {
      counted = record { count = c.count-n.ensures; few = c.if-n-gt65536.false; codes = c.if-length-start.false };
      adds = omega (arith, c.residual_length.ensures, c.if-length-start-2.false);
    }

pub returns-then-not-none_padded : goal.returns-then-not-none_padded
returns-then-not-none_padded c = check_refused _ _ (has_padding _ _ c.if-length-lt8.false c.count-n.ensures c.if-n-gt65536.false _ c.get_bytes.ensures c.if-get_bytes-length.false
    (omega (arith, c.residual_length.ensures, c.if-length-start-2.false)) (sym c.filler_stands.ensures ∙ c.if-not-filler_stands.false)
    (sym c.none_padded.ensures ∙ c.if-not-none_padded.true)) (λ z. omega arith)

pub returns : goal.returns
returns c =
    check_done _ _ (sym (fine _ _ c.if-length-lt8.false c.count-n.ensures c.if-n-gt65536.false _ c.get_bytes.ensures c.if-get_bytes-length.false
    (omega (arith, c.residual_length.ensures, c.if-length-start-2.false)) (sym c.filler_stands.ensures ∙ c.if-not-filler_stands.false)
    (sym c.none_padded.ensures ∙ c.if-not-none_padded.false))) c.count-n.ensures
