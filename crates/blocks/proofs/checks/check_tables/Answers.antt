use mathlib.Core.Path.{◌≡◌, sym, ◌∙◌}
use native.Mathlib.Omega.{arith}
use borrow.Author.Tests.{eq-eqb, ne_eqb}
use Rattle.answers.proofs.Checks.{unless-passes, unless_fails, all_pass, fails_here, fails_later}
use Rattle.block_rules.specs.Numbers.{tables_number}
use Rattle.blocks.proofs.checks.check_tables.Goals as goal

pub returns-then-fcm-dfcm : goal.returns-then-fcm-dfcm
unfolding tables_number
returns-then-fcm-dfcm c = fails_here _ _ _ (unless_fails _ _ (ne_eqb c.args.fcm c.args.dfcm (λ e. omega (arith, c.if-fcm-dfcm.true)))) (λ e. omega arith)

pub returns-then-not-is_table_length : goal.returns-then-not-is_table_length
unfolding tables_number
returns-then-not-is_table_length c =
    fails_later _ _ _ (unless-passes _ _ (eq-eqb c.args.fcm c.args.dfcm (omega (arith, c.if-fcm-dfcm.false))))
    (fails_here _ _ _ (unless_fails _ _ (sym c.is_table_length.ensures ∙ c.if-not-is_table_length.true)) (λ e. omega arith))

pub returns : goal.returns
unfolding tables_number
returns c =
    let one_length : c.args.fcm ≡ c.args.dfcm = omega (arith, c.if-fcm-dfcm.false) in
    fails_later _ _ _ (unless-passes _ _ (eq-eqb c.args.fcm c.args.dfcm one_length))
    (fails_later _ _ _ (unless-passes _ _ (sym c.is_table_length.ensures ∙ c.if-not-is_table_length.false)) all_pass)
