use native.Mathlib.Omega.{arith}
use borrow.Author.Tests.{le-leb, lt-leb, eq-eqb, ne_eqb}
use Rattle.answers.proofs.Checks.{all_pass, passes, stops}
use Rattle.packer.specs.Program.{packer_number}
use Rattle.packer.proofs.packing.check_input.Goals as goal

pub returns-then-length-gt32768 : goal.returns-then-length-gt32768
unfolding packer_number
returns-then-length-gt32768 c = stops _ _ _ (lt-leb c.args.length _ (omega (arith, c.if-length-gt32768.true))) (omega arith)

pub returns-then-length-ne0 : goal.returns-then-length-ne0
unfolding packer_number
returns-then-length-ne0 c = passes _ _ _ _ (le-leb c.args.length _ (omega (arith, c.if-length-gt32768.false))) (stops _ _ _ (ne_eqb _ _ c.if-length-ne0.true) (omega arith))

pub returns : goal.returns
unfolding packer_number
returns c = passes _ _ _ _ (le-leb c.args.length _ (omega (arith, c.if-length-gt32768.false))) (passes _ _ _ _ (eq-eqb _ _ c.if-length-ne0.false) all_pass)
