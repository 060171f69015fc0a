-- Inputs of more bytes than the packer takes are answered alike, so it reads no further.
use Rattle.std.proofs.Common.{◌≡◌, ℕ, ◌≤◌, List, [], length, sym, ap, ◌∙◌, arith}
use borrow.Author.Tests.{lt-leb}
use Rattle.answers.proofs.Checks.{stops}
use Rattle.streams.specs.Refusal.{errors_of}
use Rattle.streams.proofs.Written.{refused-output}
use Rattle.packer.specs.Program.{packer_number}
use Rattle.packer.specs.Output.{packer_output, packer_errors}

too_many : (n : ℕ) → 32769 ≤ n → 2 ≡ packer_number n
unfolding packer_number
too_many n h = stops _ _ _ (lt-leb n 32768 h) (omega arith)

nothing : (input : List ℕ) → 32769 ≤ length input → packer_output input ≡ []
unfolding packer_output
nothing input h = refused-output (λ z. absurd (omega (arith, too_many _ h, z))) _

pub output-alike : (xs ys : List ℕ) → 32769 ≤ length xs → 32769 ≤ length ys → packer_output xs ≡ packer_output ys
output-alike xs ys h k = nothing xs h ∙ sym (nothing ys k)

pub errors-alike : (xs ys : List ℕ) → 32769 ≤ length xs → 32769 ≤ length ys → packer_errors xs ≡ packer_errors ys
unfolding packer_errors
errors-alike xs ys h k = ap errors_of (sym (too_many _ h) ∙ too_many _ k)
