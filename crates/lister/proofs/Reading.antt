-- Inputs of more bytes than the lister takes are answered alike, so it reads no further.
use Rattle.std.proofs.Common.{◌≡◌, ℕ, ◌≤◌, List, [], length, sym, ap, ◌∙◌, arith}
use borrow.Author.Tests.{lt-leb}
use Rattle.answers.proofs.Checks.{stops}
use Rattle.listing.specs.Numbers.{list_number}
use Rattle.streams.specs.Refusal.{errors_of}
use Rattle.streams.proofs.Written.{refused-output}
use Rattle.lister.specs.Output.{lister_room, lister_output, lister_errors}

too_many : (f : List ℕ) → 65537 ≤ length f → 3 ≡ list_number f lister_room
unfolding list_number
too_many f h = stops _ _ _ (lt-leb (length f) 65536 h) (omega arith)

nothing : (f : List ℕ) → 65537 ≤ length f → lister_output f ≡ []
unfolding lister_output
nothing f h = refused-output (λ z. absurd (omega (arith, too_many f h, z))) _

pub output-alike : (xs ys : List ℕ) → 65537 ≤ length xs → 65537 ≤ length ys → lister_output xs ≡ lister_output ys
output-alike xs ys h k = nothing xs h ∙ sym (nothing ys k)

pub errors-alike : (xs ys : List ℕ) → 65537 ≤ length xs → 65537 ≤ length ys → lister_errors xs ≡ lister_errors ys
unfolding lister_errors
errors-alike xs ys h k = ap errors_of (sym (too_many _ h) ∙ too_many _ k)
