-- What is written for an answer is what the program writes for its input.
use Rattle.std.proofs.Common.{◌≡◌, ℕ, List, length, take, sym, ap, ◌∙◌}
use Rattle.exam_rules.specs.Reading.{file_in}
use Rattle.listing.specs.Text.{listing}
use Rattle.listing.specs.Numbers.{list_number}
use Rattle.listing.specs.Calls.{listed, Lists, Listed}
use Rattle.streams.specs.Refusal.{output_of, errors_of}
use Rattle.streams.proofs.Written.{done-output}
use Rattle.lister.specs.Output.{lister_room, lister_output, lister_errors}

module _ {input text text' : List ℕ} {r : Listed} (room : length text ≡ lister_room) (a : Lists input text r text') where
  number_told : list_number input (length text) ≡ r.number
  unfolding listed
  number_told = sym (ap (λ (x : Listed). x.number) a.answer)

  number_is : list_number input lister_room ≡ r.number
  number_is = ap (list_number input) (sym room) ∙ number_told

  pub output_is : lister_output input ≡ output_of r.number (listing (file_in input))
  unfolding lister_output
  output_is = ap (λ k. output_of k (listing (file_in input))) number_is

  pub errors_is : lister_errors input ≡ errors_of r.number
  unfolding lister_errors
  errors_is = ap errors_of number_is

  pub text_is : r.number ≡ 0 → lister_output input ≡ take r.length text'
  unfolding lister_output listed
  text_is z =
      output_is ∙ ap (λ k. output_of k (listing (file_in input))) (sym number_told)
      ∙ done-output (number_told ∙ z) r.length (listing (file_in input)) text text' (ap (λ (x : Listed). x.length) a.answer) a.text_left
