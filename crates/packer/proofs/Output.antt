-- What is written for an answer is what the program writes for its input.
use Rattle.std.proofs.Common.{◌≡◌, ℕ, List, length, take, sym, ap, ◌∙◌}
use Rattle.block_rules.specs.Calls.{packed, Packed}
use Rattle.streams.specs.Refusal.{output_of, errors_of}
use Rattle.streams.proofs.Written.{done-output}
use Rattle.packer.specs.Program.{packer_number, packer_block, Answers}
use Rattle.packer.specs.Output.{packer_output, packer_errors}

module _ {input fcm dfcm out fcm' dfcm' out' : List ℕ} {r : Packed} (a : Answers input fcm dfcm out r fcm' dfcm' out') where
  number_is : packer_number (length input) ≡ r.number
  unfolding packed
  number_is = sym (ap (λ (x : Packed). x.number) a.answer)

  pub output_is : packer_output input ≡ output_of r.number (packer_block input)
  unfolding packer_output
  output_is = ap (λ k. output_of k (packer_block input)) number_is

  pub errors_is : packer_errors input ≡ errors_of r.number
  unfolding packer_errors
  errors_is = ap errors_of number_is

  pub block_is : r.number ≡ 0 → packer_output input ≡ take r.length out'
  unfolding packer_output packed
  block_is z = done-output (number_is ∙ z) r.length (packer_block input) out out' (ap (λ (x : Packed). x.length) a.answer) a.out_left
