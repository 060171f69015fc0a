-- What the inner functions require. No promise is stated here.
use Rattle.std.specs.Prelude.{◌≡◌, ℕ, ◌^◌, ◌%◌, ◌/◌, ◌≤◌, List, length}
use Rattle.block_rules.specs.Block.{worst}

-- whole words, and room for them
pub record WholeWords (input words : List ℕ) : Type 0 where
  pub whole : length input % 8 ≡ 0
  pub room : length input / 8 ≤ length words

-- the tables and the output that the program lends: t is 10, and there is room for the worst block of 4,096 words
pub record Lent (fcm dfcm out : List ℕ) : Type 0 where
  pub fcm_long : length fcm ≡ 2 ^ 10
  pub dfcm_long : length dfcm ≡ 2 ^ 10
  pub out_long : length out ≡ worst 4096
