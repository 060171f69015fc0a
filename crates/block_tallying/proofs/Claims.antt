-- What is promised of the tally of a block, each promise with one line of plain words.
use mathlib.Core.Path.{◌≡◌}
use mathlib.Core.Bool.{not}
use mathlib.Core.List.{List, map}
use Prim.Native.Nat.{ℕ, ◌+◌, ◌/◌}
use lib.ListN.{length}
use Rattle.block_rules.specs.Block.{count, counted_codes}
use Rattle.block_rules.specs.Forms.{named}
use Rattle.block_rules.specs.Numbers.{form_number}
use Rattle.block_rules.proofs.Accept.{form_tells}
use Rattle.block_tallying.specs.Tally.{tally, dfcm_among}
use Rattle.block_tallying.proofs.Tallies.{counts_sum, dfcm-named, fcm-named}

-- Of a block that can be read, the two word counts of the tally sum to the count.
pub tally_counts_all : (b : List ℕ) → form_number b ≡ 0 → (tally b).fcm_words + (tally b).dfcm_words ≡ count b
unfolding tally
tally_counts_all b e = counts_sum b e

-- Its length is 8, plus n/2 rounded up for the codes, plus the residual bytes of the tally: those of the counted codes, without the filler.
pub tally_adds_up : (b : List ℕ) → form_number b ≡ 0 → length b ≡ 8 + (count b + 1) / 2 + (tally b).residual_bytes
unfolding tally
tally_adds_up b e = (form_tells b e).adds

-- The tally counts the predictors that the block names.
pub tally_counts_names : (b : List ℕ) → ((tally b).dfcm_words ≡ dfcm_among (named b)) × ((tally b).fcm_words ≡ dfcm_among (map not (named b)))
unfolding tally named
tally_counts_names b = (dfcm-named (counted_codes b), fcm-named (counted_codes b))
