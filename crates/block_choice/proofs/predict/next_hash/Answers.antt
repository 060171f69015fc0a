use Rattle.words.specs.Words.{shifted_right}
use Rattle.block_choice.proofs.Learning.{hashed}
use Rattle.block_choice.proofs.predict.next_hash.Goals as goal

pub returns : goal.returns
unfolding shifted_right
returns g c = hashed _ _ _ _ c.requires.1 c.requires.0
