use borrow.Author.Rules.{rules}
use native.Mathlib.Omega.{arith}
use Rattle.block_packing.proofs.PutLoop.{packs-all}
use Rattle.block_packing.proofs.pack_all.Goals as goal

pub returns : goal.returns
returns c =
    packs-all _ _ _ c.args.fcm.now _ _ _ _ _ _ _ _ c.requires.room (omega arith) c.new-predictors.ensures c.put_words-end.ensures (search rules) (search rules) c.put_head.ensures
