use Rattle.block_rules.proofs.Accept.{whole, counted}
use Rattle.block_unpacking.proofs.GetLoop.{getting_of, unpacks-all}
use Rattle.block_unpacking.proofs.unpack_all.Goals as goal

pub count-n-requires : goal.count-n-requires
count-n-requires c = (whole _ c.requires.whole).long

pub invariant_of-counted : goal.invariant_of-counted
invariant_of-counted c = record { counted = counted _ _ c.requires.whole c.count-n.ensures }

pub get_words-requires : goal.get_words-requires
get_words-requires c = getting_of _ _ c.args.fcm.now c.args.dfcm.now _ _ _ c.requires c.count-n.ensures c.clear.ensures c.clear-2.ensures

pub returns : goal.returns
returns c = unpacks-all _ _ c.args.fcm.now c.args.dfcm.now _ c.clear.new.table _ _ _ c.requires c.count-n.ensures c.clear.auto.table c.get_words.ensures
