use Rattle.exam_rules.proofs.Opens.{trailer-is}
use Rattle.exam_opening.proofs.trailer.Goals as goal

pub returns : goal.returns
returns c = trailer-is c.args.file.now _ _ _ _ c.get_bytes.ensures c.get_bytes-2.ensures c.get_bytes-3.ensures c.get_bytes-4.ensures
