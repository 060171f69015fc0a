use Rattle.exam_writing.proofs.Writes.{adds}
use Rattle.exam_writing.proofs.add_block.Goals as goal

pub returns : goal.returns
returns c = adds _ _ _ _ _ _ c.args.trailer _ _ _ c.requires c.move_bytes.ensures c.copy_in.ensures c.put_entry.ensures c.end_file.ensures
