use Rattle.exam_writing.proofs.Writes.{put_entry}
use Rattle.exam_writing.proofs.put_entry.Goals as goal

pub returns : goal.returns
returns c =
    put_entry c.args.out.now _ _ _ c.args.at c.args.slot c.args.offset c.args.size
    c.put_bytes.ensures c.put_bytes-2.ensures c.put_bytes-3.ensures
