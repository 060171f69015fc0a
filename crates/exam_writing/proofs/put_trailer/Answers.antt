use Rattle.exam_writing.proofs.Writes.{put_trailer}
use Rattle.exam_writing.proofs.put_trailer.Goals as goal

pub returns : goal.returns
returns c =
    put_trailer c.args.out.now _ _ _ _ _ _ _ c.args.at _ _ c.args.exam _ c.args.length
    c.copy_in.ensures c.put_bytes.ensures c.put_bytes-2.ensures c.put_bytes-3.ensures
    c.put_bytes-4.ensures c.put_bytes-5.ensures c.put_bytes-6.ensures
