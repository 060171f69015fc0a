use Rattle.block_packing.proofs.Put.{put_head}
use Rattle.block_packing.proofs.put_head.Goals as goal

pub returns : goal.returns
returns c = put_head c.args.out.now _ _ c.args.count c.args.length c.put_bytes.ensures c.put_bytes-2.ensures
