use Rattle.words.proofs.Stores.{put_before}
use Rattle.exam_rewriting.proofs.exchange.Goals as goal

pub returns : goal.returns
returns c = put_before c.args.file.now _ _ c.args.block.now _ c.args.start c.move_bytes.ensures c.copy_in.ensures
