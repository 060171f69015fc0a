use Rattle.exam_salvaging.proofs.Standing.{too_few, beyond-end, check_fails, check_passes, not_whole, is_whole}
use Rattle.exam_salvaging.proofs.standing_size.Goals as goal

pub returns-then-bytes-lt8 : goal.returns-then-bytes-lt8
returns-then-bytes-lt8 c = too_few c.args.bytes.now c.if-bytes-lt8.true

pub returns-then-bytes-size : goal.returns-then-bytes-size
returns-then-bytes-size c = beyond-end c.args.bytes.now _ c.get_bytes-size.ensures c.if-bytes-size.true

pub returns-then-is_err : goal.returns-then-is_err
returns-then-is_err c = not_whole c.args.bytes.now _ c.get_bytes-size.ensures (check_fails _ _ c.check.ensures c.if-is_err.ensures.value)

pub returns : goal.returns
returns c = is_whole c.args.bytes.now _ c.get_bytes-size.ensures c.if-bytes-size.false (check_passes _ _ c.check.ensures c.if-is_err.ensures.value)
