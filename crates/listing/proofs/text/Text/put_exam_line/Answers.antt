use Rattle.block_rules.proofs.Tables.{shifted_one}
use Rattle.listing.proofs.Lines.{first_fits, second_fits, third_fits, fourth_fits, exam_fits, exam_line_put}
use Rattle.listing.proofs.text.Text.put_exam_line.Goals as goal

pub put_number-requires : goal.put_number-requires
put_number-requires c = first_fits (exam_fits _ _ _ c.requires.0)

pub put_number-requires-2 : goal.put_number-requires-2
put_number-requires-2 c = rw (shifted_one c.args.t c.requires.1) (second_fits (exam_fits _ _ _ c.requires.0) c.put_number.ensures)

pub put_number-requires-3 : goal.put_number-requires-3
put_number-requires-3 c = third_fits (exam_fits _ _ _ c.requires.0) c.put_number.ensures (rw (shifted_one c.args.t c.requires.1) at c.put_number-2.ensures)

pub put-requires : goal.put-requires
put-requires c = fourth_fits (exam_fits _ _ _ c.requires.0) c.put_number.ensures (rw (shifted_one c.args.t c.requires.1) at c.put_number-2.ensures) c.put_number-3.ensures

pub returns : goal.returns
returns c = exam_line_put _ c.args.t _ c.put_number.ensures (rw (shifted_one c.args.t c.requires.1) at c.put_number-2.ensures) c.put_number-3.ensures c.put.ensures
