use native.Mathlib.Omega.{arith}
use Rattle.exam_opening.proofs.Finding.{directory_ends}
use Rattle.listing.proofs.Answers.{trailer_t, directory_stands, line-room, heading-room, lines-room, listing_put}
use Rattle.listing.proofs.text.Text.put_listing.Goals as goal

pub overflow_sub-end : goal.overflow_sub-end
overflow_sub-end c = omega (arith, directory_ends _ _ c.requires.stands)

pub get_bytes-exam-requires : goal.get_bytes-exam-requires
get_bytes-exam-requires c = (omega (arith, directory_ends _ _ c.requires.stands), omega arith)

pub put_exam_line-requires : goal.put_exam_line-requires
put_exam_line-requires c = (line-room _ _ _ c.requires _ c.get_bytes-exam.ensures, trailer_t _ _ c.requires.stands)

pub put-requires : goal.put-requires
put-requires c = heading-room _ _ _ c.requires _ c.get_bytes-exam.ensures _ c.put_exam_line.ensures

pub slice_bounds-put_slot_lines-count : goal.slice_bounds-put_slot_lines-count
slice_bounds-put_slot_lines-count c = omega (arith, directory_ends _ _ c.requires.stands)

pub slice_bounds-put_slot_lines-start : goal.slice_bounds-put_slot_lines-start
slice_bounds-put_slot_lines-start c = omega (arith, directory_ends _ _ c.requires.stands)

pub put_slot_lines-requires : goal.put_slot_lines-requires
put_slot_lines-requires c = (directory_stands _ _ c.requires.stands, lines-room _ _ _ c.requires _ c.get_bytes-exam.ensures _ c.put_exam_line.ensures _ c.put.ensures)

pub returns : goal.returns
returns c = listing_put _ _ _ c.requires _ c.get_bytes-exam.ensures _ c.put_exam_line.ensures _ c.put.ensures _ c.put_slot_lines.ensures
