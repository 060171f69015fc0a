use mathlib.Core.Path.{refl}
use native.Mathlib.Omega.{arith}
use Rattle.answers.proofs.Told.{refuses, handed_on}
use Rattle.exam_opening.proofs.Finding.{directory_ends}
use Rattle.listing.proofs.Answers.{number-long, number_short, number-refused, opened-stands, trailer_few, directory_stands, number-blocks, number_cramped, number-fine}
use Rattle.listing.proofs.checking.check_list.Goals as goal

pub returns-then-length-gt65536-clause-number : goal.returns-then-length-gt65536-clause-number
returns-then-length-gt65536-clause-number c = number-long _ _ c.if-length-gt65536.true

pub returns-then-length-lt32-clause-number : goal.returns-then-length-lt32-clause-number
returns-then-length-lt32-clause-number c = number_short _ _ c.if-length-gt65536.false c.if-length-lt32.true

pub returns-in_err-trailer-clause-number : goal.returns-in_err-trailer-clause-number
returns-in_err-trailer-clause-number c = rw (handed_on c.from_residual.ensures.1) (number-refused _ _ c.if-length-gt65536.false _ c.get_bytes-exam.ensures _ c.in_err-trailer.ensures)

pub slice_bounds-check_blocks-count : goal.slice_bounds-check_blocks-count
slice_bounds-check_blocks-count c = omega (arith, directory_ends _ _ (opened-stands _ _ c.get_bytes-exam.ensures _ c.in_ok-trailer.ensures))

pub slice_bounds-check_blocks-start : goal.slice_bounds-check_blocks-start
slice_bounds-check_blocks-start c = omega (arith, directory_ends _ _ (opened-stands _ _ c.get_bytes-exam.ensures _ c.in_ok-trailer.ensures))

pub check_blocks-requires : goal.check_blocks-requires
check_blocks-requires c = directory_stands _ _ (opened-stands _ _ c.get_bytes-exam.ensures _ c.in_ok-trailer.ensures)

pub returns-in_err-check_blocks-clause-number : goal.returns-in_err-check_blocks-clause-number
returns-in_err-check_blocks-clause-number c =
    rw (handed_on c.from_residual-in_err-check_blocks.ensures.1)
    (number-blocks _ _ c.if-length-gt65536.false _ c.get_bytes-exam.ensures _ c.in_ok-trailer.ensures _ c.in_err-check_blocks.ensures (refuses _))

pub overflow_mul-trailer : goal.overflow_mul-trailer
overflow_mul-trailer c = omega (arith, trailer_few _ _ (opened-stands _ _ c.get_bytes-exam.ensures _ c.in_ok-trailer.ensures))

pub overflow_add-trailer : goal.overflow_add-trailer
overflow_add-trailer c = omega (arith, trailer_few _ _ (opened-stands _ _ c.get_bytes-exam.ensures _ c.in_ok-trailer.ensures))

pub returns-then-room-trailer-clause-number : goal.returns-then-room-trailer-clause-number
returns-then-room-trailer-clause-number c = number_cramped _ _ c.if-length-gt65536.false _ c.get_bytes-exam.ensures _ c.in_ok-trailer.ensures _ c.in_ok-check_blocks.ensures refl c.if-room-trailer.true

pub returns-clause-number : goal.returns-clause-number
returns-clause-number c = number-fine _ _ c.if-length-gt65536.false _ c.get_bytes-exam.ensures _ c.in_ok-trailer.ensures _ c.in_ok-check_blocks.ensures refl c.if-room-trailer.false

pub returns-clause-opened : goal.returns-clause-opened
returns-clause-opened c = opened-stands _ _ c.get_bytes-exam.ensures _ c.in_ok-trailer.ensures
