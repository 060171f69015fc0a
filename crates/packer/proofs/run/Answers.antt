-- What was read decides what was written: it is all of the input, or more than the packer takes.
use Rattle.std.proofs.Common.{arith, length-take-le}
use Rattle.std.specs.Io.KnownBytes.{Appends}
use Rattle.streams.proofs.Reading.{of_read}
use Rattle.streams.proofs.Written.{on_ok_kept}
use Rattle.packer.proofs.Reading.{output-alike, errors-alike}
use Rattle.packer.proofs.run.Goals as goal

pub returns-clause-output : goal.returns-clause-output
returns-clause-output g c =
    let read = c.in_ok-count.ensures in
    on_ok_kept c.answer_input.result c.map_err.result c.map_err.ensures.variant
    (of_read 32769 _ output-alike _ _ _ (Appends _ _) read.bytes (λ h. read.end (omega (arith, h, length-take-le _ _ read.within, c.read_input.auto.buffer))))
    c.answer_input.ensures.output

pub returns-clause-errors : goal.returns-clause-errors
returns-clause-errors g c =
    let read = c.in_ok-count.ensures in
    on_ok_kept c.answer_input.result c.map_err.result c.map_err.ensures.variant
    (of_read 32769 _ errors-alike _ _ _ (Appends _ _) read.bytes (λ h. read.end (omega (arith, h, length-take-le _ _ read.within, c.read_input.auto.buffer))))
    c.answer_input.ensures.errors
