-- What a program says of a read or a write that failed.
use Rattle.std.specs.Prelude.{ℕ, List, codes}
use Rattle.streams.specs.declared.Failure.{Failure}
use Rattle.streams.specs.declared.Failure.TheVariants.{Unread, Unwritten}

-- the words that tell a failure
abbrev pub failure_text : Failure → List ℕ
failure_text Unread = codes "the input could not be read"
failure_text Unwritten = codes "the output could not be written"
