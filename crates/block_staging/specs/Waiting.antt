-- What a stage is seen as.
use Rattle.std.specs.Prelude.{ℕ, ◌+◌, List, length}
use Rattle.std.specs.Borrow.{GName}

-- the residual bytes that wait, how many more have room, and which buffer was lent
pub record Waiting : Type 0 where
  pub held : List ℕ
  pub room : ℕ
  pub buffer : GName

-- the bytes that wait and those that have room are the whole buffer's
abbrev pub whole : Waiting → ℕ
whole s = length s.held + s.room
