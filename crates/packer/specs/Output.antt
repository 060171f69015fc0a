-- What the packer writes for its input.
use Rattle.std.specs.Prelude.{ℕ, List, length}
use Rattle.streams.specs.Refusal.{output_of, errors_of}
use Rattle.packer.specs.Program.{packer_number, packer_block}

-- what it writes to its output: the block, or nothing where it refuses
unfoldable pub packer_output : List ℕ → List ℕ
packer_output input = output_of (packer_number (length input)) (packer_block input)

-- what it writes to its errors: nothing, or the refusal
unfoldable pub packer_errors : List ℕ → List ℕ
packer_errors input = errors_of (packer_number (length input))
