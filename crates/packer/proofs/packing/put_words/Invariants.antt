use Rattle.std.proofs.Common.{◌≡◌, ◌+◌, ◌/◌, length}
use Rattle.std.proofs.lemmas.List.Edits.{sets}
use Rattle.packer.specs.Program.{first_words}
use Rattle.packer.proofs.packing.put_words.Given as goal

abbrev pub invariant-loop-i : goal.invariant-loop-i
invariant-loop-i l = (l.i-iterator.iter.size ≡ 8) × (length l.into ≡ length l.initial.into)
    × (l.i-iterator.count + length l.i-iterator.iter.rest.now / 8 ≡ length l.input / 8)
    × (sets l.into l.i-iterator.count (first_words (length l.i-iterator.iter.rest.now / 8) l.i-iterator.iter.rest.now) ≡ sets l.initial.into 0 (first_words (length l.input / 8) l.input))
