-- What the inner functions require and ensure. No promise of a call is stated here.
use Rattle.std.specs.Prelude.{◌≡◌, ℕ, ◌-◌, ◌≤◌, List, length, take, drop, Result, Ok, Err}
use Rattle.answers.specs.Refusals.{refusal_number}
use Rattle.answers.specs.declared.Refusal.{Refusal}
use Rattle.exam_rules.specs.File.{block_of}
use Rattle.exam_rules.specs.Reading.{file_in, index_of, entry_of}
use Rattle.exam_rules.specs.Numbers.{slot_number}
use Rattle.exam_opening.specs.declared.Part.{Part}

-- where the block of a slot that is found stands in a file that is open, and its entry among the entries
pub record FoundPart (f : List ℕ) (slot : ℕ) (p : Part) : Type 0 where
  pub there : 0 ≡ slot_number (file_in f) slot
  pub index : p.index ≡ index_of slot (file_in f).entries
  pub offset : p.start ≡ (entry_of slot (file_in f)).offset
  pub size : p.end - p.start ≡ (entry_of slot (file_in f)).size
  pub order : p.start ≤ p.end
  pub within : p.end ≤ length f
  pub bytes : take (p.end - p.start) (drop p.start f) ≡ block_of (file_in f) (entry_of slot (file_in f))

-- the part of a slot in a file that is open, or why it is not found
abbrev pub PartOf : List ℕ → ℕ → Result Part Refusal → Type 0
PartOf f slot (Ok p) = FoundPart f slot p
PartOf f slot (Err r) = refusal_number r ≡ slot_number (file_in f) slot
