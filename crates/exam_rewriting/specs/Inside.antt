-- What the inner functions require and ensure. No promise of a call is stated here.
use Rattle.std.specs.Prelude.{◌≡◌, ℕ, ◌+◌, ◌-◌, ◌*◌, ◌≤◌, ◌<◌, List, ◌++◌, map, length, get_or, replicate, take}
use Rattle.answers.specs.Answers.{over}
use Rattle.exam_rules.specs.File.{entry, entry_bytes, directory_bytes, File, file_length, file_bytes, moved, replaced}
use Rattle.exam_rules.specs.Reading.{entry_at, entries_at, file_in}
use Rattle.exam_rules.specs.Numbers.{most_bytes}
use Rattle.exam_rules.specs.Calls.{opened, Done}
use Rattle.exam_rules.specs.Inside.{Entries}
use Rattle.exam_rules.specs.declared.Trailer.{Trailer}
use Rattle.exam_opening.specs.Inside.{FoundPart}
use Rattle.exam_opening.specs.declared.Part.{Part}

-- n entries at a place, behind a block that had `old` bytes and gets `new`
pub record Behind (f : List ℕ) (at n old new : ℕ) : Type 0 where
  pub stand : Entries f at n
  pub behind : (i : ℕ) → i < n → old ≤ (entry_at f (at + 12 * i)).offset
  pub small : new ≤ most_bytes

-- the bytes of n entries at a place, with the offsets moved
abbrev pub moved_bytes : List ℕ → ℕ → ℕ → ℕ → ℕ → List ℕ
moved_bytes f at n old new = directory_bytes (map (moved old new) (entries_at f at n))

-- the bytes of the entry at a place, with another size, and of the n entries behind it, with the offsets moved
abbrev pub resized_bytes : List ℕ → ℕ → ℕ → ℕ → ℕ → List ℕ
resized_bytes f place n old new = entry_bytes (entry (entry_at f place).slot (entry_at f place).offset new) ++ moved_bytes f (place + 12) n old new

-- a block of `old` bytes at a place, what stands behind it as far as `end`, and room for another block in its place
pub record Exchanging (b blk : List ℕ) (start old end : ℕ) : Type 0 where
  pub order : start + old ≤ end
  pub within : end ≤ length b
  pub room : end - old + length blk ≤ length b

-- a file that is open, a part of it that was found, and room for a block in the part's place
pub record Replacing (b blk : List ℕ) (l exam : ℕ) (tr : Trailer) (p : Part) : Type 0 where
  pub opens : opened b l exam ≡ Done tr
  pub slot : ℕ
  pub part : FoundPart (take l b) slot p
  pub room : l - (p.end - p.start) + length blk ≤ length b
  pub small : l - (p.end - p.start) + length blk ≤ most_bytes

-- the file of l bytes in a buffer with a block in the place of the one whose entry is the i-th
abbrev pub rewritten : List ℕ → List ℕ → ℕ → ℕ → File
rewritten b blk l i = replaced (file_in (take l b)) (get_or (file_in (take l b)).entries i (entry 0 0 0)) blk

-- the buffer holds that file, over 0s as far as the old one went, and its length is answered
pub record Rewrites (b blk : List ℕ) (l i : ℕ) (b' : List ℕ) (r : ℕ) : Type 0 where
  pub end : r ≡ file_length (rewritten b blk l i)
  pub bytes : b' ≡ over (file_bytes (rewritten b blk l i)) (over (replicate l 0) b)
