-- The entries of an open file one after another: their blocks, the checks of these, and the lines.
use mathlib.Core.Path.{◌≡◌, refl, sym, ap, ◌∙◌}
use mathlib.Core.List.{List, [], ◌∷◌, ◌++◌}
use mathlib.Core.Bool.{Bool}
use Prim.Native.Nat.{ℕ, zero, suc, ◌+◌, ◌-◌, ◌≤◌, ◌<◌}
use native.Mathlib.Omega.{arith}
use lib.ListN.{length, get_or, take, drop, length-drop}
use lib.Seq.{length-take-le}
use Rattle.std.proofs.Common.{Some, None, Bor}
use Rattle.std.specs.declared.slice.ChunksExact.{ChunksExact}
use Rattle.std.specs.Slice.Iter.{chunks_exact_rest, chunks_exact_steps}
use Rattle.words.specs.Bytes.{field}
use Rattle.answers.proofs.Checks.{fails_here, fails_later, none_fails, last_decides}
use Rattle.block_rules.specs.Block.{count}
use Rattle.block_rules.specs.Numbers.{block_number}
use Rattle.exam_rules.specs.File.{Entry, entry, File, block_of}
use Rattle.exam_rules.specs.Reading.{directory_at, entry_at, file_in}
use Rattle.exam_rules.specs.Numbers.{entries_number, directory_number}
use Rattle.exam_rules.specs.Inside.{entries_listed}
use Rattle.exam_rules.proofs.Directory.{heads, Forward, ends-before, joins_forward}
use Rattle.exam_rules.proofs.Listed.{Turning, left, left-none, left-next, turns}
use Rattle.exam_rules.proofs.Opens.{body-long}
use Rattle.exam_rules.proofs.Parts.{part_of_first}
use Rattle.listing.specs.Text.{slot_line, slot_lines}
use Rattle.listing.specs.Numbers.{blocks_number}
use Rattle.listing.specs.Inside.{HasRoom, Extends, Points, Directory}
use Rattle.listing.specs.declared.text.Text.{Text}
use Rattle.listing.proofs.Lines.{room_first, room_on, extends_on}

-- ---- entries and their blocks

-- entries whose blocks have at least 8 bytes and end before a place
pub data Blocks (to : ℕ) : List Entry → Type 0 where
  none : Blocks to []
  more : {e : Entry} {es : List Entry} → 8 ≤ e.size → e.offset + e.size ≤ to → Blocks to es → Blocks to (e ∷ es)

rule-blocks : {test : ℕ → ℕ → Bool} → Forward test → (lowest from : ℕ) (es : List Entry) (to : ℕ) → entries_number test lowest from es to ≡ 0 → Blocks to es
rule-blocks p lowest from [] to z = none
rule-blocks {test} p lowest from (e ∷ es) to z =
    let h = heads test lowest from e es to z in
    more h.size (ends-before p (e.slot + 1) (e.offset + e.size) es to h.rest) (rule-blocks p (e.slot + 1) (e.offset + e.size) es to h.rest)

pub directory-blocks : (f : List ℕ) → directory_number (file_in f) ≡ 0 → Blocks (directory_at f) (file_in f).entries
unfolding directory_number
directory-blocks f z = rule-blocks joins_forward 0 0 _ _ (rw (body-long f) at z)

first-long : {to : ℕ} {e : Entry} {es : List Entry} → Blocks to (e ∷ es) → 8 ≤ e.size
first-long (more l w b) = l

pub first-within : {to : ℕ} {e : Entry} {es : List Entry} → Blocks to (e ∷ es) → e.offset + e.size ≤ to
first-within (more l w b) = w

pub blocks-after : {to : ℕ} {e : Entry} {es : List Entry} → Blocks to (e ∷ es) → Blocks to es
blocks-after (more l w b) = b

-- the block that an entry tells of is a part of the file
module _ (f bytes : List ℕ) (offset size : ℕ) (p : Points f bytes) (o : offset ≡ field 4 4 bytes) (s : size ≡ field 4 8 bytes) where
  pub part-is : take (offset + size - offset) (drop offset f) ≡ block_of (file_in f) (entry_at bytes 0)
  unfolding entry_at block_of file_in
  part-is =
      let k : offset + size - offset ≡ size = omega arith in
      rw (k, ← o, ← s) (sym (part_of_first size offset (directory_at f) f (rw (← o, ← s) at p.within)))

  pub part-ends : offset + size ≤ length f
  unfolding entry_at
  part-ends = omega (arith, p.within)

-- such a block has the length that the entry tells
block_size : (f : List ℕ) (e : Entry) → e.offset + e.size ≤ directory_at f → length (block_of (file_in f) e) ≡ e.size
unfolding block_of
block_size f e h = length-take-le e.size (drop e.offset (file_in f).body) (omega (arith, length-drop e.offset (file_in f).body, body-long f))

-- ---- a walk over the directory of an open file, an entry a turn

pub record Walk (f : List ℕ) (walk : ChunksExact ℕ) : Type 0 where
  pub turning : Turning walk
  pub blocks : Blocks (directory_at f) (left walk)

module _ (f : List ℕ) (walk after : ChunksExact ℕ) (g : Walk f walk) (its : Bor (List ℕ)) (st : chunks_exact_steps walk (Some its) after) where
  blocks_here : Blocks (directory_at f) (entry_at its.now 0 ∷ left after)
  blocks_here = rw (left-next walk after g.turning its st) at g.blocks

  pub points : Points f its.now
  points = record { long = st.1.1 ∙ g.turning.size; within = first-within blocks_here }

  size_here : length (block_of (file_in f) (entry_at its.now 0)) ≡ (entry_at its.now 0).size
  size_here = block_size f (entry_at its.now 0) (first-within blocks_here)

  pub block-long : 8 ≤ length (block_of (file_in f) (entry_at its.now 0))
  block-long = rw size_here (first-long blocks_here)

  walk_on : Walk f after
  walk_on = record { turning = turns walk after g.turning its st; blocks = blocks-after blocks_here }

-- ---- checking the blocks

-- what is left to check is what there was to check
pub record Checking (f : List ℕ) (walk : ChunksExact ℕ) : Type 0 where
  pub entries : Walk f walk
  pub same : blocks_number (file_in f) (left walk) ≡ blocks_number (file_in f) (file_in f).entries

pub check_starts : (f directory : List ℕ) (walk : ChunksExact ℕ) → Directory f directory → Turning walk → chunks_exact_rest walk ≡ directory → Checking f walk
check_starts f directory walk d t e =
    let all : left walk ≡ (file_in f).entries = ap entries_listed e ∙ d.lists in
    record { entries = record { turning = t; blocks = rw all (directory-blocks f d.rule) }; same = ap (blocks_number (file_in f)) all }

module _ (f : List ℕ) (walk after : ChunksExact ℕ) (g : Checking f walk) (its : Bor (List ℕ)) (st : chunks_exact_steps walk (Some its) after)
    (b : List ℕ) (k : ℕ) (e : b ≡ block_of (file_in f) (entry_at its.now 0)) (q : k ≡ block_number b) where
  number_is : k ≡ block_number (block_of (file_in f) (entry_at its.now 0))
  number_is = q ∙ ap block_number e

  pub check_stops : (k ≡ 0 → ⊥) → k ≡ blocks_number (file_in f) (file_in f).entries
  check_stops z = fails_here _ _ _ number_is z ∙ (rw (left-next walk after g.entries.turning its st) at g.same)

  pub check_on : k ≡ 0 → Checking f after
  check_on z =
      record {
        entries = walk_on f walk after g.entries its st;
        same = fails_later _ _ _ (sym number_is ∙ z) (last_decides _) ∙ (rw (left-next walk after g.entries.turning its st) at g.same);
      }

pub check_ends : (f : List ℕ) (walk after : ChunksExact ℕ) → Checking f walk → chunks_exact_steps walk None after → 0 ≡ blocks_number (file_in f) (file_in f).entries
check_ends f walk after g st = rw (left-none walk after g.entries.turning st) at g.same

-- no block fails just where none of them does
pub each_block : (f : File) (es : List Entry) → blocks_number f es ≡ 0 → (i : ℕ) → i < length es → block_number (block_of f (get_or es i (entry 0 0 0))) ≡ 0
each_block f [] z i h = absurd (omega arith)
each_block f (e ∷ es) z zero h = (none_fails _ _ z).0
each_block f (e ∷ es) z (suc i) h = each_block f es (none_fails _ _ (none_fails _ _ z).1).0 i (omega arith)

pub all_blocks : (f : File) (es : List Entry) → ((i : ℕ) → i < length es → block_number (block_of f (get_or es i (entry 0 0 0))) ≡ 0) → blocks_number f es ≡ 0
all_blocks f [] g = refl
all_blocks f (e ∷ es) g = sym (fails_later _ _ _ (g 0 (omega arith)) (sym (all_blocks f es (λ i h. g (suc i) (omega arith))) ∙ last_decides _))

-- ---- putting the lines

-- who puts the lines that are left has put all lines, and there is room for them
pub record Writing (f : List ℕ) (text₀ text : Text) (walk : ChunksExact ℕ) : Type 0 where
  pub entries : Walk f walk
  pub room : HasRoom text (slot_lines (file_in f) (left walk))
  pub rest : (t : Text) → Extends text (slot_lines (file_in f) (left walk)) t → Extends text₀ (slot_lines (file_in f) (file_in f).entries) t

pub write_starts : (f directory : List ℕ) (text : Text) (walk : ChunksExact ℕ) → Directory f directory → HasRoom text (slot_lines (file_in f) (file_in f).entries)
    → Turning walk → chunks_exact_rest walk ≡ directory → Writing f text text walk
write_starts f directory text walk d r t e =
    let all : left walk ≡ (file_in f).entries = ap entries_listed e ∙ d.lists in
    record { entries = record { turning = t; blocks = rw all (directory-blocks f d.rule) }; room = rw all r; rest = λ x p. rw all at p }

module _ (f : List ℕ) (text₀ text : Text) (walk after : ChunksExact ℕ) (g : Writing f text₀ text walk) (its : Bor (List ℕ)) (st : chunks_exact_steps walk (Some its) after)
    (slot words : ℕ) (b : List ℕ) (s : slot ≡ field 4 0 its.now) (e : b ≡ block_of (file_in f) (entry_at its.now 0)) (w : words ≡ count b) where
  slot_is : (entry_at its.now 0).slot ≡ slot
  unfolding entry_at
  slot_is = sym s

  line_is : slot_line (entry_at its.now 0).slot (count (block_of (file_in f) (entry_at its.now 0))) (entry_at its.now 0).size ≡ slot_line slot words (length b)
  line_is =
      let size_is : (entry_at its.now 0).size ≡ length b = sym (ap (λ (l : List ℕ). length l) e ∙ size_here f walk after g.entries its st) in
      let words_are : count (block_of (file_in f) (entry_at its.now 0)) ≡ words = sym (w ∙ ap (λ (l : List ℕ). count l) e) in
      cc (slot_is)

  lines_are : slot_lines (file_in f) (left walk) ≡ slot_line slot words (length b) ++ slot_lines (file_in f) (left after)
  lines_are = rw (left-next walk after g.entries.turning its st, line_is)

  room_here : HasRoom text (slot_line slot words (length b) ++ slot_lines (file_in f) (left after))
  room_here = rw lines_are at g.room

  pub write_room : HasRoom text (slot_line slot words (length b))
  write_room = room_first _ _ room_here

  pub write_on : (text' : Text) → Extends text (slot_line slot words (length b)) text' → Writing f text₀ text' after
  write_on text' p =
      record {
        entries = walk_on f walk after g.entries its st;
        room = room_on _ _ room_here p;
        rest = λ t q. g.rest t (rw lines_are (extends_on _ _ p q));
      }

pub write_ends : (f : List ℕ) (text₀ text : Text) (walk after : ChunksExact ℕ) → Writing f text₀ text walk → chunks_exact_steps walk None after
    → Extends text₀ (slot_lines (file_in f) (file_in f).entries) text
write_ends f text₀ text walk after g st =
    g.rest text (rw (left-none walk after g.entries.turning st) (record { same = refl; ends = omega arith; left = refl }))
