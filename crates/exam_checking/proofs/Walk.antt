-- The directory's rule, checked one entry a turn.
use mathlib.Core.Path.{◌≡◌, sym, ◌∙◌}
use mathlib.Core.List.{List, [], ◌∷◌}
use mathlib.Core.Bool.{Bool, true, false}
use Prim.Native.Nat.{ℕ, ◌+◌, ◌≤◌, ◌<◌}
use native.Mathlib.Omega.{arith}
use Rattle.std.proofs.Common.{Some, None, Bor}
use Rattle.std.specs.declared.slice.ChunksExact.{ChunksExact}
use Rattle.std.specs.Slice.Iter.{chunks_exact_steps}
use borrow.Author.Tests.{lt-leb, le-leb}
use Rattle.words.specs.Bytes.{field}
use Rattle.answers.proofs.Checks.{unless-passes, unless_fails, last_decides, passes, stops}
use Rattle.exam_rules.specs.File.{entry}
use Rattle.exam_rules.specs.Reading.{entry_at}
use Rattle.exam_rules.specs.Numbers.{entries_number}
use Rattle.exam_rules.specs.Inside.{entries_listed}
use Rattle.exam_rules.proofs.Listed.{Turning, left, left-none, left-next, turns}

-- what is left of a directory to check is what there was to check
pub record Walking (test : ℕ → ℕ → Bool) (directory : List ℕ) (to : ℕ) (walk : ChunksExact ℕ) (lowest from : ℕ) : Type 0 where
  pub turning : Turning walk
  pub same : entries_number test lowest from (left walk) to ≡ entries_number test 0 0 (entries_listed directory) to

module _ {test : ℕ → ℕ → Bool} (directory : List ℕ) (to : ℕ) (walk after : ChunksExact ℕ) (lowest from : ℕ) (g : Walking test directory to walk lowest from) where
  module _ (its : Bor (List ℕ)) (slot offset size : ℕ) (st : chunks_exact_steps walk (Some its) after)
      (s : slot ≡ field 4 0 its.now) (o : offset ≡ field 4 4 its.now) (l : size ≡ field 4 8 its.now) where
    walk_here : entries_number test lowest from (entry slot offset size ∷ left after) to ≡ entries_number test 0 0 (entries_listed directory) to
    unfolding entry_at
    walk_here = rw (s, o, l) (rw (left-next walk after g.turning its st) at g.same)

    pub slot_too_low : slot < lowest → 9 ≡ entries_number test 0 0 (entries_listed directory) to
    slot_too_low w = stops _ _ _ (lt-leb lowest slot w) (omega arith) ∙ walk_here

    pub offset_apart : lowest ≤ slot → test from offset ≡ false → 9 ≡ entries_number test 0 0 (entries_listed directory) to
    offset_apart v w = passes _ _ _ _ (le-leb lowest slot v) (stops _ _ _ w (omega arith)) ∙ walk_here

    pub block-too_short : lowest ≤ slot → test from offset ≡ true → size < 8 → 9 ≡ entries_number test 0 0 (entries_listed directory) to
    block-too_short v w x = passes _ _ _ _ (le-leb lowest slot v) (passes _ _ _ _ w (stops _ _ _ (lt-leb 8 size x) (omega arith))) ∙ walk_here

    pub walk_on : lowest ≤ slot → test from offset ≡ true → 8 ≤ size → Walking test directory to after (slot + 1) (offset + size)
    walk_on v w x =
        record {
          turning = turns walk after g.turning its st;
          same = passes _ _ _ _ (le-leb lowest slot v) (passes _ _ _ _ w (passes _ _ _ _ (le-leb 8 size x) (last_decides _))) ∙ walk_here;
        }

  module _ (st : chunks_exact_steps walk None after) where
    walk_ends : entries_number test lowest from [] to ≡ entries_number test 0 0 (entries_listed directory) to
    walk_ends = rw (left-none walk after g.turning st) at g.same

    pub walk-joins : test from to ≡ true → 0 ≡ entries_number test 0 0 (entries_listed directory) to
    walk-joins e = sym (unless-passes _ _ e) ∙ walk_ends

    pub walk_gap : test from to ≡ false → 9 ≡ entries_number test 0 0 (entries_listed directory) to
    walk_gap e = unless_fails _ _ e ∙ walk_ends
