-- Finding a slot in a file that was opened or refused.
use mathlib.Core.Path.{◌≡◌, sym, ap, ◌∙◌}
use mathlib.Core.List.{List, []}
use Prim.Native.Nat.{ℕ, ◌-◌, ◌<◌, ◌+◌, ◌*◌, ◌≤◌}
use native.Mathlib.Omega.{arith}
use lib.ListN.{length, take, drop, get_or, length-drop}
use lib.Seq.{length-take-le}
use borrow.Author.Tests.{le-ltb, lt-ltb}
use Rattle.std.proofs.Common.{Option, Some, None}
use Rattle.std.specs.List.{position}
use Rattle.words.specs.Bytes.{field}
use Rattle.answers.proofs.Checks.{fails_here, fails_later, last_decides, afterwards-old, unless_fails, unless-passes, afterwards-new}
use Rattle.exam_rules.specs.File.{Entry, block_of, entry}
use Rattle.exam_rules.specs.Reading.{file_in, index_of, entry_of, entry_at, directory_at}
use Rattle.exam_rules.specs.Numbers.{slot_number, find_number, block_in}
use Rattle.exam_rules.specs.Calls.{opened, Finds, located, Done, Refused}
use Rattle.exam_rules.specs.Inside.{entries_listed, Standing}
use Rattle.exam_rules.specs.declared.Trailer.{Trailer}
use Rattle.exam_rules.proofs.Directory.{block_within}
use Rattle.exam_rules.proofs.Opens.{refused-tells, done-tells, trails-ends, body-long}
use Rattle.exam_rules.proofs.Parts.{entries_are, many_is, start_is, rules_are, part_of_first}
use Rattle.exam_rules.proofs.Entries.{entry_in_first}
use Rattle.exam_rules.proofs.Listed.{has, listed-part, listed-there, position-there, position-missing}
use Rattle.exam_opening.specs.Inside.{FoundPart}
use Rattle.exam_opening.specs.declared.Part.{Part}

-- ---- the part of a slot in a file that is open

module _ (f : List ℕ) (tr : Trailer) (st : Standing f tr) where
  pub directory_ends : tr.start + 12 * tr.entries + 32 ≡ length f
  directory_ends = omega (arith, trails-ends f (rules_are f tr st), start_is f tr st, many_is f tr st)

  -- the bytes between the directory's place and the trailer
  abbrev pub directory : List ℕ
  directory = take (length f - 32 - tr.start) (drop tr.start f)

  pub lists : entries_listed directory ≡ (file_in f).entries
  lists = listed-part f tr.start tr.entries _ (omega (arith, directory_ends)) (omega (arith, directory_ends)) ∙ entries_are f tr st

  module _ (slot : ℕ) (r : Option ℕ) (e : r ≡ position (has slot) (entries_listed directory)) where
    pub part_missing : r ≡ None → 10 ≡ slot_number (file_in f) slot
    unfolding slot_number
    part_missing q = unless_fails _ _ (le-ltb _ _ (position-missing slot (file_in f).entries (rw lists at (sym e ∙ q))))

    module _ (i : ℕ) (q : r ≡ Some i) where
      index_is : (i ≡ index_of slot (file_in f).entries) × (i < length (file_in f).entries)
      index_is = position-there slot (file_in f).entries i (rw lists at (sym e ∙ q))

      -- the bytes from its entry on
      abbrev its : List ℕ
      its = take (length directory - 12 * i) (drop (12 * i) directory)

      its-entry : (d : Entry) → (get_or (file_in f).entries i d ≡ entry_at its 0) × (12 * i + 12 ≤ length directory)
      its-entry d = let h = rw lists at (listed-there directory i d (rw lists index_is.1)) in (h.0 ∙ sym (entry_in_first (drop (12 * i) directory) 0 (length directory - 12 * i) (omega arith)), h.1)

      -- the twelve bytes of its entry are in the directory
      pub its-room : 12 * i + 12 ≤ length directory
      its-room = (its-entry (entry slot 0 0)).1

      pub its-long : 12 ≤ length its
      its-long = omega (arith, its-room, length-take-le (length directory - 12 * i) (drop (12 * i) directory) (simp length-drop (omega arith)))

      pub entry-is : entry_of slot (file_in f) ≡ entry_at its 0
      unfolding entry_of
      entry-is = rw (← index_is.0) (its-entry (entry slot 0 0)).0

      module _ (offset size : ℕ) (o : offset ≡ field 4 4 its) (s : size ≡ field 4 8 its) where
        pub part-ends : offset + size ≤ directory_at f
        unfolding entry_at
        part-ends =
            let w = block_within (file_in f) i (entry slot 0 0) st.directory index_is.1 in
            omega (arith, rw (its-entry (entry slot 0 0)).0 at w, body-long f)

        pub part-found : FoundPart f slot (record { index = i; start = offset; end = offset + size })
        unfolding entry_at block_of file_in slot_number
        part-found =
            let k : offset + size - offset ≡ size = omega arith in
            let w = part-ends in
            record {
              there = sym (unless-passes _ _ (lt-ltb _ _ (rw index_is.0 at index_is.1)));
              index = index_is.0;
              offset = o ∙ sym (ap (λ (x : Entry). x.offset) entry-is);
              size = k ∙ s ∙ sym (ap (λ (x : Entry). x.size) entry-is);
              order = omega arith;
              within = omega (arith, trails-ends f (rules_are f tr st));
              bytes = rw (k, entry-is, ← o, ← s) (sym (part_of_first size offset (directory_at f) f w));
            }

-- ---- the calls

module _ (b : List ℕ) (l exam slot : ℕ) where
  -- the number of finding: of the opening where it is refused, and then of the slot
  pub not-opened : (k : ℕ) → Refused k ≡ opened b l exam → k ≡ find_number b l exam slot
  unfolding find_number
  not-opened k e = let t = refused-tells b l exam k (sym e) in fails_here _ _ _ t.0 t.1

  pub once-opened : (tr : Trailer) (k : ℕ) → Done tr ≡ opened b l exam → k ≡ slot_number (file_in (take l b)) slot → k ≡ find_number b l exam slot
  unfolding find_number
  once-opened tr k e q = q ∙ fails_later _ _ _ (done-tells b l exam tr (sym e)).0 (last_decides _)

  module _ (k : ℕ) (e : k ≡ find_number b l exam slot) (h : k ≡ 0 → ⊥) where
    pub find_refused : Finds b l exam slot [] k
    find_refused = record { number_left = e; answer = sym (afterwards-old _ _ _ (λ z. h (e ∙ z))) }

    pub locate_refused : record { number = k; offset = 0; size = 0 } ≡ located b l exam slot
    unfolding located
    locate_refused =
        let entry = entry_of slot (file_in (take l b)) in
        cc (afterwards-old (find_number b l exam slot) entry.offset 0 (λ z. h (e ∙ z)), afterwards-old (find_number b l exam slot) entry.size 0 (λ z. h (e ∙ z)))

  module _ (tr : Trailer) (p : Part) (d : Done tr ≡ opened b l exam) (w : FoundPart (take l b) slot p) where
    found_number : 0 ≡ find_number b l exam slot
    found_number = once-opened tr 0 d w.there

    pub find_done : Finds b l exam slot (take (p.end - p.start) (drop p.start (take l b))) 0
    unfolding block_in
    find_done = record { number_left = found_number; answer = w.bytes ∙ sym (afterwards-new _ _ _ (sym found_number)) }

    pub locate_done : record { number = 0; offset = p.start; size = p.end - p.start } ≡ located b l exam slot
    unfolding located
    locate_done =
        let entry = entry_of slot (file_in (take l b)) in
        cc (found_number, w.offset, w.size, afterwards-new (find_number b l exam slot) entry.offset 0 (sym found_number), afterwards-new (find_number b l exam slot) entry.size 0 (sym found_number))
