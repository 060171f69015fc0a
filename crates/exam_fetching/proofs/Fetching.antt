-- Fetching a slot's words from a file that was opened or refused.
use mathlib.Core.Path.{◌≡◌, refl, sym, ap, ◌∙◌}
use mathlib.Core.List.{List}
use Prim.Native.Nat.{ℕ, ◌-◌}
use native.Mathlib.Omega.{arith}
use lib.ListN.{length, take, drop}
use borrow.Author.Tests.{leb-true}
use Rattle.answers.proofs.Checks.{unless_holds, fails_here, none_fails}
use Rattle.block_rules.specs.Numbers.{t_of}
use Rattle.block_rules.specs.Inside.{Unpackable, UnpacksAll}
use Rattle.block_rules.specs.Calls.{Unpacked}
use Rattle.block_rules.proofs.Tables.{sized-power, t_of_power}
use Rattle.block_rules.proofs.Accept.{where_refused, where_done}
use Rattle.exam_rules.specs.Reading.{file_in}
use Rattle.exam_rules.specs.Numbers.{slot_number, block_in, file_tables_number, found_number, fetch_number}
use Rattle.exam_rules.specs.Calls.{opened, fetches_number, Fetches, Done, Refused}
use Rattle.exam_rules.specs.Inside.{Standing}
use Rattle.exam_rules.specs.declared.Trailer.{Trailer}
use Rattle.exam_rules.proofs.Parts.{tells-t, t-small}
use Rattle.exam_rules.proofs.Accept.{tables_tell}
use Rattle.exam_opening.specs.Inside.{FoundPart}
use Rattle.exam_opening.specs.declared.Part.{Part}
use Rattle.exam_opening.proofs.Finding.{not-opened, once-opened}
use Rattle.exam_fetching.specs.Inside.{opened_fetch_number, FetchesOpened}

-- ---- from a file that is open

module _ (f : List ℕ) (tr : Trailer) (st : Standing f tr) (slot : ℕ) (fcm dfcm words : List ℕ) where
  -- the number is that of looking for the slot, where it is not there
  pub not-there : (k : ℕ) → k ≡ slot_number (file_in f) slot → (k ≡ 0 → ⊥) → k ≡ opened_fetch_number f slot fcm dfcm words
  unfolding found_number
  not-there k e h = fails_here _ _ _ e h

  module _ (p : Part) (w : FoundPart f slot p) where
    abbrev block : List ℕ
    block = take (p.end - p.start) (drop p.start f)

    module _ (k : ℕ) (q : k ≡ found_number 0 block tr.t (length fcm) (length dfcm) (length words)) where
      -- and else that of the block
      pub its-block : k ≡ opened_fetch_number f slot fcm dfcm words
      its-block = q ∙ rw (w.bytes, ← (tells-t f tr st), w.there)

      module _ (z : k ≡ 0) where
        tables : file_tables_number tr.t (length fcm) (length dfcm) ≡ 0
        unfolding found_number
        tables = (none_fails _ _ (none_fails _ _ (sym q ∙ z)).1).0

        pub opened-unpackable : Unpackable block (length fcm) (length dfcm) (length words)
        unfolding found_number
        opened-unpackable =
            let y = none_fails _ _ (none_fails _ _ (none_fails _ _ (sym q ∙ z)).1).1 in
            let s = tables_tell _ _ _ tables in
            record { sized = sized-power tr.t _ _ (t-small f tr st) s.0 s.1; whole = y.0; room = leb-true _ _ (unless_holds _ _ (none_fails _ _ y.1).0 (omega arith)) }

        -- the tables have 2 ^ t words, and the block is the slot's
        pub opened-done : (n : ℕ) (fcm' dfcm' words' : List ℕ) → UnpacksAll (t_of (length fcm)) block words fcm' dfcm' words' n
            → FetchesOpened f slot fcm dfcm words (record { number = 0; count = n }) fcm' dfcm' words'
        opened-done n fcm' dfcm' words' u =
            let s = tables_tell _ _ _ tables in
            let t : t_of (length fcm) ≡ (file_in f).t = ap t_of s.0 ∙ t_of_power tr.t (t-small f tr st) ∙ sym (tells-t f tr st) in
            where_done _ _ n _ fcm dfcm words fcm' dfcm' words' (sym its-block ∙ z) (rw (t, w.bytes) at u)

-- ---- from a buffer

module _ (b : List ℕ) (l exam slot : ℕ) (fcm dfcm words : List ℕ) where
  pub fetch_refused : (k : ℕ) → Refused k ≡ opened b l exam → (k ≡ 0 → ⊥) → Fetches b l exam slot fcm dfcm words (record { number = k; count = 0 }) fcm dfcm words
  unfolding fetch_number found_number
  fetch_refused k e h = record { unpacks = where_refused _ _ k _ fcm dfcm words (fails_here _ _ _ (not-opened b l exam slot k e) h) h }

  module _ (tr : Trailer) (d : Done tr ≡ opened b l exam) where
    same_number : opened_fetch_number (take l b) slot fcm dfcm words ≡ fetches_number b l exam slot fcm dfcm words
    unfolding fetch_number block_in
    same_number = rw (← (once-opened b l exam slot tr _ d refl))

    pub fetch_done : {r : Unpacked} {fcm' dfcm' words' : List ℕ} → FetchesOpened (take l b) slot fcm dfcm words r fcm' dfcm' words'
        → Fetches b l exam slot fcm dfcm words r fcm' dfcm' words'
    unfolding block_in
    fetch_done w = record { unpacks = rw same_number at w }
