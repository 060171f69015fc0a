-- Entries and where they stand, and what a file that is open tells.
use mathlib.Core.Path.{◌≡◌, refl, sym, ap, ◌∙◌}
use mathlib.Core.List.{List, [], ◌∷◌}
use Prim.Native.Nat.{ℕ, zero, suc, ◌+◌, ◌*◌, ◌≤◌, ◌<◌}
use native.Mathlib.Omega.{arith}
use lib.ListN.{length, get_or, take, drop}
use lib.Seq.{take-take}
use Rattle.exam_rules.specs.File.{Entry, File}
use Rattle.exam_rules.specs.Reading.{entry_at, entries_at, entries_in, directory_at, file_in}
use Rattle.exam_rules.specs.Inside.{Entries, Standing}
use Rattle.exam_rules.specs.declared.Trailer.{Trailer}
use Rattle.exam_rules.proofs.Opens.{Trails, trails, trails-ends, body-long, entries-many}

-- ---- entries and where they stand

pub entry-there : (f : List ℕ) (n at i : ℕ) (d : Entry) → i < n → get_or (entries_at f at n) i d ≡ entry_at f (at + 12 * i)
entry-there f zero at i d h = absurd (omega arith)
entry-there f (suc n) at zero d h = ap (λ (k : ℕ). entry_at f k) (omega arith)
entry-there f (suc n) at (suc i) d h = entry-there f n (at + 12) i d (omega arith) ∙ ap (λ (k : ℕ). entry_at f k) (omega arith)

pub part_of_first : (size offset k : ℕ) (f : List ℕ) → offset + size ≤ k → take size (drop offset (take k f)) ≡ take size (drop offset f)
part_of_first size zero k f h = take-take size k f (omega arith)
part_of_first size (suc o) zero f h = absurd (omega arith)
part_of_first size (suc o) (suc k) [] h = refl
part_of_first size (suc o) (suc k) (x ∷ f) h = part_of_first size o k f (omega arith)

-- within a list, the element at a place needs no other to fall back on
pub no_default : (es : List Entry) (i : ℕ) (d e : Entry) → i < length es → get_or es i d ≡ get_or es i e
no_default [] i d e h = absurd (omega arith)
no_default (x ∷ es) zero d e h = refl
no_default (x ∷ es) (suc i) d e h = no_default es i d e (omega arith)

-- ---- a file that is open

module _ (f : List ℕ) (tr : Trailer) (st : Standing f tr) where
  abbrev file : File
  file = file_in f

  -- the trailer tells its parts
  pub tells-edition : file.edition ≡ tr.edition
  tells-edition = sym (ap (λ (x : Trailer). x.edition) st.trailer)

  pub tells-t : file.t ≡ tr.t
  tells-t = sym (ap (λ (x : Trailer). x.t) st.trailer)

  pub tells-entries : length file.entries ≡ tr.entries
  tells-entries = sym (ap (λ (x : Trailer). x.entries) st.trailer)

  pub tells-start : length file.body ≡ tr.start
  tells-start = sym (ap (λ (x : Trailer). x.start) st.trailer)

  pub start_is : tr.start ≡ directory_at f
  start_is = sym tells-start ∙ body-long f

  pub many_is : tr.entries ≡ entries_in f
  many_is = sym tells-entries ∙ entries-many f

  pub entries_are : entries_at f tr.start tr.entries ≡ file.entries
  unfolding file_in
  entries_are = rw (start_is, many_is)

  pub rules_are : Trails f
  rules_are = trails f st.rules

  pub t-small : tr.t ≤ 16
  unfolding file_in
  t-small = omega (arith, tells-t, rules_are.t)

  pub entries-stand : Entries f tr.start tr.entries
  entries-stand = record { room = omega (arith, trails-ends f rules_are, start_is, many_is); few = omega (arith, rules_are.few, many_is) }
