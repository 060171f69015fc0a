-- What the tables held before plays no part: records from tables that are as long as others, with the same file and bench buffer.
use mathlib.Core.Path.{◌≡◌, refl, sym, ap, ◌∙◌}
use mathlib.Core.List.{List, [], ◌∷◌}
use Prim.Native.Nat.{ℕ, ◌+◌, ◌<◌}
use native.Mathlib.Omega.{arith}
use lib.Dec.{eqb}
use lib.ListN.{length}
use borrow.Author.Tests.{eqb-true, eqb-false}
use Rattle.words.proofs.Tests.{either}
use Rattle.answers.proofs.Checks.{afterwards-new}
use Rattle.exam_rules.specs.Numbers.{open_in_number}
use Rattle.exam_rules.specs.Calls.{Lent, lent, record_appends_number, record_appended, each_appended, all_appended, Made}
use Rattle.exam_rules.specs.declared.Record.{Record}
use Rattle.exam_rules.proofs.Filling.{record_numbered, record_refused, each_goes_on, each_stops, each_none, all-opened, all-refused}

module _ (words : List ℕ) (l : ℕ) (b bench f₁ d₁ f₂ d₂ : List ℕ) (f : length f₁ ≡ length f₂) (d : length d₁ ≡ length d₂) where
  abbrev one : Lent
  one = lent b f₁ d₁ bench

  abbrev other : Lent
  other = lent b f₂ d₂ bench

  same_number : (r : Record) → record_appends_number words r l one ≡ record_appends_number words r l other
  same_number r = rw (f, d)

  record_forgets : (r : Record) → record_appends_number words r l other ≡ 0 → record_appended words r l one ≡ record_appended words r l other
  unfolding record_appended
  record_forgets r z = rw (f, d, afterwards-new {A = Lent} _ _ one z, afterwards-new {A = Lent} _ _ other z)

  each_forgets : (rs : List Record)
      → ((each_appended words rs 0 l one).0 ≡ (each_appended words rs 0 l other).0)
      × ((each_appended words rs 0 l one).1.file ≡ (each_appended words rs 0 l other).1.file)
      × ((each_appended words rs 0 l one).1.bench ≡ (each_appended words rs 0 l other).1.bench)
      × (0 < (each_appended words rs 0 l one).0.appended → each_appended words rs 0 l one ≡ each_appended words rs 0 l other)
  each_forgets [] = rw (each_none words 0 l one, each_none words 0 l other) (refl, refl, refl, λ h. absurd (omega arith))
  each_forgets (r ∷ rs) =
      let n = record_appends_number words r l other in
      either (eqb n 0)
      (λ q.
      let z = eqb-true n 0 q in
      let e : each_appended words (r ∷ rs) 0 l one ≡ each_appended words (r ∷ rs) 0 l other =
      each_goes_on words r rs 0 l one (record_numbered words r l one ∙ same_number r ∙ z)
      ∙ ap (λ (p : Made × Lent). each_appended words rs (0 + 1) p.0.length p.1) (record_forgets r z)
      ∙ sym (each_goes_on words r rs 0 l other (record_numbered words r l other ∙ z)) in
      rw e (refl, refl, refl, λ h. refl))
      (λ q.
      let h = eqb-false n 0 q in
      let x = record_refused words r l one n (sym (same_number r)) h in
      let y = record_refused words r l other n refl h in
      rw (each_stops words r rs 0 l one (rw x h), each_stops words r rs 0 l other (rw y h), x, y) (refl, refl, refl, λ k. absurd (omega arith)))

  pub all-forgets : (exam : ℕ) (rs : List Record)
      → ((all_appended l exam rs words one).0 ≡ (all_appended l exam rs words other).0)
      × ((all_appended l exam rs words one).1.file ≡ (all_appended l exam rs words other).1.file)
      × ((all_appended l exam rs words one).1.bench ≡ (all_appended l exam rs words other).1.bench)
      × (0 < (all_appended l exam rs words one).0.appended → all_appended l exam rs words one ≡ all_appended l exam rs words other)
  all-forgets exam rs =
      let n = open_in_number b l exam in
      either (eqb n 0) (λ q. let z = eqb-true n 0 q in rw (all-opened l exam rs words one z, all-opened l exam rs words other z) (each_forgets rs))
      (λ q. let h = eqb-false n 0 q in rw (all-refused l exam rs words one h, all-refused l exam rs words other h) (refl, refl, refl, λ k. absurd (omega arith)))
