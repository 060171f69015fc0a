-- Records one after another: as they go, and so what append_all answers and leaves.
use mathlib.Core.Path.{◌≡◌, refl, sym, ap, subst, ◌∙◌}
use mathlib.Core.Logic.{◌⊎◌, inl, inr, ⊎_elim}
use mathlib.Core.List.{List, [], ◌∷◌}
use Prim.Native.Nat.{ℕ, ◌+◌, ◌≤◌, ◌<◌}
use native.Mathlib.Omega.{arith}
use native.Mathlib.Nat.{zero-add, add-zero}
use native.Mathlib.Numerals.{add-one}
use lib.Dec.{eqb}
use lib.ListN.{length, take}
use borrow.Author.Tests.{eqb-true, eqb-false, eq-eqb, ne_eqb}
use Rattle.words.proofs.Tests.{either}
use Rattle.answers.proofs.Checks.{afterwards-new, afterwards-old}
use Rattle.exam_rules.specs.Numbers.{open_in_number}
use Rattle.exam_rules.specs.Calls.{Lent, lent, record_appends_number, record_appended, length_kept, filled, each_appended, AppendsAll, Made, Filled}
use Rattle.exam_rules.specs.declared.Record.{Record}
use Rattle.exam_rules.proofs.Filling.{record_numbered, record_refused, each_goes_on, each_stops, each_none, all-opened, all-refused, appends-all}

-- ---- as they go

-- From l bytes and what is lent: no record is left, or one is refused and the call ends with its number, or one goes in and the others follow. Told are
-- the number, how many went in, the length reached and what is left.
pub data Goes (words : List ℕ) : List Record → (l : ℕ) → Lent → (number k l' : ℕ) → Lent → Type 0 where
  done : {l : ℕ} {s : Lent} → Goes words [] l s 0 0 l s
  stopped : {r : Record} {rs : List Record} {l : ℕ} {s : Lent} {n : ℕ} → n ≡ record_appends_number words r l s → (n ≡ 0 → ⊥) → Goes words (r ∷ rs) l s n 0 l s
  went : {r : Record} {rs : List Record} {l : ℕ} {s : Lent} {m : Made} {s' : Lent} {n k l' : ℕ} {s'' : Lent} → (m, s') ≡ record_appended words r l s → m.number ≡ 0
      → Goes words rs m.length s' n k l' s'' → Goes words (r ∷ rs) l s n (k + 1) l' s''

-- so is what they answer, where j went in before
pub goes-answers : {words : List ℕ} {rs : List Record} {l : ℕ} {s : Lent} {n k l' : ℕ} {s' : Lent} → Goes words rs l s n k l' s' → (j : ℕ)
    → each_appended words rs j l s ≡ (filled n (j + k) l', s')
goes-answers {words} (done {l = l} {s = s}) j = each_none words j l s ∙ rw (add-zero j)
goes-answers {words} (stopped {r = r} {rs = rs} {l = l} {s = s} {n = n} e h) j =
    let q = record_refused words r l s n e h in
    each_stops words r rs j l s (rw q h) ∙ rw (q, add-zero j)
goes-answers {words} (went {r = r} {rs = rs} {l = l} {s = s} {m = m} {s' = s'} {k = k} e z g) j =
    let on : j + 1 + k ≡ j + (k + 1) = omega arith in
    each_goes_on words r rs j l s (rw (← e) z) ∙ rw (← e, goes-answers g (j + 1), on)

-- and they do go
pub record Ending (words : List ℕ) (rs : List Record) (l : ℕ) (s : Lent) : Type 0 where
  pub number : ℕ
  pub appended : ℕ
  pub reached : ℕ
  pub left : Lent
  pub goes : Goes words rs l s number appended reached left

pub they_end : (words : List ℕ) (rs : List Record) (l : ℕ) (s : Lent) → Ending words rs l s
they_end words [] l s = record { number = 0; appended = 0; reached = l; left = s; goes = done }
they_end words (r ∷ rs) l s =
    let n = record_appends_number words r l s in
    let p = record_appended words r l s in
    either (eqb n 0)
    (λ q.
    let g = they_end words rs p.0.length p.1 in
    record { number = g.number; appended = g.appended + 1; reached = g.reached; left = g.left; goes = went {m = p.0} {s' = p.1} refl (record_numbered words r l s ∙ eqb-true n 0 q) g.goes })
    (λ q. record { number = n; appended = 0; reached = l; left = s; goes = stopped refl (eqb-false n 0 q) })

-- ---- how many go in

module _ {words : List ℕ} where
  pub goes-many : {rs : List Record} {l : ℕ} {s : Lent} {n k l' : ℕ} {s' : Lent} → Goes words rs l s n k l' s' → (k ≤ length rs) × (n ≡ 0 → k ≡ length rs) × ((n ≡ 0 → ⊥) → k < length rs)
  goes-many done = (omega arith, λ z. refl, λ h. absurd (h refl))
  goes-many (stopped e h) = (omega arith, λ z. absurd (h z), λ u. omega arith)
  goes-many (went e z g) = let t = goes-many g in (omega (arith, t.0), λ y. omega (arith, t.1 y), λ u. omega (arith, t.2 u))

  -- those that do go in alone: none is refused, and as much is left
  pub goes_alone : {rs : List Record} {l : ℕ} {s : Lent} {n k l' : ℕ} {s' : Lent} → Goes words rs l s n k l' s' → Goes words (take k rs) l s 0 k l' s'
  goes_alone done = done
  goes_alone (stopped e h) = done
  goes_alone (went {r = r} {rs = rs} {l = l} {s = s} {k = k} {l' = l'} {s'' = s''} e z g) =
      let one_more : take (k + 1) (r ∷ rs) ≡ r ∷ take k rs = ap (λ (i : ℕ). take i (r ∷ rs)) (add-one k) in
      subst (λ (xs : List Record). Goes words xs l s 0 (k + 1) l' s'') (sym one_more) (went e z (goes_alone g))

  -- where none does, all is as it was
  pub goes_none : {rs : List Record} {l : ℕ} {s : Lent} {n k l' : ℕ} {s' : Lent} → Goes words rs l s n k l' s' → k ≡ 0 → s' ≡ s
  goes_none done z = refl
  goes_none (stopped e h) z = refl
  goes_none (went e y g) z = absurd (omega arith)

-- ---- append_all

-- the answer's length is the one reached, but where a refusal has none in
reached-length : (n k l : ℕ) → (n ≡ 0) ⊎ (0 < k) → (filled n k l).length ≡ l
reached-length n k l (inl z) = afterwards-new n l (length_kept k l) z
reached-length n k l (inr h) =
    let some : length_kept k l ≡ l = rw (ne_eqb k 0 (λ z. omega arith)) in
    either (eqb n 0) (λ q. afterwards-new n _ _ (eqb-true n 0 q)) (λ q. afterwards-old n _ _ (eqb-false n 0 q) ∙ some)

-- and there it is 0
none-length : (n k l : ℕ) → (n ≡ 0 → ⊥) → k ≡ 0 → (filled n k l).length ≡ 0
none-length n k l h z = afterwards-old n l (length_kept k l) h ∙ rw (eq-eqb k 0 z)

-- where the file opens, the records go, and the answer says how
pub record Fills (words : List ℕ) (rs : List Record) (l : ℕ) (s : Lent) (a : Filled) (s' : Lent) : Type 0 where
  pub reached : ℕ
  pub goes : Goes words rs l s a.number a.appended reached s'
  pub answer : a ≡ filled a.number a.appended reached

module _ {b : List ℕ} {l exam : ℕ} {records : List Record} {words fcm dfcm bench b' f' d' bench' : List ℕ} {a : Filled} (c : AppendsAll b l exam records words fcm dfcm bench a b' f' d' bench') where
  pub all_fills : open_in_number b l exam ≡ 0 → Fills words records l (lent b fcm dfcm bench) a (lent b' f' d' bench')
  all_fills o =
      let g = they_end words records l (lent b fcm dfcm bench) in
      let q = all-opened l exam records words (lent b fcm dfcm bench) o ∙ goes-answers g.goes 0 in
      rw (c.answer, c.file_left, c.fcm_left, c.dfcm_left, c.bench_left, q, zero-add) (record { reached = g.reached; goes = g.goes; answer = refl })

  -- else nothing is changed
  pub all_unopened : (open_in_number b l exam ≡ 0 → ⊥) → (a ≡ filled (open_in_number b l exam) 0 l) × (b' ≡ b) × (f' ≡ fcm) × (d' ≡ dfcm) × (bench' ≡ bench)
  all_unopened h =
      let q = all-refused l exam records words (lent b fcm dfcm bench) h in
      rw (c.answer, c.file_left, c.fcm_left, c.dfcm_left, c.bench_left, q) (refl, refl, refl, refl, refl)

  -- so it opens where one goes in or none is refused
  pub all_open : (a.number ≡ 0) ⊎ (0 < a.appended) → open_in_number b l exam ≡ 0
  all_open h =
      let n = open_in_number b l exam in
      either (eqb n 0) (λ q. eqb-true n 0 q)
      (λ q.
      let x = (all_unopened (eqb-false n 0 q)).0 in
      absurd (⊎_elim (λ z. eqb-false n 0 q (sym (ap (λ (y : Filled). y.number) x) ∙ z)) (λ z. omega (arith, ap (λ (y : Filled). y.appended) x)) h))

  -- a refusal with none in changes nothing
  pub all_none : (a.number ≡ 0 → ⊥) → a.appended ≡ 0 → (a.length ≡ 0) × (b' ≡ b) × (f' ≡ fcm) × (d' ≡ dfcm) × (bench' ≡ bench)
  all_none h z =
      let n = open_in_number b l exam in
      either (eqb n 0)
      (λ q.
      let g = all_fills (eqb-true n 0 q) in
      let s = goes_none g.goes z in (
        ap (λ (x : Filled). x.length) g.answer ∙ none-length _ _ g.reached h z,
        ap (λ (x : Lent). x.file) s,
        ap (λ (x : Lent). x.fcm) s,
        ap (λ (x : Lent). x.dfcm) s,
        ap (λ (x : Lent). x.bench) s,
      ))
      (λ q. let u = all_unopened (eqb-false n 0 q) in (ap (λ (x : Filled). x.length) u.0 ∙ none-length n 0 l (eqb-false n 0 q) refl, u.1, u.2, u.3, u.4))

  -- no more go in than there are, all where none is refused, and fewer where a record is
  pub all-many : (a.appended ≤ length records) × (a.number ≡ 0 → a.appended ≡ length records) × (open_in_number b l exam ≡ 0 → (a.number ≡ 0 → ⊥) → a.appended < length records)
  all-many =
      let n = open_in_number b l exam in
      either (eqb n 0) (λ q. let t = goes-many (all_fills (eqb-true n 0 q)).goes in (t.0, t.1, λ o. t.2))
      (λ q.
      let h = eqb-false n 0 q in
      let x = (all_unopened h).0 in
      (omega (arith, ap (λ (y : Filled). y.appended) x), λ z. absurd (h (all_open (inl z))), λ o. absurd (h o)))

  -- where one goes in or none is refused, the answer's length is the one reached
  pub all-length : (a.number ≡ 0) ⊎ (0 < a.appended) → (g : Fills words records l (lent b fcm dfcm bench) a (lent b' f' d' bench')) → a.length ≡ g.reached
  all-length h g = ap (λ (x : Filled). x.length) g.answer ∙ reached-length _ _ g.reached h

  -- those that went in, as a list of their own, leave what is left
  pub all_alone : 0 < a.appended → AppendsAll b l exam (take a.appended records) words fcm dfcm bench (record { number = 0; appended = a.appended; length = a.length }) b' f' d' bench'
  all_alone h =
      let o = all_open (inr h) in
      let g = all_fills o in
      let k = a.appended in
      let q = all-opened l exam (take k records) words (lent b fcm dfcm bench) o ∙ goes-answers (goes_alone g.goes) 0 in
      let long = afterwards-new 0 g.reached (length_kept k g.reached) refl ∙ sym (all-length (inr h) g) in
      let x : filled 0 k g.reached ≡ record { number = 0; appended = k; length = a.length } = ap (λ (i : ℕ). record { number = 0; appended = k; length = i }) long in
      appends-all (ap (λ (y : Filled). (y, lent b' f' d' bench')) (sym x) ∙ sym (rw zero-add at q))
