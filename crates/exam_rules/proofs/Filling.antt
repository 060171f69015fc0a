-- Records: one of them, and one after another.
use mathlib.Core.Path.{◌≡◌, refl, sym, ap, ◌∙◌}
use mathlib.Core.List.{List, [], ◌∷◌}
use Prim.Native.Nat.{ℕ, zero, suc, ◌+◌, ◌≤◌, ◌<◌}
use native.Mathlib.Omega.{arith}
use lib.Dec.{eqb}
use lib.ListN.{length, take, drop, length-drop}
use lib.Seq.{length-take-le, get_or-drop}
use borrow.Author.Tests.{eqb-true, eqb-false, le-leb, lt-leb}
use Rattle.words.specs.Words.{Words}
use Rattle.words.proofs.Tests.{either}
use Rattle.answers.specs.Answers.{afterwards}
use Rattle.answers.proofs.Checks.{unless-passes, fails_later, last_decides, stops, afterwards-new, afterwards-old}
use Rattle.exam_rules.specs.Reading.{file_in}
use Rattle.exam_rules.specs.Numbers.{open_in_number, append_number_to, record_number}
use Rattle.exam_rules.specs.Calls.{made, Lent, lent, appends_number, Appends, words_of, record_appends_number, record_appended, filled, each_appended, all_appended, AppendsAll, Made, Filled}
use Rattle.exam_rules.specs.declared.Record.{Record}

-- ---- an answer and what is lent, part by part

pub parts : {A : Type 0} {r₁ r₂ : A} {s₁ s₂ : Lent} → ◌≡◌ {A = A × Lent} (r₁, s₁) (r₂, s₂)
    → (r₁ ≡ r₂) × (s₁.file ≡ s₂.file) × (s₁.fcm ≡ s₂.fcm) × (s₁.dfcm ≡ s₂.dfcm) × (s₁.bench ≡ s₂.bench)
parts {A} e =
    let s = ap (λ (p : A × Lent). p.1) e in
    (ap (λ (p : A × Lent). p.0) e, ap (λ (x : Lent). x.file) s, ap (λ (x : Lent). x.fcm) s, ap (λ (x : Lent). x.dfcm) s, ap (λ (x : Lent). x.bench) s)

-- what is left of all that is lent is left of each
each_left : (k : ℕ) (s t : Lent) → afterwards k s t ≡ lent (afterwards k s.file t.file) (afterwards k s.fcm t.fcm) (afterwards k s.dfcm t.dfcm) (afterwards k s.bench t.bench)
unfolding afterwards
each_left zero s t = refl
each_left (suc k) s t = refl

-- ---- one record

words-first : (n : ℕ) (l : List ℕ) → Words l → Words (take n l)
words-first zero l h i = omega arith
words-first (suc n) [] h i = omega arith
words-first (suc n) (x ∷ l) h zero = h 0
words-first (suc n) (x ∷ l) h (suc i) = words-first n l (λ k. h (suc k)) i

-- its words are words
pub words_of_lem : (r : Record) (words : List ℕ) → Words words → Words (words_of r words)
words_of_lem r words h = words-first r.count (drop r.first words) (λ i. rw (get_or-drop r.first words i 0) (h (r.first + i)))

module _ (words : List ℕ) (r : Record) (l : ℕ) (s : Lent) where
  pub record_numbered : (record_appended words r l s).0.number ≡ record_appends_number words r l s
  unfolding record_appended made
  record_numbered = refl

  -- a record that is refused changes nothing
  pub record_refused : (n : ℕ) → n ≡ record_appends_number words r l s → (n ≡ 0 → ⊥) → record_appended words r l s ≡ (record { number = n; length = 0 }, s)
  unfolding record_appended made
  record_refused n e h =
      let k : record_appends_number words r l s ≡ 0 → ⊥ = λ z. h (e ∙ z) in
      rw (e, afterwards-old {A = ℕ} _ _ 0 k, afterwards-old {A = Lent} _ _ s k)

  -- so is one that reaches beyond the words
  pub record_outside : length words < r.first + r.count → record_appended words r l s ≡ (record { number = 15; length = 0 }, s)
  unfolding record_number
  record_outside h = record_refused 15 (stops _ _ _ (lt-leb _ _ h) (omega arith)) (λ z. omega arith)

  module _ (h : r.first + r.count ≤ length words) where
    pub words_long : length (words_of r words) ≡ r.count
    words_long = length-take-le r.count (drop r.first words) (omega (arith, length-drop r.first words))

    -- any other has append's number for its words
    record_number_lem : (exam : ℕ) → open_in_number s.file l exam ≡ 0
        → record_appends_number words r l s ≡ appends_number s.file l exam r.slot (words_of r words) s.fcm s.dfcm s.bench
    unfolding record_number
    record_number_lem exam o =
        let number : ℕ → ℕ = λ n. append_number_to (file_in (take l s.file)) r.slot n (length s.fcm) (length s.dfcm) l (length s.file) (length s.bench) in
        sym (fails_later _ _ _ (unless-passes _ 15 (le-leb _ _ h)) (last_decides (number r.count))) ∙ ap number (sym words_long) ∙ fails_later _ _ _ o (last_decides _)

    -- and is what append answers for them, and leaves
    module _ {exam : ℕ} (o : open_in_number s.file l exam ≡ 0) {m : Made} {b' fcm' dfcm' bench' : List ℕ} where
      pub append_to_record : Appends s.file l exam r.slot (words_of r words) s.fcm s.dfcm s.bench m b' fcm' dfcm' bench'
          → (m, lent b' fcm' dfcm' bench') ≡ record_appended words r l s
      unfolding record_appended
      append_to_record c =
          rw (record_number_lem exam o, each_left (appends_number s.file l exam r.slot (words_of r words) s.fcm s.dfcm s.bench) _ s, c.file.answer, c.file.file_left, c.fcm_left, c.dfcm_left, c.bench_left) refl

      pub record_to_append : (m, lent b' fcm' dfcm' bench') ≡ record_appended words r l s
          → Appends s.file l exam r.slot (words_of r words) s.fcm s.dfcm s.bench m b' fcm' dfcm' bench'
      unfolding record_appended
      record_to_append e =
          let p = parts (rw (record_number_lem exam o, each_left (appends_number s.file l exam r.slot (words_of r words) s.fcm s.dfcm s.bench) _ s) at e) in
          record { file = record { answer = p.0; file_left = p.1 }; fcm_left = p.2; dfcm_left = p.3; bench_left = p.4 }

-- ---- one after another

module _ (words : List ℕ) (r : Record) (rs : List Record) (k l : ℕ) (s : Lent) where
  -- one that was appended: the others follow
  pub each_goes_on : (record_appended words r l s).0.number ≡ 0
      → each_appended words (r ∷ rs) k l s ≡ each_appended words rs (k + 1) (record_appended words r l s).0.length (record_appended words r l s).1
  unfolding each_appended
  each_goes_on z = afterwards-new _ _ _ z

  -- one that was refused: the call ends
  pub each_stops : ((record_appended words r l s).0.number ≡ 0 → ⊥)
      → each_appended words (r ∷ rs) k l s ≡ (filled (record_appended words r l s).0.number k l, (record_appended words r l s).1)
  unfolding each_appended
  each_stops h = afterwards-old _ _ _ h

pub each_none : (words : List ℕ) (k l : ℕ) (s : Lent) → each_appended words [] k l s ≡ (filled 0 k l, s)
unfolding each_appended
each_none words k l s = λ j. (filled 0 k l, s)

-- one alone
pub each_one : (words : List ℕ) (r : Record) (l : ℕ) (s : Lent)
    → each_appended words (r ∷ []) 0 l s
    ≡ (record { number = (record_appended words r l s).0.number; appended = afterwards (record_appended words r l s).0.number 1 0; length = (record_appended words r l s).0.length }, (record_appended words r l s).1)
unfolding afterwards
each_one words r l s =
    let p = record_appended words r l s in
    let n = p.0.number in
    either (eqb n 0) (λ q. let z = eqb-true n 0 q in each_goes_on words r [] 0 l s z ∙ each_none words 1 p.0.length p.1 ∙ rw z)
    (λ q.
    let h = eqb-false n 0 q in
    let x = record_refused words r l s n (record_numbered words r l s) h in
    each_stops words r [] 0 l s h ∙ rw (afterwards-old {A = ℕ} n 1 0 h, afterwards-old {A = ℕ} n l 0 h, ap (λ (y : Made × Lent). y.0.length) x))

-- ---- all of them

module _ (l exam : ℕ) (records : List Record) (words : List ℕ) (s : Lent) where
  pub all-opened : open_in_number s.file l exam ≡ 0 → all_appended l exam records words s ≡ each_appended words records 0 l s
  unfolding all_appended
  all-opened z = afterwards-new _ _ _ z

  pub all-refused : (open_in_number s.file l exam ≡ 0 → ⊥) → all_appended l exam records words s ≡ (filled (open_in_number s.file l exam) 0 l, s)
  unfolding all_appended
  all-refused h = afterwards-old _ _ _ h

-- the contract, from the outcome as one value
pub appends-all : {b : List ℕ} {l exam : ℕ} {records : List Record} {words fcm dfcm bench : List ℕ} {r : Filled} {s : Lent}
    → ◌≡◌ {A = Filled × Lent} (r, s) (all_appended l exam records words (lent b fcm dfcm bench))
    → AppendsAll b l exam records words fcm dfcm bench r s.file s.fcm s.dfcm s.bench
appends-all e =
    let p = parts e in
    record { answer = p.0; file_left = p.1; fcm_left = p.2; dfcm_left = p.3; bench_left = p.4 }
