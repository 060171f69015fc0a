-- What answers tell: a refusal's number is not 0, what `?` hands on is the refusal that was met, and what is told leaves no second answer.
use Rattle.std.proofs.Common.{◌≡◌, ℕ, [], ◌∷◌, Result, Ok, Err, refl, sym, ap, ◌∙◌, arith}
use lib.ListN.{get_or}
use Rattle.std.specs.Result.{IsErrAnd}
use Rattle.answers.specs.declared.Refusal.{Refusal}
use Rattle.answers.specs.declared.Refusal.TheVariants.{Tables, TooManyWords, NoRoom, TooShort, Lengths, Filler, Trailer, ExamNumber, Directory, NoSuchSlot, SlotNotAbove, TooManyEntries, Padded, RecordOutside}
use Rattle.answers.specs.Refusals.{refusal_number, number_told, value_told}

-- a refusal's number is not 0
pub refuses : (r : Refusal) → refusal_number r ≡ 0 → ⊥
refuses Tables = λ e. omega arith
refuses TooManyWords = λ e. omega arith
refuses NoRoom = λ e. omega arith
refuses TooShort = λ e. omega arith
refuses Lengths = λ e. omega arith
refuses Filler = λ e. omega arith
refuses Trailer = λ e. omega arith
refuses ExamNumber = λ e. omega arith
refuses Directory = λ e. omega arith
refuses NoSuchSlot = λ e. omega arith
refuses SlotNotAbove = λ e. omega arith
refuses TooManyEntries = λ e. omega arith
refuses Padded = λ e. omega arith
refuses RecordOutside = λ e. omega arith

-- ---- no second answer

-- the refusals by their numbers
abbrev refusal_of : ℕ → Refusal
refusal_of k =
    get_or
    (Tables ∷ Tables ∷ TooManyWords ∷ NoRoom ∷ TooShort ∷ Lengths ∷ Filler ∷ Trailer ∷ ExamNumber ∷ Directory ∷ NoSuchSlot ∷ SlotNotAbove ∷ TooManyEntries ∷ Padded ∷ Tables ∷ RecordOutside ∷ [])
    k Tables

told_back : (r : Refusal) → refusal_of (refusal_number r) ≡ r
told_back Tables = refl
told_back TooManyWords = refl
told_back NoRoom = refl
told_back TooShort = refl
told_back Lengths = refl
told_back Filler = refl
told_back Trailer = refl
told_back ExamNumber = refl
told_back Directory = refl
told_back NoSuchSlot = refl
told_back SlotNotAbove = refl
told_back TooManyEntries = refl
told_back Padded = refl
told_back RecordOutside = refl

-- no two refusals have one number
pub one_refusal : (r s : Refusal) → refusal_number r ≡ refusal_number s → r ≡ s
one_refusal r s e = sym (told_back r) ∙ ap refusal_of e ∙ told_back s

-- two answers that tell one number are one answer, if what they have is one where both are done
pub one_answer : {A : Type 0} (r s : Result A Refusal) → number_told r ≡ number_told s → ((a b : A) → r ≡ Ok a → s ≡ Ok b → a ≡ b) → r ≡ s
one_answer (Ok a) (Ok b) e same = ap Ok (same a b refl refl)
one_answer (Ok a) (Err s) e same = absurd (refuses s (sym e))
one_answer (Err r) (Ok b) e same = absurd (refuses r e)
one_answer (Err r) (Err s) e same = ap Err (one_refusal r s e)

-- so are two answers with a number each
pub one_count : (r s : Result ℕ Refusal) → number_told r ≡ number_told s → value_told (λ n. n) r ≡ value_told (λ n. n) s → r ≡ s
one_count r s e f = one_answer r s e (λ a b p q. ap (value_told (λ n. n)) (sym p) ∙ f ∙ ap (value_told (λ n. n)) q)

-- what `?` hands on
pub handed_on : {B : Type 0} {s : Result B Refusal} {e : Refusal} → IsErrAnd s (λ y. y ≡ e) → s ≡ Err e
handed_on {s = Ok a} h = elim h [ ]
handed_on {s = Err y} h = ap Err h
