-- What a call's answer tells leaves one answer: no two Results, and no two Progresses, tell the same.
use Rattle.std.proofs.Common.{◌≡◌, ℕ, Bool, true, false, cond, Option, Some, None, Result, Ok, Err, refl, sym, ap, ◌∙◌, arith}
use Rattle.answers.specs.Refusals.{number_told}
use Rattle.answers.specs.declared.Refusal.{Refusal}
use Rattle.answers.proofs.Told.{refuses, one_refusal, one_answer}
use Rattle.exam_rules.specs.Calls.{Opened, Done, Refused, opened_number, opened_told, Located, located_told, Filled, stop_number, filled_told, Salvaged, salvaged_told}
use Rattle.exam_rules.specs.declared.Trailer.{Trailer}
use Rattle.exam_rules.specs.declared.BlockPlace.{BlockPlace}
use Rattle.exam_rules.specs.declared.Progress.{Progress}
use Rattle.exam_rules.specs.declared.SalvagedFile.{SalvagedFile}

trailer_or : Trailer → Opened → Trailer
trailer_or other (Done tr) = tr
trailer_or other (Refused k) = other

number_is : (r : Result Trailer Refusal) → opened_number (opened_told r) ≡ number_told r
number_is (Ok tr) = refl
number_is (Err r) = refl

pub one_opening : (r s : Result Trailer Refusal) → opened_told r ≡ opened_told s → r ≡ s
unfolding trailer_or
one_opening r s e =
    one_answer r s (sym (number_is r) ∙ ap opened_number e ∙ number_is s)
    (λ a b p q. ap (λ x. trailer_or a (opened_told x)) (sym p) ∙ ap (trailer_or a) e ∙ ap (λ x. trailer_or a (opened_told x)) q)

abbrev place : ℕ → ℕ → BlockPlace
place o n = record { offset = o; size = n }

pub one_place : (r s : Result BlockPlace Refusal) → located_told r ≡ located_told s → r ≡ s
one_place r s e =
    one_answer r s (ap (λ (x : Located). x.number) e)
    (λ a b p q.
    let o = ap (λ x. (located_told x).offset) (sym p) ∙ ap (λ (x : Located). x.offset) e ∙ ap (λ x. (located_told x).offset) q in
    let n = ap (λ x. (located_told x).size) (sym p) ∙ ap (λ (x : Located). x.size) e ∙ ap (λ x. (located_told x).size) q in
    ap (λ x. place x a.size) o ∙ ap (place b.offset) n)

one_stop : (x y : Option Refusal) → stop_number x ≡ stop_number y → x ≡ y
one_stop None None e = refl
one_stop None (Some s) e = absurd (refuses s (sym e))
one_stop (Some r) None e = absurd (refuses r e)
one_stop (Some r) (Some s) e = ap Some (one_refusal r s e)

abbrev progress : ℕ → ℕ → Option Refusal → Progress
progress k l x = record { appended = k; length = l; refused = x }

pub one_progress : (r s : Progress) → filled_told r ≡ filled_told s → r ≡ s
one_progress r s e =
    let n = one_stop r.refused s.refused (ap (λ (x : Filled). x.number) e) in
    let a = ap (λ (x : Filled). x.appended) e in
    let l = ap (λ (x : Filled). x.length) e in
    ap (λ k. progress k r.length r.refused) a ∙ ap (λ k. progress s.appended k r.refused) l ∙ ap (progress s.appended s.length) n

one_bit : (x y : Bool) → cond {A = ℕ} x 1 0 ≡ cond y 1 0 → x ≡ y
one_bit true true e = refl
one_bit true false e = absurd (omega (arith, e))
one_bit false true e = absurd (omega (arith, e))
one_bit false false e = refl

abbrev made : ℕ → ℕ → ℕ → Bool → SalvagedFile
made l k o n = record { length = l; kept = k; left_over = o; renumbered = n }

pub one_salvage : (r s : Result SalvagedFile Refusal) → salvaged_told r ≡ salvaged_told s → r ≡ s
one_salvage r s e =
    one_answer r s (ap (λ (x : Salvaged). x.number) e)
    (λ a b p q.
    let l = ap (λ x. (salvaged_told x).length) (sym p) ∙ ap (λ (x : Salvaged). x.length) e ∙ ap (λ x. (salvaged_told x).length) q in
    let k = ap (λ x. (salvaged_told x).kept) (sym p) ∙ ap (λ (x : Salvaged). x.kept) e ∙ ap (λ x. (salvaged_told x).kept) q in
    let o = ap (λ x. (salvaged_told x).left_over) (sym p) ∙ ap (λ (x : Salvaged). x.left_over) e ∙ ap (λ x. (salvaged_told x).left_over) q in
    let n = one_bit a.renumbered b.renumbered (ap (λ x. (salvaged_told x).renumbered) (sym p) ∙ ap (λ (x : Salvaged). x.renumbered) e ∙ ap (λ x. (salvaged_told x).renumbered) q) in
    ap (λ x. made x a.kept a.left_over a.renumbered) l ∙ ap (λ x. made b.length x a.left_over a.renumbered) k
    ∙ ap (λ x. made b.length b.kept x a.renumbered) o ∙ ap (made b.length b.kept b.left_over) n)
