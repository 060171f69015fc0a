-- What is promised of the packer's answer to its input, each promise with one line of plain words.
use mathlib.Core.Path.{◌≡◌, refl, sym, ap, ◌∙◌}
use mathlib.Core.List.{List, [], ◌∷◌, Mem, mem-cast}
use Prim.Native.Nat.{ℕ}
use lib.ListN.{length}
use Rattle.answers.proofs.Checks.{afterwards-old, afterwards-new}
use Rattle.answers.proofs.OneOf.{no_check_one_of, check_one_of}
use Rattle.block_rules.specs.Calls.{packed, Packed}
use Rattle.packer.specs.Program.{packer_number, Answers}

-- Of the answer, both tables and the output, refused or not, the promise admits one value each.
pub packer_one_answer : {input fcm dfcm out f₁ d₁ o₁ f₂ d₂ o₂ : List ℕ} {r₁ r₂ : Packed}
    → Answers input fcm dfcm out r₁ f₁ d₁ o₁ → Answers input fcm dfcm out r₂ f₂ d₂ o₂ → (r₁ ≡ r₂) × (f₁ ≡ f₂) × (d₁ ≡ d₂) × (o₁ ≡ o₂)
packer_one_answer p q = (p.answer ∙ sym q.answer, p.fcm_left ∙ sym q.fcm_left, p.dfcm_left ∙ sym q.dfcm_left, p.out_left ∙ sym q.out_left)

-- What the tables held before plays no part: two accepted runs answer the same, write the same bytes and leave equal tables.
pub packer_forgets : {input f₁ d₁ f₂ d₂ out f₁' d₁' f₂' d₂' o₁ o₂ : List ℕ} {r₁ r₂ : Packed}
    → Answers input f₁ d₁ out r₁ f₁' d₁' o₁ → Answers input f₂ d₂ out r₂ f₂' d₂' o₂ → r₁.number ≡ 0 → (r₁ ≡ r₂) × (f₁' ≡ f₂') × (d₁' ≡ d₂') × (o₁ ≡ o₂)
unfolding packed
packer_forgets p q z =
    let k = sym (ap (λ (x : Packed). x.number) p.answer) ∙ z in (
      p.answer ∙ sym q.answer,
      p.fcm_left ∙ afterwards-new _ _ _ k ∙ sym (q.fcm_left ∙ afterwards-new _ _ _ k),
      p.dfcm_left ∙ afterwards-new _ _ _ k ∙ sym (q.dfcm_left ∙ afterwards-new _ _ _ k),
      p.out_left ∙ sym q.out_left,
    )

-- A refusal answers length 0, and leaves both tables and the output as they were.
pub refused_packer_changes_nothing : {input fcm dfcm out f' d' out' : List ℕ} {r : Packed} → Answers input fcm dfcm out r f' d' out' → (r.number ≡ 0 → ⊥)
    → (r.length ≡ 0) × (f' ≡ fcm) × (d' ≡ dfcm) × (out' ≡ out)
unfolding packed
refused_packer_changes_nothing {input} a h =
    let k : packer_number (length input) ≡ 0 → ⊥ = λ z. h (ap (λ (x : Packed). x.number) a.answer ∙ z) in
    (ap (λ (x : Packed). x.length) a.answer ∙ afterwards-old _ _ 0 k, a.fcm_left ∙ afterwards-old _ _ _ k, a.dfcm_left ∙ afterwards-old _ _ _ k, a.out_left ∙ afterwards-old _ _ _ k)

packer_one_of : (n : ℕ) → Mem (packer_number n) (0 ∷ 2 ∷ 4 ∷ [])
unfolding packer_number
packer_one_of n = check_one_of _ 2 _ (check_one_of _ 4 _ (no_check_one_of _) refl) refl

-- The packer answers 0, 2 or 4.
pub packer_numbers : {input fcm dfcm out f' d' out' : List ℕ} {r : Packed} → Answers input fcm dfcm out r f' d' out' → Mem r.number (0 ∷ 2 ∷ 4 ∷ [])
unfolding packed
packer_numbers a = mem-cast (ap (λ (x : Packed). x.number) a.answer) (packer_one_of _)
