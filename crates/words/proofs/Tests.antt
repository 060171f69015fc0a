-- A test, by its two outcomes.
use Rattle.std.proofs.Common.{◌≡◌, ℕ, ◌<◌, Bool, true, false, ltb, sym, refl, ◌∙◌, arith, ltb-false, ltb-true, lt-ltb}

pub either {ℓ} : {A : Type ℓ} (b : Bool) → (b ≡ true → A) → (b ≡ false → A) → A
either true f g = f refl
either false f g = g refl

-- two tests come out alike where each follows from the other
pub same_test : (a b c d : ℕ) → (a < b → c < d) → (c < d → a < b) → ltb a b ≡ ltb c d
same_test a b c d f g =
    either (ltb a b) (λ e. e ∙ sym (lt-ltb c d (f (ltb-true a b e))))
    (λ e. either (ltb c d) (λ q. absurd (omega (arith, ltb-false a b e, g (ltb-true c d q)))) (λ q. e ∙ sym q))
