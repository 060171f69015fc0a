-- What is read decides an answer that depends on no byte beyond the most that is read.
use Rattle.std.proofs.Common.{◌≡◌, ℕ, ◌≤◌, ◌<◌, List, [], ◌++◌, Some, None, IfSome, length, sym, ap, ◌∙◌, subst, arith, length-append, append-nil, inl, inr}
use Rattle.std.proofs.lemmas.Bool.{cases_lt}
use Rattle.std.specs.Io.KnownBytes.{Consumes, IsAtEnd}
use Rattle.std.specs.declared.option.Option.{Option}

-- f answers inputs that fill the buffer alike: `most` is the buffer's length
module _ {X : Type 0} (most : ℕ) (f : List ℕ → X) (alike : (xs ys : List ℕ) → most ≤ length xs → most ≤ length ys → f xs ≡ f ys) where
  same : (all read rest : List ℕ) → all ≡ read ++ rest → (length read < most → rest ≡ []) → f read ≡ f all
  same all read rest e ends = elim (cases_lt (length read) most) [
    | inl short ↦ ap f (sym (e ∙ ap (λ l. read ++ l) (ends short) ∙ append-nil read))
    | inr long ↦ alike read all long (omega (arith, ap length e, length-append read rest))
  ]

  -- Where the reader's bytes are known, what holds of the answer to what was read holds of the answer to all.
  pub of_read : (a b : Option (List ℕ)) (read : List ℕ) (P : X → Type 0) → Consumes a b read → (length read < most → IsAtEnd b) → P (f read) → IfSome a (λ all. P (f all))
  of_read None b read P p e h = tt
  of_read (Some all) None read P p e h = absurd p
  of_read (Some all) (Some rest) read P p e h = subst P (same all read rest p e) h
