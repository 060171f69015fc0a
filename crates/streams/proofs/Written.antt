-- What a program writes for an answer, refused or done.
use Rattle.std.proofs.Common.{◌≡◌, ℕ, List, [], length, take, Result, Ok, Err, OnOk, sym, ap, ◌∙◌}
use Rattle.std.specs.Result.{is_ok}
use Rattle.std.proofs.Math.Seq.{take-append_seam}
use Rattle.answers.specs.Answers.{afterwards, over}
use Rattle.answers.proofs.Checks.{afterwards-new, afterwards-old}
use Rattle.streams.specs.Refusal.{refusal, output_of, errors_of}

module _ {number : ℕ} (refused : number ≡ 0 → ⊥) where
  pub refused-output : (bytes : List ℕ) → output_of number bytes ≡ []
  unfolding output_of
  refused-output bytes = afterwards-old _ _ _ refused

  pub refused-errors : errors_of number ≡ refusal number
  unfolding errors_of
  refused-errors = afterwards-old _ _ _ refused

module _ {number : ℕ} (done : number ≡ 0) where
  pub done-errors : errors_of number ≡ []
  unfolding errors_of
  done-errors = afterwards-new _ _ _ done

  -- the bytes are those that the answer counts in what was lent to it
  pub done-output : (n : ℕ) (bytes lent left : List ℕ) → n ≡ afterwards number (length bytes) 0 → left ≡ afterwards number (over bytes lent) lent
      → output_of number bytes ≡ take n left
  unfolding output_of
  done-output n bytes lent left told is =
      let long = told ∙ afterwards-new _ _ _ done in
      let whole = is ∙ afterwards-new _ _ _ done in
      afterwards-new _ _ _ done ∙ sym (ap (take n) whole ∙ ap (λ m. take m (over bytes lent)) long ∙ take-append_seam bytes _)

-- what holds on Ok holds of the answer whose error is told in other words
pub on_ok_kept : {A D E P Q : Type 0} (r : Result A E) (m : Result A D) → is_ok m ≡ is_ok r → (P → Q) → OnOk r P → OnOk m Q
on_ok_kept r (Err d) e f p = tt
on_ok_kept (Ok x) (Ok y) e f p = f p
on_ok_kept (Err x) (Ok y) e f p = absurd (cc)
