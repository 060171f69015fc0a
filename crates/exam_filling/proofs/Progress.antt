-- From record to record what is left to do gives the same outcome.
use mathlib.Core.Path.{◌≡◌, refl, sym, ap, ◌∙◌}
use mathlib.Core.List.{List, ◌∷◌}
use Prim.Native.Nat.{ℕ, ◌+◌, ◌≤◌, ◌<◌}
use native.Mathlib.Omega.{arith}
use native.Mathlib.Numerals.{add-one}
use lib.ListN.{length, get_or, drop, drop_of_length-le}
use lib.Seq.{drop-cons}
use Rattle.std.proofs.Common.{Some}
use Rattle.answers.specs.Refusals.{refusal_number}
use Rattle.answers.specs.declared.Refusal.{Refusal}
use Rattle.answers.proofs.Told.{refuses}
use Rattle.answers.proofs.Checks.{afterwards-new, afterwards-old}
use Rattle.exam_rules.specs.Numbers.{open_in_number}
use Rattle.exam_rules.specs.Calls.{Lent, record_appended, length_kept, filled, filled_told, each_appended, all_appended, Made, Filled}
use Rattle.exam_rules.specs.declared.Record.{Record}
use Rattle.exam_rules.specs.declared.Progress.{Progress}
use Rattle.exam_rules.proofs.Filling.{each_goes_on, each_stops, each_none, all-opened, all-refused}
use Rattle.exam_records.specs.Inside.{AppendsRecord}

-- the progress at a refusal
abbrev pub stopped_at : Refusal → ℕ → ℕ → Progress
stopped_at x k l = record { appended = k; length = length_kept k l; refused = Some x }

tells-stop : (x : Refusal) (k l : ℕ) → filled_told (stopped_at x k l) ≡ filled (refusal_number x) k l
tells-stop x k l = rw (afterwards-old (refusal_number x) l (length_kept k l) (refuses x))

module _ (words : List ℕ) (rs : List Record) (l exam : ℕ) (s₀ : Lent) where
  abbrev whole : Filled × Lent
  whole = all_appended l exam rs words s₀

  pub not_opened : (x : Refusal) → refusal_number x ≡ open_in_number s₀.file l exam → (filled_told (stopped_at x 0 l), s₀) ≡ whole
  not_opened x e =
      ap (λ (f : Filled). (f, s₀)) (tells-stop x 0 l ∙ ap (λ (n : ℕ). filled n 0 l) e) ∙ sym (all-refused l exam rs words s₀ (λ z. refuses x (e ∙ z)))

  -- k records went in and the file has n bytes; it opens, and going on from here gives the whole outcome
  pub record Going (k n : ℕ) (s : Lent) : Type 0 where
    pub opens : open_in_number s.file n exam ≡ 0
    pub left : each_appended words (drop k rs) k n s ≡ whole

  pub going_starts : open_in_number s₀.file l exam ≡ 0 → Going 0 l s₀
  going_starts z = record { opens = z; left = sym (all-opened l exam rs words s₀ z) }

  module _ (k n : ℕ) (s : Lent) (g : Going k n s) where
    pub going_ends : k ≡ length rs → (record { number = 0; appended = length rs; length = n }, s) ≡ whole
    going_ends e =
        let past : length rs ≤ k = omega arith in
        let reached : filled 0 k n ≡ record { number = 0; appended = k; length = n } = rw (afterwards-new 0 n (length_kept k n) refl) in
        rw (← e, ← reached) (rw (drop_of_length-le rs past, each_none words k n s) at g.left)

    module _ (d : Record) (below : k < length rs) where
      abbrev r : Record
      r = get_or rs k d

      one_more : each_appended words (r ∷ drop (k + 1) rs) k n s ≡ whole
      one_more = rw (add-one, ← (drop-cons rs k d below)) g.left

      module _ (m : Made) (s' : Lent) (a : AppendsRecord exam words r n s m s') where
        number_is : (record_appended words r n s).0.number ≡ m.number
        number_is = sym (ap (λ (x : Made × Lent). x.0.number) a.outcome)

        pub going_on : m.number ≡ 0 → Going (k + 1) m.length s'
        going_on z =
            record {
              opens = a.opens z;
              left = ap (λ (x : Made × Lent). each_appended words (drop (k + 1) rs) (k + 1) x.0.length x.1) a.outcome ∙ sym (each_goes_on words r (drop (k + 1) rs) k n s (number_is ∙ z)) ∙ one_more;
            }

        pub going_stops : (x : Refusal) → m.number ≡ refusal_number x → (filled_told (stopped_at x k n), s') ≡ whole
        going_stops x e =
            ap (λ (f : Filled). (f, s')) (tells-stop x k n ∙ ap (λ (q : ℕ). filled q k n) (sym e))
            ∙ ap (λ (y : Made × Lent). (filled y.0.number k n, y.1)) a.outcome
            ∙ sym (each_stops words r (drop (k + 1) rs) k n s (λ z. refuses x (sym e ∙ sym number_is ∙ z)))
            ∙ one_more
