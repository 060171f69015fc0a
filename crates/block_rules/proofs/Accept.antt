-- When each call accepts, and what its number tells.
use mathlib.Core.Path.{◌≡◌, refl, sym, ap, ◌∙◌}
use mathlib.Core.Bool.{true, false}
use mathlib.Core.List.{List, ◌++◌}
use Prim.Native.Nat.{ℕ, ◌+◌, ◌%◌, ◌≤◌, ◌<◌}
use native.Mathlib.Omega.{arith}
use lib.Dec.{eqb}
use lib.ListN.{length, take, drop, length-append, length-drop}
use lib.Seq.{take-append-le, drop-append-le}
use borrow.Author.Tests.{leb-true, le-leb, lt-leb, eqb-true, eqb-false, eq-eqb, ne_eqb}
use Rattle.words.specs.Bytes.{number}
use Rattle.words.proofs.Tests.{either}
use Rattle.answers.proofs.Checks.{unless-passes, unless_fails, unless_holds, all_pass, fails_here, fails_later, none_fails, none_above, at_most, afterwards-new, afterwards-old}
use Rattle.block_rules.specs.Block.{block, count, stated_length, residuals_at, counted_codes, last_half, residual_length, coded_in, none_padded}
use Rattle.block_rules.specs.Calls.{Checked, packed, packs_number, Packs, checked, unpacked, UnpacksWhere, Packed, Unpacked}
use Rattle.block_rules.specs.Numbers.{pack_number, filler_stands, form_number, block_number, unpack_number, t_of}
use Rattle.block_rules.specs.Inside.{Packable, PacksAll, Counted, Unpackable, UnpacksAll}
use Rattle.block_rules.proofs.Tables.{tables-sized, sized-tables}
use Rattle.block_rules.proofs.Order.{takes_form, tight-takes, form_first, padded_thirteen}

-- ---- pack

pub packable : (n f d room : ℕ) → pack_number n f d room ≡ 0 → Packable n f d room
unfolding pack_number
packable n f d room e =
    let a = none_fails _ _ e in
    let b = none_fails _ _ a.1 in
    record {
      sized = tables-sized f d a.0;
      few = leb-true _ _ (unless_holds _ _ b.0 (omega arith));
      room = leb-true _ _ (unless_holds _ _ (none_fails _ _ b.1).0 (omega arith));
    }

pub packable-packs : (n f d room : ℕ) → Packable n f d room → pack_number n f d room ≡ 0
unfolding pack_number
packable-packs n f d room p =
    sym
    (fails_later _ _ _ (sym (sized-tables f d p.sized))
    (fails_later _ _ _ (unless-passes _ _ (le-leb _ _ p.few))
    (fails_later _ _ _ (unless-passes _ _ (le-leb _ _ p.room)) all_pass)))

pub pack_refused : (ws f d out : List ℕ) (k : ℕ) → k ≡ packs_number ws f d out → (k ≡ 0 → ⊥) → Packs ws f d out (record { number = k; length = 0 }) f d out
unfolding packed
pack_refused ws f d out k e h =
    let r : packs_number ws f d out ≡ 0 → ⊥ = λ z. h (e ∙ z) in
    record { answer = cc (afterwards-old _ (length (block (t_of (length f)) ws)) 0 r); fcm_left = sym (afterwards-old _ _ f r); dfcm_left = sym (afterwards-old _ _ d r); out_left = sym (afterwards-old _ _ out r) }

pub pack_done : (ws f d out f' d' out' : List ℕ) (k : ℕ) → packs_number ws f d out ≡ 0 → PacksAll (t_of (length f)) ws out f' d' out' k
    → Packs ws f d out (record { number = 0; length = k }) f' d' out'
unfolding packed
pack_done ws f d out f' d' out' k z p =
    record {
      answer = cc (afterwards-new _ (length (block (t_of (length f)) ws)) 0 z, p.size);
      fcm_left = p.fcm ∙ sym (afterwards-new _ _ f z);
      dfcm_left = p.dfcm ∙ sym (afterwards-new _ _ d z);
      out_left = p.out ∙ sym (afterwards-new _ _ out z);
    }

-- ---- check

-- what a block that can be read has
pub record Whole (b : List ℕ) : Type 0 where
  pub long : 8 ≤ length b
  pub few : count b ≤ 65536
  pub stated : stated_length b ≡ length b
  pub adds : length b ≡ residuals_at (count b) + residual_length (counted_codes b)
  pub filler : filler_stands b ≡ true

pub form_tells : (b : List ℕ) → form_number b ≡ 0 → Whole b
unfolding form_number
form_tells b e =
    let a = none_fails _ _ e in
    let c = none_fails _ _ a.1 in
    let d = none_fails _ _ c.1 in
    let f = none_fails _ _ d.1 in
    let s : stated_length b ≡ length b = eqb-true _ _ (unless_holds _ _ d.0 (omega arith)) in
    record {
      long = leb-true _ _ (unless_holds _ _ a.0 (omega arith));
      few = leb-true _ _ (unless_holds _ _ c.0 (omega arith));
      stated = s;
      adds = sym s ∙ eqb-true _ _ (unless_holds _ _ f.0 (omega arith));
      filler = unless_holds _ _ (none_fails _ _ f.1).0 (omega arith);
    }

pub whole_forms : (b : List ℕ) → Whole b → form_number b ≡ 0
unfolding form_number
whole_forms b w =
    sym
    (fails_later _ _ _ (unless-passes _ _ (le-leb _ _ w.long))
    (fails_later _ _ _ (unless-passes _ _ (le-leb _ _ w.few))
    (fails_later _ _ _ (unless-passes _ _ (eq-eqb _ _ w.stated))
    (fails_later _ _ _ (unless-passes _ _ (eq-eqb _ _ (w.stated ∙ w.adds)))
    (fails_later _ _ _ (unless-passes _ _ w.filler) all_pass)))))

-- where 13 answers, the form is right, and a code is padded
form_at_most : (b : List ℕ) → form_number b ≤ 6
unfolding form_number
form_at_most b =
    at_most _ 4 6 _ (omega arith)
    (at_most _ 2 6 _ (omega arith) (at_most _ 5 6 _ (omega arith) (at_most _ 5 6 _ (omega arith) (at_most _ 6 6 _ (omega arith) (none_above 6)))))

pub thirteen_tells : (b : List ℕ) → block_number b ≡ 13 → (form_number b ≡ 0) × (none_padded (coded_in b) ≡ false)
thirteen_tells b e =
    let f : form_number b ≡ 0 = either (eqb (form_number b) 0) (λ q. eqb-true _ _ q) (λ q. absurd (omega (arith, form_first b (form_number b) refl (eqb-false _ _ q), form_at_most b))) in
    (f, either (none_padded (coded_in b)) (λ t. absurd (omega (arith, tight-takes b f t))) (λ t. t))

pub whole : (b : List ℕ) → block_number b ≡ 0 → Whole b
whole b e = form_tells b (takes_form b e)

pub filler_needs : (b : List ℕ) → filler_stands b ≡ true → count b % 2 ≡ 1 → last_half b ≡ 7
unfolding filler_stands
filler_needs b e o = eqb-true _ _ (rw (eq-eqb _ _ o) at e)

pub filler_has : (b : List ℕ) → (count b % 2 ≡ 1 → last_half b ≡ 7) → filler_stands b ≡ true
unfolding filler_stands
filler_has b h = either (eqb (count b % 2) 1) (λ e. rw (e, eq-eqb _ _ (h (eqb-true _ _ e)))) (λ e. rw e)

-- the checks one by one, as code makes them
module _ (b : List ℕ) where
  pub too_short : length b < 8 → 4 ≡ block_number b
  unfolding form_number
  too_short h = form_first b 4 (fails_here _ _ _ (unless_fails _ _ (lt-leb _ _ h)) (λ e. omega arith)) (λ z. omega arith)

  module _ (n : ℕ) (long : 8 ≤ length b) (e : n ≡ count b) where
    pub too_many : 65536 < n → 2 ≡ block_number b
    unfolding form_number
    too_many h =
        form_first b 2
        (fails_later _ _ _ (unless-passes _ _ (le-leb _ _ long))
        (fails_here _ _ _ (unless_fails _ _ (lt-leb (count b) 65536 (omega arith))) (λ z. omega arith)))
        (λ z. omega arith)

    module _ (few : n ≤ 65536) (s : ℕ) (q : s ≡ stated_length b) where
      pub misstated : (s ≡ length b → ⊥) → 5 ≡ block_number b
      unfolding form_number
      misstated h =
          form_first b 5
          (fails_later _ _ _ (unless-passes _ _ (le-leb _ _ long))
          (fails_later _ _ _ (unless-passes _ _ (le-leb (count b) 65536 (omega arith)))
          (fails_here _ _ _ (unless_fails _ _ (ne_eqb _ _ (λ z. h (q ∙ z)))) (λ z. omega arith))))
          (λ z. omega arith)

      module _ (stated : s ≡ length b) where
        pub uneven : (length b ≡ residuals_at n + residual_length (counted_codes b) → ⊥) → 5 ≡ block_number b
        unfolding form_number
        uneven h =
            form_first b 5
            (fails_later _ _ _ (unless-passes _ _ (le-leb _ _ long))
            (fails_later _ _ _ (unless-passes _ _ (le-leb (count b) 65536 (omega arith)))
            (fails_later _ _ _ (unless-passes _ _ (eq-eqb _ _ (sym q ∙ stated)))
            (fails_here _ _ _ (unless_fails _ _ (ne_eqb _ _ (λ z. h (sym stated ∙ q ∙ z ∙ ap (λ (k : ℕ). residuals_at k + residual_length (counted_codes b)) (sym e)))))
            (λ z. omega arith)))))
            (λ z. omega arith)

        module _ (adds : length b ≡ residuals_at n + residual_length (counted_codes b)) where
          pub unfilled : filler_stands b ≡ false → 6 ≡ block_number b
          unfolding form_number
          unfilled h =
              form_first b 6
              (fails_later _ _ _ (unless-passes _ _ (le-leb _ _ long))
              (fails_later _ _ _ (unless-passes _ _ (le-leb (count b) 65536 (omega arith)))
              (fails_later _ _ _ (unless-passes _ _ (eq-eqb _ _ (sym q ∙ stated)))
              (fails_later _ _ _ (unless-passes _ _ (eq-eqb _ _ (sym q ∙ stated ∙ adds ∙ ap (λ (k : ℕ). residuals_at k + residual_length (counted_codes b)) e)))
              (fails_here _ _ _ (unless_fails _ _ h) (λ z. omega arith))))))
              (λ z. omega arith)

          module _ (filler : filler_stands b ≡ true) where
            formed : form_number b ≡ 0
            formed =
                whole_forms b
                (record {
                  long = long;
                  few = omega arith;
                  stated = sym q ∙ stated;
                  adds = adds ∙ ap (λ (k : ℕ). residuals_at k + residual_length (counted_codes b)) e;
                  filler = filler;
                })

            pub has_padding : none_padded (coded_in b) ≡ false → 13 ≡ block_number b
            has_padding h = padded_thirteen b formed h

            pub fine : none_padded (coded_in b) ≡ true → 0 ≡ block_number b
            fine h = sym (tight-takes b formed h)

pub too_short_for_codes : (b : List ℕ) → 8 ≤ length b → count b ≤ 65536 → length b < residuals_at (count b) → 5 ≡ block_number b
too_short_for_codes b h few l =
    either (eqb (stated_length b) (length b))
    (λ e. uneven b (count b) h refl few (stated_length b) refl (eqb-true _ _ e) (λ z. omega arith))
    (λ e. misstated b (count b) h refl few (stated_length b) refl (eqb-false _ _ e))

pub whole-counted : (b : List ℕ) (n : ℕ) → Whole b → n ≡ count b → Counted b n
whole-counted b n w c = record { count = c; few = rw c w.few; codes = rw c (omega (arith, w.adds)) }

pub counted : (b : List ℕ) (n : ℕ) → block_number b ≡ 0 → n ≡ count b → Counted b n
counted b n e c = whole-counted b n (whole b e) c

-- ---- unpack

pub unpackable : (b : List ℕ) (f d room : ℕ) → unpack_number b f d room ≡ 0 → Unpackable b f d room
unfolding unpack_number
unpackable b f d room e =
    let a = none_fails _ _ e in
    let c = none_fails _ _ a.1 in
    record { sized = tables-sized f d a.0; whole = c.0; room = leb-true _ _ (unless_holds _ _ (none_fails _ _ c.1).0 (omega arith)) }

pub unpackable-unpacks : (b : List ℕ) (f d room : ℕ) → Unpackable b f d room → unpack_number b f d room ≡ 0
unfolding unpack_number
unpackable-unpacks b f d room u =
    sym
    (fails_later _ _ _ (sym (sized-tables f d u.sized))
    (fails_later _ _ _ u.whole
    (fails_later _ _ _ (unless-passes _ _ (le-leb _ _ u.room)) all_pass)))

pub where_refused : (k t n : ℕ) (b f d ws : List ℕ) → n ≡ k → (n ≡ 0 → ⊥) → UnpacksWhere k t b f d ws (record { number = n; count = 0 }) f d ws
unfolding unpacked
where_refused k t n b f d ws e h =
    let r : k ≡ 0 → ⊥ = λ z. h (e ∙ z) in
    record { answer = cc (afterwards-old k (count b) 0 r); fcm_left = sym (afterwards-old _ _ f r); dfcm_left = sym (afterwards-old _ _ d r); words_left = sym (afterwards-old _ _ ws r) }

pub where_done : (k t n : ℕ) (b f d ws f' d' ws' : List ℕ) → k ≡ 0 → UnpacksAll t b ws f' d' ws' n → UnpacksWhere k t b f d ws (record { number = 0; count = n }) f' d' ws'
unfolding unpacked
where_done k t n b f d ws f' d' ws' z p =
    record {
      answer = cc (afterwards-new k (count b) 0 z, p.count);
      fcm_left = p.fcm ∙ sym (afterwards-new _ _ f z);
      dfcm_left = p.dfcm ∙ sym (afterwards-new _ _ d z);
      words_left = p.words ∙ sym (afterwards-new _ _ ws z);
    }

pub check_refused : (b : List ℕ) (k : ℕ) → k ≡ block_number b → (k ≡ 0 → ⊥) → record { number = k; count = 0 } ≡ checked b
unfolding checked
check_refused b k e h = cc (afterwards-old (block_number b) (count b) 0 (λ z. h (e ∙ z)))

pub check_done : (b : List ℕ) (n : ℕ) → block_number b ≡ 0 → n ≡ count b → record { number = 0; count = n } ≡ checked b
unfolding checked
check_done b n z e = cc (afterwards-new (block_number b) (count b) 0 z)

-- what an answer of check tells
pub checked-number : (b : List ℕ) (r : Checked) → r ≡ checked b → r.number ≡ block_number b
unfolding checked
checked-number b r e = ap (λ (x : Checked). x.number) e

pub checked-count : (b : List ℕ) (n : ℕ) → record { number = 0; count = n } ≡ checked b → n ≡ count b
unfolding checked
checked-count b n e = ap (λ (x : Checked). x.count) e ∙ afterwards-new (block_number b) (count b) 0 (sym (ap (λ (x : Checked). x.number) e))

-- ---- from an answer

pub packs-number : {ws f d out f' d' out' : List ℕ} {r : Packed} → Packs ws f d out r f' d' out' → r.number ≡ packs_number ws f d out
unfolding packed
packs-number p = ap (λ (x : Packed). x.number) p.answer

pub checks-number : (b : List ℕ) → (checked b).number ≡ block_number b
unfolding checked
checks-number b = refl

-- an accepted call: each thing is the new one
pub packs_all_of : {ws f d out f' d' out' : List ℕ} {r : Packed} → Packs ws f d out r f' d' out' → r.number ≡ 0 → PacksAll (t_of (length f)) ws out f' d' out' r.length
unfolding packed
packs_all_of p e =
    let z = sym (packs-number p) ∙ e in
    record {
      size = ap (λ (x : Packed). x.length) p.answer ∙ afterwards-new _ _ 0 z;
      fcm = p.fcm_left ∙ afterwards-new _ _ _ z;
      dfcm = p.dfcm_left ∙ afterwards-new _ _ _ z;
      out = p.out_left ∙ afterwards-new _ _ _ z;
    }

module _ {k t : ℕ} {b f d ws f' d' ws' : List ℕ} {r : Unpacked} (p : UnpacksWhere k t b f d ws r f' d' ws') where
  pub where_number : r.number ≡ k
  unfolding unpacked
  where_number = ap (λ (x : Unpacked). x.number) p.answer

  pub where_all : r.number ≡ 0 → UnpacksAll t b ws f' d' ws' r.count
  unfolding unpacked
  where_all e =
      let z = sym where_number ∙ e in
      record {
        count = ap (λ (x : Unpacked). x.count) p.answer ∙ afterwards-new _ _ 0 z;
        fcm = p.fcm_left ∙ afterwards-new _ _ _ z;
        dfcm = p.dfcm_left ∙ afterwards-new _ _ _ z;
        words = p.words_left ∙ afterwards-new _ _ _ z;
      }

  -- a refusal changes nothing
  pub where_nothing : (r.number ≡ 0 → ⊥) → (r.count ≡ 0) × (f' ≡ f) × (d' ≡ d) × (ws' ≡ ws)
  unfolding unpacked
  where_nothing h =
      let n : k ≡ 0 → ⊥ = λ z. h (where_number ∙ z) in (
        ap (λ (x : Unpacked). x.count) p.answer ∙ afterwards-old _ _ 0 n,
        p.fcm_left ∙ afterwards-old _ _ _ n,
        p.dfcm_left ∙ afterwards-old _ _ _ n,
        p.words_left ∙ afterwards-old _ _ _ n,
      )

  -- no second answer
  pub where_one_answer : {f₂ d₂ ws₂ : List ℕ} {s : Unpacked} → UnpacksWhere k t b f d ws s f₂ d₂ ws₂ → (r ≡ s) × (f' ≡ f₂) × (d' ≡ d₂) × (ws' ≡ ws₂)
  where_one_answer q = (p.answer ∙ sym q.answer, p.fcm_left ∙ sym q.fcm_left, p.dfcm_left ∙ sym q.dfcm_left, p.words_left ∙ sym q.words_left)

  -- what the tables held before plays no part
  pub where_forgets : {f₀ d₀ f₂ d₂ ws₂ : List ℕ} {s : Unpacked} → UnpacksWhere k t b f₀ d₀ ws s f₂ d₂ ws₂ → r.number ≡ 0
      → (r ≡ s) × (f' ≡ f₂) × (d' ≡ d₂) × (ws' ≡ ws₂)
  where_forgets q e =
      let z = sym where_number ∙ e in (
        p.answer ∙ sym q.answer,
        p.fcm_left ∙ afterwards-new _ _ _ z ∙ sym (q.fcm_left ∙ afterwards-new _ _ _ z),
        p.dfcm_left ∙ afterwards-new _ _ _ z ∙ sym (q.dfcm_left ∙ afterwards-new _ _ _ z),
        p.words_left ∙ sym q.words_left,
      )

pub unpacked_of : (r : Unpacked) (k n : ℕ) → r.number ≡ k → r.count ≡ n → r ≡ record { number = k; count = n }
unpacked_of r k n p q = rw (← p, ← q)

-- ---- a whole block and what stands beside it

pub stated-first : (b c : List ℕ) → 8 ≤ length b → stated_length (b ++ c) ≡ stated_length b
stated-first b c h =
    ap number (ap (λ (l : List ℕ). take 4 l) (drop-append-le 4 b c (omega arith)) ∙ take-append-le 4 (drop 4 b) c (omega (arith, length-drop 4 b)))

-- nothing can be added to a block that can be read
pub whole_alone : (b c : List ℕ) → form_number b ≡ 0 → form_number (b ++ c) ≡ 0 → length c ≡ 0
whole_alone b c e f =
    let w = form_tells b e in
    omega (arith, w.stated, (form_tells (b ++ c) f).stated, stated-first b c w.long, length-append b c)
