-- Opening: what a number of 0 tells, and what is read then.
use mathlib.Core.Path.{◌≡◌, refl, sym, ap, ◌∙◌}
use mathlib.Core.List.{List}
use mathlib.Core.Bool.{true}
use Prim.Native.Nat.{ℕ, ◌+◌, ◌-◌, ◌*◌, ◌≤◌, ◌<◌}
use native.Mathlib.Omega.{arith}
use lib.ListN.{length, take}
use lib.Seq.{length-take-le}
use lib.Dec.{eqb}
use borrow.Author.Tests.{leb-true, ltb-true, eqb-true, eqb-false, le-leb, lt-ltb, eq-eqb}
use Rattle.words.specs.Bytes.{same_bytes}
use Rattle.words.proofs.Tests.{either}
use Rattle.answers.proofs.Checks.{unless_holds, fails_later, none_fails, last_decides, all_pass, passes, afterwards-new, afterwards-old}
use Rattle.exam_rules.specs.File.{mark, file_length}
use Rattle.exam_rules.specs.Reading.{mark_in, edition_in, t_in, exam_in, distance_in, entries_in, length_in, directory_at, entries_at, file_in}
use Rattle.exam_rules.specs.Numbers.{most_bytes, edition_known, fields_number, trailer_number, joins, entries_number, directory_number, open_number, open_in_number}
use Rattle.exam_rules.specs.Calls.{trailer_of, opened, Done, Refused}
use Rattle.exam_rules.specs.Inside.{Standing}
use Rattle.exam_rules.specs.declared.Trailer.{Trailer}
use Rattle.exam_rules.proofs.Directory.{length-entries}

-- ---- the trailer

pub record Trails (f : List ℕ) : Type 0 where
  pub long : 32 ≤ length f
  pub small : length f ≤ most_bytes
  pub marked : same_bytes (mark_in f) mark ≡ true
  pub edition : edition_known (edition_in f) ≡ true
  pub t : t_in f ≤ 16
  pub few : entries_in f ≤ 1024
  pub distance : distance_in f ≡ 32 + 12 * entries_in f
  pub within : distance_in f ≤ length f
  pub stated : length_in f ≡ length f

pub trails : (f : List ℕ) → trailer_number f ≡ 0 → Trails f
unfolding trailer_number fields_number
trails f z =
    let a = none_fails _ _ z in
    let b = none_fails _ _ a.1 in
    let c = none_fails _ _ b.1 in
    let d = none_fails _ _ (none_fails _ _ c.1).0 in
    let e = none_fails _ _ d.1 in
    let g = none_fails _ _ e.1 in
    let h = none_fails _ _ g.1 in
    let i = none_fails _ _ h.1 in
    record {
      long = leb-true _ _ (unless_holds _ _ a.0 (omega arith));
      small = leb-true _ _ (unless_holds _ _ b.0 (omega arith));
      marked = unless_holds _ _ c.0 (omega arith);
      edition = unless_holds _ _ d.0 (omega arith);
      t = leb-true _ _ (unless_holds _ _ e.0 (omega arith));
      few = leb-true _ _ (unless_holds _ _ g.0 (omega arith));
      distance = eqb-true _ _ (unless_holds _ _ h.0 (omega arith));
      within = leb-true _ _ (unless_holds _ _ i.0 (omega arith));
      stated = eqb-true _ _ (unless_holds _ _ (none_fails _ _ i.1).0 (omega arith));
    }

pub trails_keep : (f : List ℕ) → Trails f → trailer_number f ≡ 0
unfolding trailer_number fields_number
trails_keep f r =
    let inner =
    passes _ _ _ _ r.edition
    (passes _ _ _ _ (le-leb _ _ r.t)
    (passes _ _ _ _ (le-leb _ _ r.few)
    (passes _ _ _ _ (eq-eqb _ _ r.distance) (passes _ _ _ _ (le-leb _ _ r.within) (passes _ _ _ _ (eq-eqb _ _ r.stated) all_pass))))) in
    sym (passes _ _ _ _ (le-leb _ _ r.long) (passes _ _ _ _ (le-leb _ _ r.small) (passes _ _ _ _ r.marked (inner ∙ last_decides _))))

-- the directory stands between the blocks and the trailer
pub trails-ends : (f : List ℕ) → Trails f → directory_at f + 12 * entries_in f + 32 ≡ length f
trails-ends f r = omega (arith, r.distance, r.within)

pub t_in_lem : (f : List ℕ) → (file_in f).t ≡ t_in f
unfolding file_in
t_in_lem f = refl

pub body-long : (f : List ℕ) → length (file_in f).body ≡ directory_at f
unfolding file_in
body-long f = length-take-le (directory_at f) f (omega arith)

pub entries-many : (f : List ℕ) → length (file_in f).entries ≡ entries_in f
unfolding file_in
entries-many f = length-entries f (entries_in f) (directory_at f)

pub parts-long : (f : List ℕ) → Trails f → file_length (file_in f) ≡ length f
parts-long f r = omega (arith, body-long f, entries-many f, trails-ends f r)

pub trailer-is : (f : List ℕ) (edition t entries distance : ℕ) → edition ≡ edition_in f → t ≡ t_in f → entries ≡ entries_in f → distance ≡ distance_in f
    → record { edition = edition; t = t; entries = entries; start = length f - distance } ≡ trailer_of (file_in f)
unfolding file_in
trailer-is f edition t entries distance a b c d = rw (length-entries f (entries_in f) (directory_at f), length-take-le (directory_at f) f (omega arith)) (cc)

pub directory-is : (f : List ℕ) → directory_number (file_in f) ≡ entries_number joins 0 0 (entries_at f (directory_at f) (entries_in f)) (directory_at f)
unfolding directory_number file_in
directory-is f = rw (length-take-le (directory_at f) f (omega arith))

-- ---- opening

pub record Opens (f : List ℕ) (exam : ℕ) : Type 0 where
  pub trailer : Trails f
  pub named : 0 < exam
  pub own : exam_in f ≡ exam
  pub directory : directory_number (file_in f) ≡ 0

pub opens : (f : List ℕ) (exam : ℕ) → open_number f exam ≡ 0 → Opens f exam
unfolding open_number
opens f exam z =
    let a = none_fails _ _ z in
    let b = none_fails _ _ a.1 in
    let c = none_fails _ _ b.1 in
    record {
      trailer = trails f a.0;
      named = ltb-true _ _ (unless_holds _ _ b.0 (omega arith));
      own = eqb-true _ _ (unless_holds _ _ c.0 (omega arith));
      directory = (none_fails _ _ c.1).0;
    }

pub opens_keep : (f : List ℕ) (exam : ℕ) → Opens f exam → open_number f exam ≡ 0
unfolding open_number
opens_keep f exam o =
    sym
    (fails_later _ _ _ (trails_keep f o.trailer)
    (passes _ _ _ _ (lt-ltb _ _ o.named) (passes _ _ _ _ (eq-eqb _ _ o.own) (sym o.directory ∙ last_decides _))))

-- the first l bytes of a buffer
pub record OpensIn (b : List ℕ) (l exam : ℕ) : Type 0 where
  pub within : l ≤ length b
  pub long : length (take l b) ≡ l
  pub is : Opens (take l b) exam

pub opens_in : (b : List ℕ) (l exam : ℕ) → open_in_number b l exam ≡ 0 → OpensIn b l exam
unfolding open_in_number
opens_in b l exam z =
    let a = none_fails _ _ z in
    let h = leb-true _ _ (unless_holds _ _ a.0 (omega arith)) in
    record { within = h; long = length-take-le l b h; is = opens _ _ (none_fails _ _ a.1).0 }

pub opens_in_keep : (b : List ℕ) (l exam : ℕ) → l ≤ length b → Opens (take l b) exam → open_in_number b l exam ≡ 0
unfolding open_in_number
opens_in_keep b l exam h o = sym (passes _ _ _ _ (le-leb _ _ h) (sym (opens_keep _ _ o) ∙ last_decides _))

-- ---- the answer

pub open_refused : (b : List ℕ) (l exam k : ℕ) → k ≡ open_in_number b l exam → (k ≡ 0 → ⊥) → Refused k ≡ opened b l exam
unfolding opened
open_refused b l exam k e h = ap Refused e ∙ sym (afterwards-old _ _ _ (λ z. h (e ∙ z)))

pub open_done : (b : List ℕ) (l exam : ℕ) (tr : Trailer) → open_in_number b l exam ≡ 0 → tr ≡ trailer_of (file_in (take l b)) → Done tr ≡ opened b l exam
unfolding opened
open_done b l exam tr z e = ap Done e ∙ sym (afterwards-new _ _ _ z)

-- ---- what an answer tells

pub refused-tells : (b : List ℕ) (l exam k : ℕ) → opened b l exam ≡ Refused k → (k ≡ open_in_number b l exam) × (k ≡ 0 → ⊥)
unfolding opened
refused-tells b l exam k e =
    let n = open_in_number b l exam in
    either (eqb n 0)
    (λ q. absurd (let d = sym (afterwards-new _ _ _ (eqb-true n 0 q)) ∙ e in let z : ◌≡◌ {A = ℕ} 0 1 = cc in omega arith))
    (λ q. let d = sym (afterwards-old _ _ _ (eqb-false n 0 q)) ∙ e in let s : k ≡ n = cc in (s, λ z. eqb-false n 0 q (sym s ∙ z)))

pub done-tells : (b : List ℕ) (l exam : ℕ) (tr : Trailer) → opened b l exam ≡ Done tr → (open_in_number b l exam ≡ 0) × (tr ≡ trailer_of (file_in (take l b)))
unfolding opened
done-tells b l exam tr e =
    let n = open_in_number b l exam in
    either (eqb n 0)
    (λ q. let d = sym (afterwards-new _ _ _ (eqb-true n 0 q)) ∙ e in let s : tr ≡ trailer_of (file_in (take l b)) = cc in (eqb-true n 0 q, s))
    (λ q. absurd (let d = sym (afterwards-old _ _ _ (eqb-false n 0 q)) ∙ e in let z : ◌≡◌ {A = ℕ} 0 1 = cc in omega arith))

-- an opened file stands
pub standing : (b : List ℕ) (l exam : ℕ) (tr : Trailer) → opened b l exam ≡ Done tr → Standing (take l b) tr
standing b l exam tr e =
    let d = done-tells b l exam tr e in
    let o = (opens_in b l exam d.0).is in
    record { trailer = d.1; rules = trails_keep _ o.trailer; directory = o.directory }
