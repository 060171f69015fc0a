-- The directory: its entries one by one, and its rule.
use mathlib.Core.Path.{◌≡◌, refl, sym, ap, ◌∙◌}
use mathlib.Core.List.{List, [], ◌∷◌, ◌++◌}
use mathlib.Core.Bool.{Bool, true}
use Prim.Native.Nat.{ℕ, zero, suc, ◌+◌, ◌-◌, ◌^◌, ◌≤◌, ◌<◌}
use native.Mathlib.Omega.{arith}
use lib.ListN.{length, get_or, length-append}
use borrow.Author.Tests.{le-leb, leb-true, eqb-true, eq-eqb, ne_eqb}
use Rattle.answers.proofs.Checks.{unless-passes, unless_holds, none_fails, last_decides, passes}
use Rattle.exam_rules.specs.File.{Entry, entry, File, empty, appended}
use Rattle.exam_rules.specs.Reading.{entries_at, index_of}
use Rattle.exam_rules.specs.Numbers.{edition_known, joins, entries_number, directory_number, next_slot}

-- ---- how many entries are read

pub length-entries : (f : List ℕ) (n at : ℕ) → length (entries_at f at n) ≡ n
length-entries f zero at = refl
length-entries f (suc n) at = ap suc (length-entries f n (at + 12))

-- ---- what the rule tells of entries, whatever the test of how neighbours join

module _ (test : ℕ → ℕ → Bool) where
  -- the first of entries that keep the rule
  pub record Heads (lowest from : ℕ) (e : Entry) (es : List Entry) (to : ℕ) : Type 0 where
    pub slot : lowest ≤ e.slot
    pub joined : test from e.offset ≡ true
    pub size : 8 ≤ e.size
    pub rest : entries_number test (e.slot + 1) (e.offset + e.size) es to ≡ 0

  pub heads : (lowest from : ℕ) (e : Entry) (es : List Entry) (to : ℕ) → entries_number test lowest from (e ∷ es) to ≡ 0 → Heads lowest from e es to
  heads lowest from e es to z =
      let a = none_fails _ _ z in
      let b = none_fails _ _ a.1 in
      let c = none_fails _ _ b.1 in
      record {
        slot = leb-true _ _ (unless_holds _ _ a.0 (omega arith));
        joined = unless_holds _ _ b.0 (omega arith);
        size = leb-true _ _ (unless_holds _ _ c.0 (omega arith));
        rest = (none_fails _ _ c.1).0;
      }

  pub heads_keep : (lowest from : ℕ) (e : Entry) (es : List Entry) (to : ℕ) → Heads lowest from e es to → entries_number test lowest from (e ∷ es) to ≡ 0
  heads_keep lowest from e es to h =
      sym (passes _ _ _ _ (le-leb _ _ h.slot) (passes _ _ _ _ h.joined (passes _ _ _ _ (le-leb _ _ h.size) (sym h.rest ∙ last_decides _))))

  -- a block more, right after the last, where the test lets one start right at an end
  entries-more : ((n : ℕ) → test n n ≡ true) → (es : List Entry) (lowest from to slot size : ℕ) → entries_number test lowest from es to ≡ 0 → next_slot lowest es ≤ slot → 8 ≤ size
      → entries_number test lowest from (es ++ (entry slot to size ∷ [])) (to + size) ≡ 0
  entries-more meets [] lowest from to slot size z h l =
      heads_keep lowest from (entry slot to size) [] (to + size)
      (record { slot = h; joined = unless_holds _ _ z (omega arith); size = l; rest = unless-passes _ _ (meets (to + size)) })
  entries-more meets (e ∷ es) lowest from to slot size z h l =
      let k = heads lowest from e es to z in
      heads_keep lowest from e (es ++ (entry slot to size ∷ [])) (to + size)
      (record { slot = k.slot; joined = k.joined; size = k.size; rest = entries-more meets es (e.slot + 1) (e.offset + e.size) to slot size k.rest h l })

  -- what each entry keeps
  each_keeps : (lowest from : ℕ) (es : List Entry) (to i : ℕ) (d : Entry) → entries_number test lowest from es to ≡ 0 → i < length es → (lowest ≤ (get_or es i d).slot) × (8 ≤ (get_or es i d).size)
  each_keeps lowest from [] to i d z h = absurd (omega arith)
  each_keeps lowest from (e ∷ es) to zero d z h = let k = heads lowest from e es to z in (k.slot, k.size)
  each_keeps lowest from (e ∷ es) to (suc i) d z h =
      let k = heads lowest from e es to z in
      let r = each_keeps (e.slot + 1) (e.offset + e.size) es to i d k.rest (omega arith) in
      (omega (arith, k.slot, r.0), r.1)

  index_is : (lowest from : ℕ) (es : List Entry) (to i : ℕ) (d : Entry) → entries_number test lowest from es to ≡ 0 → i < length es → index_of (get_or es i d).slot es ≡ i
  index_is lowest from [] to i d z h = absurd (omega arith)
  index_is lowest from (e ∷ es) to zero d z h = rw (eq-eqb e.slot e.slot refl)
  index_is lowest from (e ∷ es) to (suc i) d z h =
      let k = heads lowest from e es to z in
      let n : i < length es = omega arith in
      rw (ne_eqb e.slot (get_or es i d).slot (λ q. omega (arith, (each_keeps (e.slot + 1) (e.offset + e.size) es to i d k.rest n).0))) (ap suc (index_is (e.slot + 1) (e.offset + e.size) es to i d k.rest n))

-- a test by which what comes next starts no earlier than what came before ends, and which says the same of both moved by one distance
pub record Forward (test : ℕ → ℕ → Bool) : Type 0 where
  pub up : (end next : ℕ) → test end next ≡ true → end ≤ next
  pub along : (end next old n : ℕ) → old ≤ end → test end next ≡ true → test (end + n - old) (next + n - old) ≡ true

module _ {test : ℕ → ℕ → Bool} (forward : Forward test) where
  pub ends-before : (lowest from : ℕ) (es : List Entry) (to : ℕ) → entries_number test lowest from es to ≡ 0 → from ≤ to
  ends-before lowest from [] to z = forward.up from to (unless_holds _ _ z (omega arith))
  ends-before lowest from (e ∷ es) to z =
      let h = heads test lowest from e es to z in
      omega (arith, forward.up _ _ h.joined, ends-before (e.slot + 1) (e.offset + e.size) es to h.rest)

  within : (lowest from : ℕ) (es : List Entry) (to i : ℕ) (d : Entry) → entries_number test lowest from es to ≡ 0 → i < length es → (get_or es i d).offset + (get_or es i d).size ≤ to
  within lowest from [] to i d z h = absurd (omega arith)
  within lowest from (e ∷ es) to zero d z h = ends-before (e.slot + 1) (e.offset + e.size) es to (heads test lowest from e es to z).rest
  within lowest from (e ∷ es) to (suc i) d z h = within (e.slot + 1) (e.offset + e.size) es to i d (heads test lowest from e es to z).rest (omega arith)

  -- entries start in order, each behind the end of those before
  starts-behind : (lowest from : ℕ) (es : List Entry) (to j : ℕ) (d : Entry) → entries_number test lowest from es to ≡ 0 → j < length es → from ≤ (get_or es j d).offset
  starts-behind lowest from [] to j d z h = absurd (omega arith)
  starts-behind lowest from (e ∷ es) to zero d z h = forward.up _ _ (heads test lowest from e es to z).joined
  starts-behind lowest from (e ∷ es) to (suc j) d z h =
      let k = heads test lowest from e es to z in
      omega (arith, forward.up _ _ k.joined, starts-behind (e.slot + 1) (e.offset + e.size) es to j d k.rest (omega arith))

  in_order : (lowest from : ℕ) (es : List Entry) (to i j : ℕ) (d : Entry) → entries_number test lowest from es to ≡ 0 → i < j → j < length es
      → (get_or es i d).offset + (get_or es i d).size ≤ (get_or es j d).offset
  in_order lowest from [] to i j d z h k = absurd (omega arith)
  in_order lowest from (e ∷ es) to i zero d z h k = absurd (omega arith)
  in_order lowest from (e ∷ es) to zero (suc j) d z h k = starts-behind (e.slot + 1) (e.offset + e.size) es to j d (heads test lowest from e es to z).rest (omega arith)
  in_order lowest from (e ∷ es) to (suc i) (suc j) d z h k = in_order (e.slot + 1) (e.offset + e.size) es to i j d (heads test lowest from e es to z).rest (omega arith) (omega arith)

-- ---- the test of edition 1

pub joins_equal : (end next : ℕ) → joins end next ≡ true → end ≡ next
unfolding joins
joins_equal end next e = eqb-true end next e

pub equal_joins : (end next : ℕ) → end ≡ next → joins end next ≡ true
unfolding joins
equal_joins end next e = eq-eqb end next e

pub joins_forward : Forward joins
joins_forward =
    record {
      up = λ end next e. omega (arith, joins_equal end next e);
      along = λ end next old n h e. equal_joins _ _ (ap (λ (k : ℕ). k + n - old) (joins_equal end next e));
    }

-- ---- the rule, as the calls use it

pub edition-one : edition_known 1 ≡ true
unfolding edition_known
edition-one = refl

pub edition-is : (d : ℕ) → edition_known d ≡ true → d ≡ 1
unfolding edition_known
edition-is d e = eqb-true d 1 e

pub edition-small : (d : ℕ) → edition_known d ≡ true → d < 2 ^ 16
unfolding edition_known
edition-small d e = omega (arith, eqb-true d 1 e)

pub directory-empty : (exam t : ℕ) → directory_number (empty exam t) ≡ 0
unfolding directory_number
directory-empty exam t = unless-passes _ _ (equal_joins 0 0 refl)

-- a block more, after the last
pub directory-more : (f : File) (slot : ℕ) (b : List ℕ) → directory_number f ≡ 0 → next_slot 0 f.entries ≤ slot → 8 ≤ length b → directory_number (appended f slot b) ≡ 0
unfolding directory_number
directory-more f slot b z h l =
    let lb : length (f.body ++ b) ≡ length f.body + length b = length-append f.body b in
    rw lb (entries-more joins (λ n. equal_joins n n refl) f.entries 0 0 (length f.body) slot (length b) z h l)

-- every block ends before the directory
pub block_within : (f : File) (i : ℕ) (d : Entry) → directory_number f ≡ 0 → i < length f.entries → (get_or f.entries i d).offset + (get_or f.entries i d).size ≤ length f.body
unfolding directory_number
block_within f i d z h = within joins_forward 0 0 f.entries (length f.body) i d z h

-- every block has at least 8 bytes
pub block-long : (f : File) (i : ℕ) (d : Entry) → directory_number f ≡ 0 → i < length f.entries → 8 ≤ (get_or f.entries i d).size
unfolding directory_number
block-long f i d z h = (each_keeps joins 0 0 f.entries (length f.body) i d z h).1

-- every entry is found by its slot
pub index_of_entry : (f : File) (i : ℕ) (d : Entry) → directory_number f ≡ 0 → i < length f.entries → index_of (get_or f.entries i d).slot f.entries ≡ i
unfolding directory_number
index_of_entry f i d z h = index_is joins 0 0 f.entries (length f.body) i d z h

-- blocks stand in order, none within another
pub blocks-in_order : (f : File) (i j : ℕ) (d : Entry) → directory_number f ≡ 0 → i < j → j < length f.entries
    → (get_or f.entries i d).offset + (get_or f.entries i d).size ≤ (get_or f.entries j d).offset
unfolding directory_number
blocks-in_order f i j d z h k = in_order joins_forward 0 0 f.entries (length f.body) i j d z h k
