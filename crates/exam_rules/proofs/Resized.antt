-- Entries of which one block got another size, and the file with another block there.
use mathlib.Core.Path.{◌≡◌, refl, sym, ap, ◌∙◌}
use mathlib.Core.List.{List, [], ◌∷◌, ◌++◌, map, append_assoc}
use mathlib.Core.Bool.{Bool}
use Prim.Native.Nat.{ℕ, zero, suc, ◌+◌, ◌-◌, ◌^◌, ◌≤◌, ◌<◌}
use native.Mathlib.Omega.{arith}
use lib.Dec.{eqb, ltb}
use lib.ListN.{length, get_or, take, drop, length-append, length-map, length-drop, get_or-map}
use lib.Seq.{length-take-le, drop-drop, drop-append-add, take-append_seam, take_at, drop_at}
use borrow.Author.Tests.{eqb-true, eqb-false, ltb-true, ltb-false}
use Rattle.words.proofs.Each.{Each, none, more}
use Rattle.words.proofs.Tests.{either}
use Rattle.answers.proofs.Checks.{unless-passes, unless_holds}
use Rattle.exam_rules.specs.File.{Entry, entry, File, file_length, block_of, moved, resized, replaced}
use Rattle.exam_rules.specs.Reading.{index_of, entry_of}
use Rattle.exam_rules.specs.Numbers.{joins, entries_number, directory_number}
use Rattle.exam_rules.proofs.Directory.{Forward, joins_forward, heads, heads_keep, ends-before, block_within, block-long, blocks-in_order}
use Rattle.exam_rules.proofs.Parts.{no_default, part_of_first}
use Rattle.exam_rules.proofs.Back.{Small}

-- ---- the entries one by one

index-moved : (old n s : ℕ) (es : List Entry) → index_of s (map (moved old n) es) ≡ index_of s es
index-moved old n s [] = refl
index-moved old n s (e ∷ es) = rw (index-moved old n s es)

module _ (slot n : ℕ) where
  pub length-resized : (es : List Entry) → length (resized slot n es) ≡ length es
  length-resized [] = refl
  length-resized (e ∷ es) = either (eqb e.slot slot) (λ q. rw q (ap suc (length-map es (moved e.size n)))) (λ q. rw q (ap suc (length-resized es)))

  -- every slot stands where it stood
  index-resized : (s : ℕ) (es : List Entry) → index_of s (resized slot n es) ≡ index_of s es
  index-resized s [] = refl
  index-resized s (e ∷ es) = either (eqb e.slot slot) (λ q. rw (q, index-moved e.size n s es)) (λ q. rw (q, index-resized s es))

  -- an entry before is kept
  resized-before : (es : List Entry) (j : ℕ) (d : Entry) → j < index_of slot es → get_or (resized slot n es) j d ≡ get_or es j d
  resized-before [] j d = λ h. absurd (omega arith)
  resized-before (e ∷ es) zero d = either (eqb e.slot slot) (λ q. rw q (λ h. absurd (omega arith))) (λ q. rw q (λ h. refl))
  resized-before (e ∷ es) (suc j) d = either (eqb e.slot slot) (λ q. rw q (λ h. absurd (omega arith))) (λ q. rw q (λ h. resized-before es j d (omega arith)))

  -- the slot's own has the new size
  resized-own : (es : List Entry) (d : Entry) → index_of slot es < length es
      → get_or (resized slot n es) (index_of slot es) d ≡ entry (get_or es (index_of slot es) d).slot (get_or es (index_of slot es) d).offset n
  resized-own [] d = λ h. absurd (omega arith)
  resized-own (e ∷ es) d = either (eqb e.slot slot) (λ q. rw q (λ h. refl)) (λ q. rw q (λ h. resized-own es d (omega arith)))

  -- an entry behind moves by the difference
  resized-behind : (es : List Entry) (j : ℕ) (d : Entry) → index_of slot es < j → j < length es
      → get_or (resized slot n es) j d ≡ moved (get_or es (index_of slot es) d).size n (get_or es j d)
  resized-behind [] j d = λ h k. absurd (omega arith)
  resized-behind (e ∷ es) zero d = λ h k. absurd (omega arith)
  resized-behind (e ∷ es) (suc j) d =
      either (eqb e.slot slot)
      (λ q. rw q (λ h k. no_default (map (moved e.size n) es) j d _ (omega (arith, length-map es (moved e.size n))) ∙ get_or-map (moved e.size n) es j d))
      (λ q. rw q (λ h k. resized-behind es j d (omega arith) (omega arith)))

-- ---- the directory's rule

module _ {test : ℕ → ℕ → Bool} (forward : Forward test) where
  moved_keep : (old n lowest from : ℕ) (es : List Entry) (to : ℕ) → entries_number test lowest from es to ≡ 0 → old ≤ from
      → entries_number test lowest (from + n - old) (map (moved old n) es) (to + n - old) ≡ 0
  moved_keep old n lowest from [] to z h = unless-passes _ _ (forward.along from to old n h (unless_holds _ _ z (omega arith)))
  moved_keep old n lowest from (e ∷ es) to z h =
      let k = heads test lowest from e es to z in
      let u = forward.up _ _ k.joined in
      let same : e.offset + n - old + e.size ≡ e.offset + e.size + n - old = omega arith in
      heads_keep test lowest (from + n - old) (moved old n e) (map (moved old n) es) (to + n - old)
      (record {
        slot = k.slot;
        joined = forward.along from e.offset old n h k.joined;
        size = k.size;
        rest = rw same (moved_keep old n (e.slot + 1) (e.offset + e.size) es to k.rest (omega arith));
      })

  resized_keep : (slot n lowest from : ℕ) (es : List Entry) (to : ℕ) (d : Entry) → entries_number test lowest from es to ≡ 0 → index_of slot es < length es → 8 ≤ n
      → entries_number test lowest from (resized slot n es) (to + n - (get_or es (index_of slot es) d).size) ≡ 0
  resized_keep slot n lowest from [] to d z = λ h g. absurd (omega arith)
  resized_keep slot n lowest from (e ∷ es) to d z =
      let k = heads test lowest from e es to z in
      either (eqb e.slot slot)
      (λ q.
      rw q
      (λ h g.
      let same : e.offset + e.size + n - e.size ≡ e.offset + n = omega arith in
      heads_keep test lowest from (entry e.slot e.offset n) (map (moved e.size n) es) (to + n - e.size)
      (record {
        slot = k.slot;
        joined = k.joined;
        size = g;
        rest = rw same at (moved_keep e.size n (e.slot + 1) (e.offset + e.size) es to k.rest (omega arith));
      })))
      (λ q.
      rw q
      (λ h g.
      heads_keep test lowest from e (resized slot n es) _
      (record {
        slot = k.slot;
        joined = k.joined;
        size = k.size;
        rest = resized_keep slot n (e.slot + 1) (e.offset + e.size) es to d k.rest (omega arith) g;
      })))

-- ---- the file with another block

-- a slot that is found is its entry's
pub found-slot : (slot : ℕ) (es : List Entry) (d : Entry) → index_of slot es < length es → (get_or es (index_of slot es) d).slot ≡ slot
found-slot slot [] d = λ h. absurd (omega arith)
found-slot slot (e ∷ es) d = either (eqb e.slot slot) (λ q. rw q (λ h. eqb-true _ _ q)) (λ q. rw q (λ h. found-slot slot es d (omega arith)))

-- slots that fit their field still do, and so does all else of entries that keep the rule below 2 ^ 32
slots_moved : (old n : ℕ) (es : List Entry) → Each Small es → Each (λ (e : Entry). e.slot < 2 ^ 32) (map (moved old n) es)
slots_moved old n [] s = none
slots_moved old n (e ∷ es) (more x s) = more x.slot (slots_moved old n es s)

slots_resized : (slot n : ℕ) (es : List Entry) → Each Small es → Each (λ (e : Entry). e.slot < 2 ^ 32) (resized slot n es)
slots_resized slot n [] s = none
slots_resized slot n (e ∷ es) (more x s) =
    either (eqb e.slot slot) (λ q. rw q (more x.slot (slots_moved e.size n es s))) (λ q. rw q (more x.slot (slots_resized slot n es s)))

smalls_keep : (lowest from : ℕ) (es : List Entry) (to : ℕ) → entries_number joins lowest from es to ≡ 0 → to < 2 ^ 32 → Each (λ (e : Entry). e.slot < 2 ^ 32) es → Each Small es
smalls_keep lowest from [] to z h s = none
smalls_keep lowest from (e ∷ es) to z h (more x s) =
    let k = heads joins lowest from e es to z in
    let w = ends-before joins_forward (e.slot + 1) (e.offset + e.size) es to k.rest in
    let small : Small e = record { slot = x; offset = omega (arith, k.size); size = omega arith } in
    more small (smalls_keep (e.slot + 1) (e.offset + e.size) es to k.rest h s)

module _ (f : File) (slot : ℕ) (b : List ℕ) (z : directory_number f ≡ 0) (h : index_of slot f.entries < length f.entries) where
  abbrev i : ℕ
  i = index_of slot f.entries

  abbrev its : Entry
  its = entry_of slot f

  abbrev new : File
  new = replaced f its b

  its-slot : its.slot ≡ slot
  unfolding entry_of
  its-slot = found-slot slot f.entries (entry slot 0 0) h

  its-ends : its.offset + its.size ≤ length f.body
  unfolding entry_of
  its-ends = block_within f i (entry slot 0 0) z h

  head_long : length (take its.offset f.body) ≡ its.offset
  head_long = length-take-le its.offset f.body (omega (arith, its-ends))

  body-replaced : length new.body + its.size ≡ length f.body + length b
  body-replaced =
      let x = take its.offset f.body in
      omega (arith, length-append (x ++ b) (drop (its.offset + its.size) f.body), length-append x b, head_long, length-drop (its.offset + its.size) f.body, its-ends)

  pub length-replaced : file_length new + its.size ≡ file_length f + length b
  length-replaced = omega (arith, body-replaced, length-resized its.slot (length b) f.entries)

  pub directory-replaced : 8 ≤ length b → directory_number new ≡ 0
  unfolding directory_number entry_of
  directory-replaced g =
      let e : length f.body + length b - its.size ≡ length new.body = omega (arith, body-replaced) in
      rw (its-slot, ← e) (resized_keep joins_forward slot (length b) 0 0 f.entries (length f.body) (entry slot 0 0) z h g)

  pub smalls-replaced : 8 ≤ length b → file_length new < 2 ^ 32 → Each Small f.entries → Each Small new.entries
  unfolding directory_number
  smalls-replaced g l s = smalls_keep 0 0 new.entries (length new.body) (directory-replaced g) (omega arith) (slots_resized its.slot (length b) f.entries s)

  -- every slot stands where it stood
  pub index-replaced : (s : ℕ) → index_of s new.entries ≡ index_of s f.entries
  index-replaced s = index-resized its.slot (length b) s f.entries

  -- the slot's own entry, and its block
  pub own-entry : entry_of slot new ≡ entry slot its.offset (length b)
  unfolding entry_of
  own-entry = rw (index-replaced slot, its-slot) (resized-own slot (length b) f.entries (entry slot 0 0) h ∙ rw its-slot)

  pub own_block : block_of new (entry_of slot new) ≡ b
  unfolding block_of
  own_block =
      let x = take its.offset f.body in
      let y = drop (its.offset + its.size) f.body in
      rw own-entry (ap (λ (l : List ℕ). take (length b) l) (ap (λ (l : List ℕ). drop its.offset l) (append_assoc x b y) ∙ drop_at x (b ++ y) its.offset head_long) ∙ take-append_seam b y)

  -- the others: those before stay, those behind move with their bytes
  module _ (s : ℕ) (k : index_of s f.entries < length f.entries) where
    abbrev j : ℕ
    j = index_of s f.entries

    abbrev other : Entry
    other = entry_of s f

    entry-before : j < i → entry_of s new ≡ other
    unfolding entry_of
    entry-before q = rw (index-replaced s, its-slot) (resized-before slot (length b) f.entries j (entry s 0 0) q)

    entry-behind : i < j → entry_of s new ≡ moved its.size (length b) other
    unfolding entry_of
    entry-behind q =
        rw (index-replaced s, its-slot)
        (resized-behind slot (length b) f.entries j (entry s 0 0) q k
        ∙ ap (λ (e : Entry). moved e.size (length b) other) (no_default f.entries i (entry s 0 0) (entry slot 0 0) h))

    order-before : j < i → other.offset + other.size ≤ its.offset
    unfolding entry_of
    order-before q = rw (no_default f.entries i (entry slot 0 0) (entry s 0 0) h) (blocks-in_order f j i (entry s 0 0) z q h)

    order-behind : i < j → its.offset + its.size ≤ other.offset
    unfolding entry_of
    order-behind q = rw (no_default f.entries j (entry s 0 0) (entry slot 0 0) k) (blocks-in_order f i j (entry slot 0 0) z q k)

    block-before : j < i → block_of new (entry_of s new) ≡ block_of f other
    unfolding block_of
    block-before q =
        let x = take its.offset f.body in
        let y = drop (its.offset + its.size) f.body in
        let front : take its.offset new.body ≡ x = ap (λ (l : List ℕ). take its.offset l) (append_assoc x b y) ∙ take_at x (b ++ y) its.offset head_long in
        rw (entry-before q)
        (sym (part_of_first other.size other.offset its.offset new.body (order-before q))
        ∙ ap (λ (l : List ℕ). take other.size (drop other.offset l)) front
        ∙ part_of_first other.size other.offset its.offset f.body (order-before q))

    block-behind : i < j → block_of new (entry_of s new) ≡ block_of f other
    unfolding block_of
    block-behind q =
        let x = take its.offset f.body in
        let y = drop (its.offset + its.size) f.body in
        let on = other.offset - (its.offset + its.size) in
        let lx : length (x ++ b) ≡ its.offset + length b = length-append x b ∙ ap (λ (k : ℕ). k + length b) head_long in
        let new-place : other.offset + length b - its.size ≡ length (x ++ b) + on = omega (arith, lx, order-behind q) in
        let old-place : its.offset + its.size + on ≡ other.offset = omega (arith, order-behind q) in
        rw (entry-behind q)
        (ap (λ (l : List ℕ). take other.size l)
        (ap (λ (k : ℕ). drop k new.body) new-place
        ∙ drop-append-add (x ++ b) y on
        ∙ drop-drop on (its.offset + its.size) f.body
        ∙ ap (λ (k : ℕ). drop k f.body) old-place))

    -- where the two slots differ, one stands before the other
    one-before : {A : Type 0} → (s ≡ slot → ⊥) → (j < i → A) → (i < j → A) → A
    one-before {A} q before behind =
        either (ltb j i) (λ e. before (ltb-true j i e))
        (λ e.
        either (eqb j i)
        (λ g. absurd (q (sym (found-slot s f.entries (entry s 0 0) k) ∙ ap (λ (n : ℕ). (get_or f.entries n (entry s 0 0)).slot) (eqb-true j i g) ∙ found-slot slot f.entries (entry s 0 0) h)))
        (λ g. behind (omega (arith, ltb-false j i e, eqb-false j i g))))

    pub other-size : (s ≡ slot → ⊥) → (entry_of s new).size ≡ other.size
    other-size q = one-before q (λ e. ap (λ (x : Entry). x.size) (entry-before e)) (λ e. ap (λ (x : Entry). x.size) (entry-behind e))

    pub other-slot : (s ≡ slot → ⊥) → (entry_of s new).slot ≡ other.slot
    other-slot q = one-before q (λ e. ap (λ (x : Entry). x.slot) (entry-before e)) (λ e. ap (λ (x : Entry). x.slot) (entry-behind e))

    pub other_block : (s ≡ slot → ⊥) → block_of new (entry_of s new) ≡ block_of f other
    other_block q = one-before q block-before block-behind

    pub offset-before : (s ≡ slot → ⊥) → other.offset ≤ its.offset → (entry_of s new).offset ≡ other.offset
    unfolding entry_of
    offset-before q g = one-before q (λ e. ap (λ (x : Entry). x.offset) (entry-before e)) (λ e. absurd (omega (arith, order-behind e, block-long f i (entry slot 0 0) z h)))

    pub offset-behind : (s ≡ slot → ⊥) → its.offset < other.offset → (entry_of s new).offset + its.size ≡ other.offset + length b
    offset-behind q g = one-before q (λ e. absurd (omega (arith, order-before e))) (λ e. rw (entry-behind e) (omega (arith, order-behind e)))
