-- Records that go into a file that opens and keeps the rules: it stays so, and they are appended one after another.
use mathlib.Core.Path.{◌≡◌, refl, sym, ap, ◌∙◌}
use mathlib.Core.List.{List, [], ◌∷◌, ◌++◌}
use Prim.Native.Nat.{ℕ, ◌+◌, ◌^◌, ◌≤◌, ◌<◌}
use native.Mathlib.Omega.{arith}
use native.Mathlib.Nat.{add-zero}
use lib.ListN.{length, take, drop, length-append, length-drop}
use borrow.Author.Tests.{leb-true}
use Rattle.words.specs.Bytes.{Bytes}
use Rattle.words.proofs.Each.{Each, more}
use Rattle.words.proofs.Bytes.{bytes_take}
use Rattle.answers.specs.Answers.{over}
use Rattle.answers.proofs.Checks.{unless_holds, none_fails, afterwards-new, afterwards-old}
use Rattle.block_rules.specs.Predictors.{cleared}
use Rattle.block_rules.specs.Block.{block}
use Rattle.block_rules.proofs.Learn.{held-cleared, held_after}
use Rattle.block_rules.proofs.Lengths.{block-at_most}
use Rattle.exam_rules.specs.File.{Entry, entry, File, file_bytes, appended}
use Rattle.exam_rules.specs.Reading.{file_in, entry_of}
use Rattle.exam_rules.specs.Numbers.{open_in_number, find_number, block_in, next_slot, record_number}
use Rattle.exam_rules.specs.Calls.{Lent, appends_number, Appends, words_of, record_appends_number, record_appended, filled, Made}
use Rattle.exam_rules.specs.declared.Record.{Record}
use Rattle.exam_rules.proofs.Opens.{opens_in, parts-long}
use Rattle.exam_rules.proofs.Lengths.{length-file}
use Rattle.exam_rules.proofs.Changes.{changes_number}
use Rattle.exam_rules.proofs.Accept.{append-takes, foretold}
use Rattle.exam_rules.proofs.Filling.{record_numbered, words_long, record_to_append}
use Rattle.exam_rules.proofs.Chain.{Goes, done, stopped, went}
use Rattle.exam_rules.proofs.Back.{Good}
use Rattle.exam_rules.proofs.Holds.{Holds, holds-length, holds_parts, holds-opens, appended-holds}
use Rattle.exam_rules.proofs.Kept.{good_read, good-opens, good-keeps, good-finds}

-- ---- a file that stays open

-- the first l bytes of a buffer open for an exam, and are a file that keeps the rules and fits its fields
pub record Fillable (b : List ℕ) (l exam : ℕ) : Type 0 where
  pub opens : open_in_number b l exam ≡ 0
  pub good : Good (file_in (take l b))

pub read_fillable : (b : List ℕ) (l exam : ℕ) → Bytes b → open_in_number b l exam ≡ 0 → Fillable b l exam
read_fillable b l exam h o = record { opens = o; good = good_read (take l b) exam (bytes_take l b h) (opens_in b l exam o).is }

pub holds_fillable : {b : List ℕ} {l : ℕ} {f : File} → Holds b l f → Fillable b l f.exam
holds_fillable h = record { opens = holds-opens h; good = rw (holds_parts h) h.good }

pub appended_fillable : {b : List ℕ} {l exam slot : ℕ} {words fcm dfcm bench b' fcm' dfcm' bench' : List ℕ} {m : Made} → Fillable b l exam → slot < 2 ^ 32
    → Appends b l exam slot words fcm dfcm bench m b' fcm' dfcm' bench' → m.number ≡ 0 → Fillable b' m.length exam
appended_fillable f w c z = let h = appended-holds f.good w c z in record { opens = good-opens f.good w c z; good = rw (holds_parts h) h.good }

-- a record that goes in reaches no further than the words, and is appended
pub record Went (exam : ℕ) (words : List ℕ) (r : Record) (l : ℕ) (s : Lent) (m : Made) (s' : Lent) : Type 0 where
  pub inside : r.first + r.count ≤ length words
  pub appends : Appends s.file l exam r.slot (words_of r words) s.fcm s.dfcm s.bench m s'.file s'.fcm s'.dfcm s'.bench

pub it_went : (exam : ℕ) (words : List ℕ) (r : Record) (l : ℕ) (s : Lent) {m : Made} {s' : Lent} → open_in_number s.file l exam ≡ 0
    → (m, s') ≡ record_appended words r l s → m.number ≡ 0 → Went exam words r l s m s'
unfolding record_number
it_went exam words r l s o e z =
    let n : record_appends_number words r l s ≡ 0 = sym (ap (λ (p : Made × Lent). p.0.number) e ∙ record_numbered words r l s) ∙ z in
    let h : r.first + r.count ≤ length words = leb-true _ _ (unless_holds _ _ (none_fails _ _ n).0 (omega arith)) in
    record { inside = h; appends = record_to_append words r l s h o e }

-- ---- what an append leaves, in numbers

next-after : (lowest : ℕ) (es : List Entry) (e : Entry) → next_slot lowest (es ++ (e ∷ [])) ≡ e.slot + 1
next-after lowest [] e = refl
next-after lowest (x ∷ es) e = next-after (x.slot + 1) es e

over-long : (x b : List ℕ) → length x ≤ length b → length (over x b) ≡ length b
over-long x b h = length-append x (drop (length x) b) ∙ rw length-drop (omega arith)

-- the same t, one entry more, the slot after its own, the file longer by an entry and the block, and everything lent as long as it was
pub record Leaves (b : List ℕ) (l slot : ℕ) (words fcm dfcm bench : List ℕ) (m : Made) (b' fcm' dfcm' bench' : List ℕ) : Type 0 where
  pub t : (file_in (take m.length b')).t ≡ (file_in (take l b)).t
  pub entries : length (file_in (take m.length b')).entries ≡ length (file_in (take l b)).entries + 1
  pub next : next_slot 0 (file_in (take m.length b')).entries ≡ slot + 1
  pub reached : m.length ≡ l + 12 + length (block (file_in (take l b)).t words)
  pub fcm_long : length fcm' ≡ length fcm
  pub dfcm_long : length dfcm' ≡ length dfcm
  pub buffer_long : length b' ≡ length b
  pub bench_long : length bench' ≡ length bench

pub leaves : {b : List ℕ} {l exam slot : ℕ} {words fcm dfcm bench b' fcm' dfcm' bench' : List ℕ} {m : Made} → Fillable b l exam → slot < 2 ^ 32
    → Appends b l exam slot words fcm dfcm bench m b' fcm' dfcm' bench' → m.number ≡ 0 → Leaves b l slot words fcm dfcm bench m b' fcm' dfcm' bench'
leaves {b} {l} {exam} {slot} {words} {fcm} {dfcm} {bench} {m = m} f w c z =
    let old = file_in (take l b) in
    let blk = block old.t words in
    let x = entry slot (length old.body) (length blk) in
    let h = appended-holds f.good w c z in
    let p = holds_parts h in
    let n : appends_number b l exam slot words fcm dfcm bench ≡ 0 = sym (changes_number c.file) ∙ z in
    let k = append-takes b l exam slot words fcm dfcm bench n in
    let held = held_after old.t words (cleared old.t) (held-cleared old.t) in
    let o = opens_in b l exam f.opens in
    let one : length (old.entries ++ (x ∷ [])) ≡ length old.entries + 1 = length-append old.entries (x ∷ []) in
    let long : m.length ≡ l + 12 + length blk =
    omega (arith, holds-length h, one, length-append old.body blk, parts-long (take l b) o.is.trailer, o.long) in
    record {
      t = rw p refl;
      entries = rw p one;
      next = rw p (next-after 0 old.entries x);
      reached = long;
      fcm_long = ap length (c.fcm_left ∙ afterwards-new _ _ _ n) ∙ held.fcm ∙ sym k.fcm_long;
      dfcm_long = ap length (c.dfcm_left ∙ afterwards-new _ _ _ n) ∙ held.dfcm ∙ sym (k.dfcm_long ∙ k.fcm_long);
      buffer_long = ap length (c.file.file_left ∙ afterwards-new _ _ _ n) ∙ over-long (file_bytes (appended old slot blk)) b (omega (arith, length-file (appended old slot blk), holds-length h, long, block-at_most old.t words, k.buffer_room));
      bench_long = ap length (c.bench_left ∙ afterwards-new _ _ _ n) ∙ over-long blk bench (omega (arith, block-at_most old.t words, k.bench_room));
    }

-- ---- from a file that stays open

-- records whose slots fit an entry's field
abbrev pub SlotsFit : List Record → Type 0
SlotsFit rs = Each (λ (r : Record). r.slot < 2 ^ 32) rs

-- the file that is left stays so
pub goes_fillable : {words : List ℕ} {rs : List Record} {l : ℕ} {s : Lent} {n k l' : ℕ} {s' : Lent} {exam : ℕ} → Goes words rs l s n k l' s' → Fillable s.file l exam → SlotsFit rs
    → Fillable s'.file l' exam
goes_fillable done f w = f
goes_fillable (stopped e h) f w = f
goes_fillable {words} {exam = exam} (went {r = r} {l = l} {s = s} e z g) f (more w ws) = goes_fillable g (appended_fillable f w (it_went exam words r l s f.opens e z).appends z) ws

-- a slot that was found is found, with the same entry and the same block
pub goes-keeps : {words : List ℕ} {rs : List Record} {l : ℕ} {s : Lent} {n k l' : ℕ} {s' : Lent} {exam : ℕ} → Goes words rs l s n k l' s' → Fillable s.file l exam → SlotsFit rs
    → (x : ℕ) → find_number s.file l exam x ≡ 0
    → (find_number s'.file l' exam x ≡ 0) × (entry_of x (file_in (take l' s'.file)) ≡ entry_of x (file_in (take l s.file))) × (block_in s'.file l' x ≡ block_in s.file l x)
goes-keeps done f w x y = (y, refl, refl)
goes-keeps (stopped e h) f w x y = (y, refl, refl)
goes-keeps {words} {exam = exam} (went {r = r} {l = l} {s = s} e z g) f (more w ws) x y =
    let c = (it_went exam words r l s f.opens e z).appends in
    let a = good-keeps f.good w c z x y in
    let b = goes-keeps g (appended_fillable f w c z) ws x a.0 in
    (b.0, b.1 ∙ a.1, b.2 ∙ a.2)

-- its t is the one it was
goes-t : {words : List ℕ} {rs : List Record} {l : ℕ} {s : Lent} {n k l' : ℕ} {s' : Lent} {exam : ℕ} → Goes words rs l s n k l' s' → Fillable s.file l exam → SlotsFit rs
    → (file_in (take l' s'.file)).t ≡ (file_in (take l s.file)).t
goes-t done f w = refl
goes-t (stopped e h) f w = refl
goes-t {words} {exam = exam} (went {r = r} {l = l} {s = s} e z g) f (more w ws) =
    let c = (it_went exam words r l s f.opens e z).appends in
    goes-t g (appended_fillable f w c z) ws ∙ (leaves f w c z).t

-- a record that went in, in the file that is left: its slot is found, with the block of its words
pub record WentIn (exam : ℕ) (words : List ℕ) (r : Record) (t : ℕ) (b : List ℕ) (l : ℕ) : Type 0 where
  pub found : find_number b l exam r.slot ≡ 0
  pub is : block_in b l r.slot ≡ block t (words_of r words)
  pub t-is : (file_in (take l b)).t ≡ t
  pub long : length (words_of r words) ≡ r.count
  pub few : r.count ≤ 65536

pub goes_in : {words : List ℕ} (first : List Record) (r : Record) (rest : List Record) {l : ℕ} {s : Lent} {n k l' : ℕ} {s' : Lent} {exam : ℕ} → Goes words (first ++ r ∷ rest) l s n k l' s'
    → Fillable s.file l exam → SlotsFit (first ++ r ∷ rest) → length first < k → WentIn exam words r (file_in (take l s.file)).t s'.file l'
goes_in [] r rest (stopped e h) f w less = absurd (omega arith)
goes_in {words} [] r rest {exam = exam} (went {l = l} {s = s} e z g) f (more w ws) less =
    let i = it_went exam words r l s f.opens e z in
    let c = i.appends in
    let n = good-finds f.good w c z in
    let k = goes-keeps g (appended_fillable f w c z) ws r.slot n.0 in
    let long = words_long words r l s i.inside in
    record {
      found = k.0;
      is = k.2 ∙ n.1;
      t-is = goes-t g (appended_fillable f w c z) ws ∙ (leaves f w c z).t;
      long = long;
      few = omega (arith, long, (append-takes s.file l exam r.slot (words_of r words) s.fcm s.dfcm s.bench (sym (changes_number c.file) ∙ z)).few_words);
    }
goes_in (x ∷ first) r rest (stopped e h) f w less = absurd (omega arith)
goes_in {words} (x ∷ first) r rest {exam = exam} (went {l = l} {s = s} e z g) f (more w ws) less =
    let c = (it_went exam words x l s f.opens e z).appends in
    rw (leaves f w c z).t at (goes_in first r rest g (appended_fillable f w c z) ws (omega arith))

-- where one went in, the tables have 2 ^ t words
pub goes-sized : {words : List ℕ} {rs : List Record} {l : ℕ} {s : Lent} {n k l' : ℕ} {s' : Lent} {exam : ℕ} → Goes words rs l s n k l' s' → Fillable s.file l exam → 0 < k
    → (length s.fcm ≡ 2 ^ (file_in (take l s.file)).t) × (length s.dfcm ≡ 2 ^ (file_in (take l s.file)).t)
goes-sized done f h = absurd (omega arith)
goes-sized (stopped e u) f h = absurd (omega arith)
goes-sized {words} {exam = exam} (went {r = r} {l = l} {s = s} e z g) f h =
    let c = (it_went exam words r l s f.opens e z).appends in
    let k = append-takes s.file l exam r.slot (words_of r words) s.fcm s.dfcm s.bench (sym (changes_number c.file) ∙ z) in
    (k.fcm_long, k.dfcm_long ∙ k.fcm_long)

-- the answer is told by numbers
pub goes-foretold : {words : List ℕ} {rs : List Record} {l : ℕ} {s : Lent} {n k l' : ℕ} {s' : Lent} {exam : ℕ} → Goes words rs l s n k l' s' → Fillable s.file l exam → SlotsFit rs → (j : ℕ)
    → filled n (j + k) l'
    ≡ foretold words (file_in (take l s.file)).t (length s.fcm) (length s.dfcm) (length s.file) (length s.bench) (length (file_in (take l s.file)).entries)
    (next_slot 0 (file_in (take l s.file)).entries) j l rs
unfolding foretold record_number
goes-foretold done f w j = rw (add-zero j)
goes-foretold {words} (stopped {r = r} {l = l} {s = s} e h) f w j = rw (add-zero j) (ap (λ (i : ℕ). filled i j l) e ∙ sym (afterwards-old _ _ _ (λ z. h (e ∙ z))))
goes-foretold {words} {exam = exam} (went {r = r} {l = l} {s = s} {k = k} e z g) f (more w ws) j =
    let c = (it_went exam words r l s f.opens e z).appends in
    let v = leaves f w c z in
    let on : j + (k + 1) ≡ j + 1 + k = omega arith in
    let t = rw (v.t, v.entries, v.next, v.reached, v.fcm_long, v.dfcm_long, v.buffer_long, v.bench_long) at (goes-foretold g (appended_fillable f w c z) ws (j + 1)) in
    rw on (t ∙ sym (afterwards-new _ _ _ (sym (ap (λ (p : Made × Lent). p.0.number) e ∙ record_numbered words r l s) ∙ z)))
