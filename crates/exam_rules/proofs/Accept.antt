-- When each call on a file answers 0, in terms of what it is given.
use mathlib.Core.Path.{◌≡◌, refl, sym, ap, ◌∙◌}
use mathlib.Core.List.{List, [], ◌∷◌}
use Prim.Native.Nat.{ℕ, zero, suc, min, ◌+◌, ◌-◌, ◌*◌, ◌^◌, ◌≤◌, ◌<◌}
use native.Mathlib.Omega.{arith}
use lib.Dec.{eqb}
use lib.ListN.{length, get_or, take}
use lib.Seq.{length-take-le}
use borrow.Author.Tests.{leb-true, ltb-true, eqb-true, eqb-false, le-leb, lt-ltb, eq-eqb}
use Rattle.words.proofs.Tests.{either}
use Rattle.words.proofs.Alike.{same_equal, equal_same}
use Rattle.answers.specs.Answers.{afterwards}
use Rattle.answers.proofs.Checks.{unless-passes, unless_holds, none_fails, fails_later, last_decides, all_pass, passes, afterwards-new, afterwards-old}
use Rattle.block_rules.specs.Block.{block, count, worst}
use Rattle.block_rules.specs.Numbers.{block_number}
use Rattle.block_rules.specs.Inside.{Packable}
use Rattle.block_rules.specs.Calls.{Unpacked}
use Rattle.block_rules.proofs.Tables.{sized-power}
use Rattle.block_rules.proofs.Accept.{where_number}
use Rattle.exam_rules.specs.File.{Entry, entry, File, mark}
use Rattle.exam_rules.specs.Reading.{mark_in, edition_in, t_in, exam_in, distance_in, entries_in, length_in, file_in, index_of, entry_of}
use Rattle.exam_rules.specs.Numbers.{most_bytes, joins, entries_number, directory_number, open_in_number, slot_number, find_number, block_in, file_tables_number, found_number, fetch_number, create_number, next_slot, store_number, append_number, record_number, replace_number, salvage_number}
use Rattle.exam_rules.specs.Calls.{trailer_of, opened, opened_number, fetches_number, Fetches, appends_number, words_of, filled, Filled, Done}
use Rattle.exam_rules.specs.declared.Record.{Record}
use Rattle.exam_rules.proofs.Directory.{heads, heads_keep, joins_equal, equal_joins, edition-is, edition-one}
use Rattle.exam_rules.proofs.Opens.{opens_in, opens_in_keep, t_in_lem}

-- ---- the directory's rule, in words that need no check

-- entries of which the first slot is at least `lowest`: slots strictly ascend, each block starts where the one before ends, from `from` on,
-- and has at least 8 bytes, and the last ends at `to`
pub data Follows : ℕ → ℕ → List Entry → ℕ → Type 0 where
  none : {lowest from to : ℕ} → from ≡ to → Follows lowest from [] to
  more : {lowest from to : ℕ} {e : Entry} {es : List Entry} → lowest ≤ e.slot → from ≡ e.offset → 8 ≤ e.size
      → Follows (e.slot + 1) (e.offset + e.size) es to → Follows lowest from (e ∷ es) to

follows : (lowest from : ℕ) (es : List Entry) (to : ℕ) → entries_number joins lowest from es to ≡ 0 → Follows lowest from es to
follows lowest from [] to z = none (joins_equal from to (unless_holds _ _ z (omega arith)))
follows lowest from (e ∷ es) to z =
    let h = heads joins lowest from e es to z in
    more h.slot (joins_equal _ _ h.joined) h.size (follows (e.slot + 1) (e.offset + e.size) es to h.rest)

keeps : {lowest from : ℕ} {es : List Entry} {to : ℕ} → Follows lowest from es to → entries_number joins lowest from es to ≡ 0
keeps {lowest} {from} {to = to} (none e) = unless-passes _ _ (equal_joins from to e)
keeps {lowest} {from} {to = to} (more {e = e} {es = es} s o n r) =
    heads_keep joins lowest from e es to (record { slot = s; joined = equal_joins _ _ o; size = n; rest = keeps r })

pub directory-follows : (f : File) → directory_number f ≡ 0 → Follows 0 0 f.entries (length f.body)
unfolding directory_number
directory-follows f z = follows 0 0 f.entries (length f.body) z

pub follows-directory : (f : File) → Follows 0 0 f.entries (length f.body) → directory_number f ≡ 0
unfolding directory_number
follows-directory f r = keeps r

-- ---- open

-- what open needs, of the first l bytes of a buffer
pub record OpenTakes (b : List ℕ) (l exam : ℕ) : Type 0 where
  pub within : l ≤ length b
  pub long : 32 ≤ l
  pub small : l ≤ 16777216
  pub marked : mark_in (take l b) ≡ mark
  pub edition : edition_in (take l b) ≡ 1
  pub t : t_in (take l b) ≤ 16
  pub few : entries_in (take l b) ≤ 1024
  pub distance : distance_in (take l b) ≡ 32 + 12 * entries_in (take l b)
  pub reach : distance_in (take l b) ≤ l
  pub stated : length_in (take l b) ≡ l
  pub named : 0 < exam
  pub own : exam_in (take l b) ≡ exam
  pub directory : Follows 0 0 (file_in (take l b)).entries (length (file_in (take l b)).body)

pub open_takes : (b : List ℕ) (l exam : ℕ) → open_in_number b l exam ≡ 0 → OpenTakes b l exam
open_takes b l exam z =
    let o = opens_in b l exam z in
    let r = o.is.trailer in
    record {
      within = o.within;
      long = omega (arith, o.long, r.long);
      small = omega (arith, o.long, r.small);
      marked = same_equal _ _ r.marked;
      edition = edition-is _ r.edition;
      t = r.t;
      few = r.few;
      distance = r.distance;
      reach = omega (arith, o.long, r.within);
      stated = r.stated ∙ o.long;
      named = o.is.named;
      own = o.is.own;
      directory = directory-follows _ o.is.directory;
    }

pub takes_open : (b : List ℕ) (l exam : ℕ) → OpenTakes b l exam → open_in_number b l exam ≡ 0
takes_open b l exam k =
    let ll : length (take l b) ≡ l = length-take-le l b k.within in
    opens_in_keep b l exam k.within
    (record {
      trailer =
          record {
            long = omega (arith, k.long);
            small = omega (arith, k.small);
            marked = rw k.marked (equal_same mark);
            edition = rw k.edition edition-one;
            t = k.t;
            few = k.few;
            distance = k.distance;
            within = omega (arith, k.reach);
            stated = k.stated ∙ sym ll;
          };
      named = k.named;
      own = k.own;
      directory = follows-directory _ k.directory;
    })

-- ---- find

-- a slot is among entries
pub record SlotIn (slot : ℕ) (es : List Entry) : Type 0 where
  pub i : ℕ
  pub below : i < length es
  pub is : (get_or es i (entry slot 0 0)).slot ≡ slot

pub slot_in : (slot : ℕ) (es : List Entry) → index_of slot es < length es → SlotIn slot es
slot_in slot [] = λ h. absurd (omega arith)
slot_in slot (e ∷ es) =
    either (eqb e.slot slot) (λ q. rw q (λ h. record { i = 0; below = omega arith; is = eqb-true _ _ q }))
    (λ q. rw q (λ h. let k = slot_in slot es (omega arith) in record { i = suc k.i; below = omega (arith, k.below); is = k.is }))

in_slot : (slot : ℕ) (es : List Entry) (i : ℕ) → i < length es → (get_or es i (entry slot 0 0)).slot ≡ slot → index_of slot es < length es
in_slot slot [] i h q = absurd (omega arith)
in_slot slot (e ∷ es) zero h q = rw (eq-eqb e.slot slot q) (omega arith)
in_slot slot (e ∷ es) (suc i) h q =
    either (eqb e.slot slot) (λ z. rw z (omega arith)) (λ z. rw z (omega (arith, in_slot slot es i (omega arith) q)))

pub record FindTakes (b : List ℕ) (l exam slot : ℕ) : Type 0 where
  pub opens : OpenTakes b l exam
  pub there : SlotIn slot (file_in (take l b)).entries

pub find_tells : (b : List ℕ) (l exam slot : ℕ) → find_number b l exam slot ≡ 0 → (open_in_number b l exam ≡ 0) × (index_of slot (file_in (take l b)).entries < length (file_in (take l b)).entries)
unfolding find_number slot_number
find_tells b l exam slot z = let a = none_fails _ _ z in (a.0, ltb-true _ _ (unless_holds _ _ (none_fails _ _ a.1).0 (omega arith)))

pub find_passes : (b : List ℕ) (l exam slot : ℕ) → open_in_number b l exam ≡ 0 → index_of slot (file_in (take l b)).entries < length (file_in (take l b)).entries → find_number b l exam slot ≡ 0
unfolding find_number slot_number
find_passes b l exam slot z h = sym (fails_later _ _ _ z (passes _ _ _ _ (lt-ltb _ _ h) all_pass))

pub find_takes : (b : List ℕ) (l exam slot : ℕ) → find_number b l exam slot ≡ 0 → FindTakes b l exam slot
find_takes b l exam slot z = let a = find_tells b l exam slot z in record { opens = open_takes b l exam a.0; there = slot_in slot _ a.1 }

pub takes_find : (b : List ℕ) (l exam slot : ℕ) → FindTakes b l exam slot → find_number b l exam slot ≡ 0
takes_find b l exam slot k =
    find_passes b l exam slot (takes_open b l exam k.opens) (in_slot slot (file_in (take l b)).entries k.there.i k.there.below k.there.is)

-- ---- the tables of a file

pub tables_tell : (t f d : ℕ) → file_tables_number t f d ≡ 0 → (f ≡ 2 ^ t) × (d ≡ f)
unfolding file_tables_number
tables_tell t f d z =
    let a = none_fails _ _ z in
    (eqb-true _ _ (unless_holds _ _ (none_fails _ _ a.1).0 (omega arith)), sym (eqb-true _ _ (unless_holds _ _ a.0 (omega arith))))

pub tables_pass : (t f d : ℕ) → f ≡ 2 ^ t → d ≡ f → file_tables_number t f d ≡ 0
unfolding file_tables_number
tables_pass t f d e q = sym (passes _ _ _ _ (eq-eqb f d (sym q)) (passes _ _ _ _ (eq-eqb f (2 ^ t) e) all_pass))

-- ---- fetch

-- what fetch needs: a slot that is found, tables of 2 ^ t words, a block that check takes, room for its words
pub record FetchTakes (b : List ℕ) (l exam slot f d room : ℕ) : Type 0 where
  pub finds : FindTakes b l exam slot
  pub fcm_long : f ≡ 2 ^ (file_in (take l b)).t
  pub dfcm_long : d ≡ f
  pub whole : block_number (block_in b l slot) ≡ 0
  pub enough : count (block_in b l slot) ≤ room

pub fetch_takes : (b : List ℕ) (l exam slot f d room : ℕ) → fetch_number b l exam slot f d room ≡ 0 → FetchTakes b l exam slot f d room
unfolding fetch_number found_number
fetch_takes b l exam slot f d room z =
    let a = none_fails _ _ z in
    let c = none_fails _ _ a.1 in
    let e = none_fails _ _ c.1 in
    let s = tables_tell _ f d c.0 in
    record {
      finds = find_takes b l exam slot a.0;
      fcm_long = s.0;
      dfcm_long = s.1;
      whole = e.0;
      enough = leb-true _ _ (unless_holds _ _ (none_fails _ _ e.1).0 (omega arith));
    }

pub takes_fetch : (b : List ℕ) (l exam slot f d room : ℕ) → FetchTakes b l exam slot f d room → fetch_number b l exam slot f d room ≡ 0
unfolding fetch_number found_number
takes_fetch b l exam slot f d room k =
    sym
    (fails_later _ _ _ (takes_find b l exam slot k.finds)
    (fails_later _ _ _ (tables_pass _ f d k.fcm_long k.dfcm_long)
    (fails_later _ _ _ k.whole (passes _ _ _ _ (le-leb _ _ k.enough) all_pass))))

-- ---- create

-- what create needs: an exam number, t of at most 16, and room for a trailer
pub record CreateTakes (exam t room : ℕ) : Type 0 where
  pub named : 0 < exam
  pub most : t ≤ 16
  pub enough : 32 ≤ room

pub create_takes : (exam t room : ℕ) → create_number exam t room ≡ 0 → CreateTakes exam t room
unfolding create_number
create_takes exam t room z =
    let a = none_fails _ _ z in
    let b = none_fails _ _ a.1 in
    record {
      named = ltb-true _ _ (unless_holds _ _ a.0 (omega arith));
      most = leb-true _ _ (unless_holds _ _ b.0 (omega arith));
      enough = leb-true _ _ (unless_holds _ _ (none_fails _ _ b.1).0 (omega arith));
    }

pub takes_create : (exam t room : ℕ) → CreateTakes exam t room → create_number exam t room ≡ 0
unfolding create_number
takes_create exam t room k = sym (passes _ _ _ _ (lt-ltb _ _ k.named) (passes _ _ _ _ (le-leb _ _ k.most) (passes _ _ _ _ (le-leb _ _ k.enough) all_pass)))

-- ---- storing a block

-- what storing n words beside kept bytes needs: tables of 2 ^ t words, at most 65,536 words, room for the worst block in the buffer and under the
-- limit, and in the bench buffer
pub record Storable (t n f d kept buffer bench : ℕ) : Type 0 where
  pub size : f ≡ 2 ^ t
  pub packs : Packable n f d bench
  pub room : kept + worst n ≤ buffer
  pub small : kept + worst n ≤ most_bytes

pub storable : (t n f d kept buffer bench : ℕ) → t ≤ 16 → store_number t n f d kept buffer bench ≡ 0 → Storable t n f d kept buffer bench
unfolding store_number
storable t n f d kept buffer bench h z =
    let a = none_fails _ _ z in
    let b = none_fails _ _ a.1 in
    let c = none_fails _ _ b.1 in
    let s = tables_tell t f d a.0 in
    let least : kept + worst n ≤ min buffer most_bytes = leb-true _ _ (unless_holds _ _ c.0 (omega arith)) in
    record {
      size = s.0;
      packs =
          record {
            sized = sized-power t f d h s.0 s.1;
            few = leb-true _ _ (unless_holds _ _ b.0 (omega arith));
            room = leb-true _ _ (unless_holds _ _ (none_fails _ _ c.1).0 (omega arith));
          };
      room = omega arith;
      small = omega arith;
    }

store_passes : (t n f d kept buffer bench : ℕ) → f ≡ 2 ^ t → d ≡ f → n ≤ 65536 → kept + worst n ≤ buffer → kept + worst n ≤ most_bytes → worst n ≤ bench
    → store_number t n f d kept buffer bench ≡ 0
unfolding store_number
store_passes t n f d kept buffer bench long same few room small enough =
    sym
    (fails_later _ _ _ (tables_pass t f d long same)
    (passes _ _ _ _ (le-leb _ _ few)
    (passes _ _ _ _ (le-leb (kept + worst n) (min buffer most_bytes) (omega (arith, room, small))) (passes _ _ _ _ (le-leb _ _ enough) all_pass))))

-- ---- append

-- what appending to k entries needs: fewer than 1,024 of them, a slot above the last, and what storing beside the file and an entry needs
pub record Appendable (k next slot t n f d l buffer bench : ℕ) : Type 0 where
  pub few : k < 1024
  pub above : next ≤ slot
  pub stores : Storable t n f d (l + 12) buffer bench

pub appendable : (k next slot t n f d l buffer bench : ℕ) → t ≤ 16 → append_number k next slot t n f d l buffer bench ≡ 0 → Appendable k next slot t n f d l buffer bench
unfolding append_number
appendable k next slot t n f d l buffer bench h z =
    let a = none_fails _ _ z in
    let b = none_fails _ _ a.1 in
    record {
      few = ltb-true _ _ (unless_holds _ _ a.0 (omega arith));
      above = leb-true _ _ (unless_holds _ _ b.0 (omega arith));
      stores = storable _ _ _ _ _ _ _ h (none_fails _ _ b.1).0;
    }

-- what append needs: a file that opens with fewer than 1,024 entries, a slot above the last, tables of 2 ^ t words, at most 65,536 words,
-- room for the worst block and an entry in the buffer and under the limit, and for the worst block in the bench buffer
pub record AppendTakes (b : List ℕ) (l exam slot n f d bench : ℕ) : Type 0 where
  pub opens : OpenTakes b l exam
  pub few : length (file_in (take l b)).entries < 1024
  pub above : next_slot 0 (file_in (take l b)).entries ≤ slot
  pub fcm_long : f ≡ 2 ^ (file_in (take l b)).t
  pub dfcm_long : d ≡ f
  pub few_words : n ≤ 65536
  pub buffer_room : l + 12 + worst n ≤ length b
  pub file_room : l + 12 + worst n ≤ 16777216
  pub bench_room : worst n ≤ bench

pub append-takes : (b : List ℕ) (l exam slot : ℕ) (words fcm dfcm bench : List ℕ) → appends_number b l exam slot words fcm dfcm bench ≡ 0
    → AppendTakes b l exam slot (length words) (length fcm) (length dfcm) (length bench)
append-takes b l exam slot words fcm dfcm bench z =
    let a = none_fails _ _ z in
    let o = open_takes b l exam a.0 in
    let k = appendable _ _ _ _ _ _ _ _ _ _ (rw (t_in_lem (take l b)) o.t) (none_fails _ _ a.1).0 in
    record {
      opens = o;
      few = k.few;
      above = k.above;
      fcm_long = k.stores.size;
      dfcm_long = k.stores.packs.sized.same;
      few_words = k.stores.packs.few;
      buffer_room = k.stores.room;
      file_room = k.stores.small;
      bench_room = k.stores.packs.room;
    }

append-passes : (k next slot t n f d l buffer bench : ℕ) → k < 1024 → next ≤ slot → f ≡ 2 ^ t → d ≡ f → n ≤ 65536 → l + 12 + worst n ≤ buffer → l + 12 + worst n ≤ most_bytes → worst n ≤ bench
    → append_number k next slot t n f d l buffer bench ≡ 0
unfolding append_number
append-passes k next slot t n f d l buffer bench few above long same few_words room small enough =
    let store = store_passes t n f d (l + 12) buffer bench long same few_words room small enough in
    sym (passes _ _ _ _ (lt-ltb _ _ few) (passes _ _ _ _ (le-leb _ _ above) (sym store ∙ last_decides _)))

pub takes-append : (b : List ℕ) (l exam slot : ℕ) (words fcm dfcm bench : List ℕ) → AppendTakes b l exam slot (length words) (length fcm) (length dfcm) (length bench)
    → appends_number b l exam slot words fcm dfcm bench ≡ 0
takes-append b l exam slot words fcm dfcm bench k =
    let inner =
    append-passes _ _ slot _ (length words) _ _ l (length b) (length bench) k.few k.above k.fcm_long k.dfcm_long k.few_words k.buffer_room k.file_room k.bench_room in
    sym (fails_later _ _ _ (takes_open b l exam k.opens) (sym inner ∙ last_decides _))

-- ---- append_all

-- what a record needs, where it is given the words lent, the entries so far, the lowest slot that may come next, t, the lengths of the tables, of the file, of the
-- buffer and of the bench buffer: its words within those lent, and what append needs of the rest
pub record RecordTakes (r : Record) (words entries next t f d l buffer bench : ℕ) : Type 0 where
  pub inside : r.first + r.count ≤ words
  pub few : entries < 1024
  pub above : next ≤ r.slot
  pub fcm_long : f ≡ 2 ^ t
  pub dfcm_long : d ≡ f
  pub few_words : r.count ≤ 65536
  pub buffer_room : l + 12 + worst r.count ≤ buffer
  pub file_room : l + 12 + worst r.count ≤ 16777216
  pub bench_room : worst r.count ≤ bench

module _ (words : List ℕ) (t f d buffer bench : ℕ) where
  -- what each record needs, from so many entries, the lowest slot that may come next and l bytes on: the next one comes after an entry more, above its slot, and
  -- behind its block and its entry
  pub data RecordsTake : (entries next l : ℕ) → List Record → Type 0 where
    no_record : {entries next l : ℕ} → RecordsTake entries next l []
    a_record : {entries next l : ℕ} {r : Record} {rs : List Record} → RecordTakes r (length words) entries next t f d l buffer bench
        → RecordsTake (entries + 1) (r.slot + 1) (l + 12 + length (block t (words_of r words))) rs → RecordsTake entries next l (r ∷ rs)

  -- what append_all answers for records, from what is given alone: so many entries, the lowest slot that may come next, k maps in before and l bytes. After a record
  -- that goes in there is an entry more, the next slot is above its own, and the file is longer by an entry and its block
  unfoldable pub foretold : (entries next k l : ℕ) → List Record → Filled
  foretold entries next k l [] = filled 0 k l
  foretold entries next k l (r ∷ rs) =
      let n = record_number r (length words) entries next t f d l buffer bench in
      let then = foretold (entries + 1) (r.slot + 1) (k + 1) (l + 12 + length (block t (words_of r words))) rs in
      afterwards n then (filled n k l)

  pub foretold-takes : t ≤ 16 → (entries next k l : ℕ) (rs : List Record) → (foretold entries next k l rs).number ≡ 0 → RecordsTake entries next l rs
  unfolding foretold record_number
  foretold-takes h entries next k l [] z = no_record
  foretold-takes h entries next k l (r ∷ rs) z =
      let n = record_number r (length words) entries next t f d l buffer bench in
      let then = foretold (entries + 1) (r.slot + 1) (k + 1) (l + 12 + length (block t (words_of r words))) rs in
      either (eqb n 0)
      (λ q.
      let y = eqb-true n 0 q in
      let a = none_fails _ _ y in
      let c = appendable _ _ _ _ _ _ _ _ _ _ h (none_fails _ _ a.1).0 in
      let s = c.stores in
      a_record
      (record {
        inside = leb-true _ _ (unless_holds _ _ a.0 (omega arith));
        few = c.few;
        above = c.above;
        fcm_long = s.size;
        dfcm_long = s.packs.sized.same;
        few_words = s.packs.few;
        buffer_room = s.room;
        file_room = s.small;
        bench_room = s.packs.room;
      })
      (foretold-takes h (entries + 1) (r.slot + 1) (k + 1) (l + 12 + length (block t (words_of r words))) rs (sym (ap (λ (x : Filled). x.number) (afterwards-new n then (filled n k l) y)) ∙ z)))
      (λ q. absurd (eqb-false n 0 q (sym (ap (λ (x : Filled). x.number) (afterwards-old n then (filled n k l) (eqb-false n 0 q))) ∙ z)))

  pub takes-foretold : {entries next l : ℕ} {rs : List Record} (k : ℕ) → RecordsTake entries next l rs → (foretold entries next k l rs).number ≡ 0
  unfolding foretold record_number
  takes-foretold k no_record = refl
  takes-foretold k (a_record {entries = entries} {next = next} {l = l} {r = r} {rs = rs} c g) =
      let p =
      append-passes entries next r.slot t r.count f d l buffer bench c.few c.above c.fcm_long c.dfcm_long c.few_words c.buffer_room c.file_room c.bench_room in
      let y : record_number r (length words) entries next t f d l buffer bench ≡ 0 = sym (passes _ _ _ _ (le-leb _ _ c.inside) (sym p ∙ last_decides _)) in
      ap (λ (x : Filled). x.number) (afterwards-new _ _ _ y) ∙ takes-foretold (k + 1) g

-- what append_all needs: a file that opens, and what each record needs, from its t, its entries and its l bytes on
pub record AppendAllTakes (b : List ℕ) (l exam : ℕ) (records : List Record) (words : List ℕ) (f d bench : ℕ) : Type 0 where
  pub opens : OpenTakes b l exam
  pub takes : RecordsTake words (file_in (take l b)).t f d (length b) bench (length (file_in (take l b)).entries) (next_slot 0 (file_in (take l b)).entries) l records

-- ---- replace

-- what replace needs: a slot that is found, tables of 2 ^ t words, at most 65,536 words, room for the worst block beside the file less its old block
-- in the buffer and under the limit, and for the worst block in the bench buffer
pub record ReplaceTakes (b : List ℕ) (l exam slot n f d bench : ℕ) : Type 0 where
  pub finds : FindTakes b l exam slot
  pub fcm_long : f ≡ 2 ^ (file_in (take l b)).t
  pub dfcm_long : d ≡ f
  pub few_words : n ≤ 65536
  pub buffer_room : l - (entry_of slot (file_in (take l b))).size + worst n ≤ length b
  pub file_room : l - (entry_of slot (file_in (take l b))).size + worst n ≤ 16777216
  pub bench_room : worst n ≤ bench

pub replace_tells : (b : List ℕ) (l exam slot n f d bench : ℕ) → replace_number b l exam slot n f d bench ≡ 0
    → (find_number b l exam slot ≡ 0) × Storable (file_in (take l b)).t n f d (l - (entry_of slot (file_in (take l b))).size) (length b) bench
unfolding replace_number
replace_tells b l exam slot n f d bench z =
    let a = none_fails _ _ z in
    let o = (find_takes b l exam slot a.0).opens in
    (a.0, storable _ _ _ _ _ _ _ (rw (t_in_lem (take l b)) o.t) (none_fails _ _ a.1).0)

pub replace_takes : (b : List ℕ) (l exam slot n f d bench : ℕ) → replace_number b l exam slot n f d bench ≡ 0 → ReplaceTakes b l exam slot n f d bench
replace_takes b l exam slot n f d bench z =
    let a = replace_tells b l exam slot n f d bench z in
    let k = a.1 in
    record {
      finds = find_takes b l exam slot a.0;
      fcm_long = k.size;
      dfcm_long = k.packs.sized.same;
      few_words = k.packs.few;
      buffer_room = k.room;
      file_room = k.small;
      bench_room = k.packs.room;
    }

pub takes_replace : (b : List ℕ) (l exam slot n f d bench : ℕ) → ReplaceTakes b l exam slot n f d bench → replace_number b l exam slot n f d bench ≡ 0
unfolding replace_number
takes_replace b l exam slot n f d bench k =
    let store = store_passes _ _ _ _ _ (length b) _ k.fcm_long k.dfcm_long k.few_words k.buffer_room k.file_room k.bench_room in
    sym (fails_later _ _ _ (takes_find b l exam slot k.finds) (sym store ∙ last_decides _))

-- ---- salvage

-- what salvage needs, where the new file has l bytes: an exam number, t of at most 16, and room for the new file in the buffer and under the limit
pub record SalvageTakes (exam t l room : ℕ) : Type 0 where
  pub named : 0 < exam
  pub most : t ≤ 16
  pub buffer_room : l ≤ room
  pub file_room : l ≤ 16777216

pub salvage_takes : (exam t l room : ℕ) → salvage_number exam t l room ≡ 0 → SalvageTakes exam t l room
unfolding salvage_number
salvage_takes exam t l room z =
    let a = none_fails _ _ z in
    let b = none_fails _ _ a.1 in
    let least : l ≤ min room most_bytes = leb-true _ _ (unless_holds _ _ (none_fails _ _ b.1).0 (omega arith)) in
    record {
      named = ltb-true _ _ (unless_holds _ _ a.0 (omega arith));
      most = leb-true _ _ (unless_holds _ _ b.0 (omega arith));
      buffer_room = omega arith;
      file_room = omega arith;
    }

pub takes_salvage : (exam t l room : ℕ) → SalvageTakes exam t l room → salvage_number exam t l room ≡ 0
unfolding salvage_number
takes_salvage exam t l room k =
    sym
    (passes _ _ _ _ (lt-ltb _ _ k.named)
    (passes _ _ _ _ (le-leb _ _ k.most) (passes _ _ _ _ (le-leb l (min room most_bytes) (omega (arith, k.buffer_room, k.file_room))) all_pass)))

-- ---- the numbers that answers hold

pub opened-number : (b : List ℕ) (l exam : ℕ) → opened_number (opened b l exam) ≡ open_in_number b l exam
unfolding opened
opened-number b l exam =
    let n = open_in_number b l exam in
    either (eqb n 0) (λ q. ap opened_number (afterwards-new _ _ _ (eqb-true n 0 q)) ∙ sym (eqb-true n 0 q)) (λ q. ap opened_number (afterwards-old _ _ _ (eqb-false n 0 q)))

pub opened-done : (b : List ℕ) (l exam : ℕ) → open_in_number b l exam ≡ 0 → opened b l exam ≡ Done (trailer_of (file_in (take l b)))
unfolding opened
opened-done b l exam z = afterwards-new _ _ _ z

pub fetches_number_lem : {b : List ℕ} {l exam slot : ℕ} {fcm dfcm words f' d' w' : List ℕ} {r : Unpacked} → Fetches b l exam slot fcm dfcm words r f' d' w'
    → r.number ≡ fetches_number b l exam slot fcm dfcm words
fetches_number_lem c = where_number c.unpacks
