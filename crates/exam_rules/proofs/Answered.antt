-- Which numbers the calls on a file can answer.
use mathlib.Core.Path.{refl, ap}
use mathlib.Core.List.{List, [], ◌∷◌, Mem, mem-cons_self, mem-cast}
use mathlib.Core.Bool.{Bool}
use Prim.Native.Nat.{ℕ, ◌+◌}
use lib.Dec.{eqb}
use lib.ListN.{length, take}
use borrow.Author.Tests.{eqb-true, eqb-false}
use Rattle.words.proofs.Tests.{either}
use Rattle.answers.proofs.OneOf.{one_of_more, no_check_one_of, verdict_one_of, check_one_of, unless_one_of}
use Rattle.block_rules.proofs.Answered.{block_one_of}
use Rattle.exam_rules.specs.File.{Entry, File}
use Rattle.exam_rules.specs.Reading.{file_in}
use Rattle.exam_rules.specs.Numbers.{entries_number, directory_number, fields_number, trailer_number, open_number, open_in_number, slot_number, find_number, block_in, file_tables_number, found_number, fetch_number, create_number, store_number, append_number, record_number, replace_number, salvage_number}
use Rattle.exam_rules.specs.Calls.{Lent, appends_number, AppendsAll, Filled}
use Rattle.exam_rules.specs.declared.Record.{Record}
use Rattle.exam_rules.proofs.Chain.{Goes, done, stopped, went, all_fills, all_unopened}

entries_one_of : (test : ℕ → ℕ → Bool) (lowest from : ℕ) (es : List Entry) (to : ℕ) → Mem (entries_number test lowest from es to) (0 ∷ 9 ∷ [])
entries_one_of test lowest from [] to = unless_one_of (test from to) 9 refl
entries_one_of test lowest from (e ∷ es) to =
    check_one_of _ 9 _
    (check_one_of _ 9 _ (check_one_of _ 9 _ (verdict_one_of _ _ (entries_one_of test (e.slot + 1) (e.offset + e.size) es to) (no_check_one_of _)) refl) refl)
    refl

directory_one_of : (f : File) → Mem (directory_number f) (0 ∷ 9 ∷ [])
unfolding directory_number
directory_one_of f = entries_one_of _ 0 0 f.entries _

trailer_one_of : (f : List ℕ) → Mem (trailer_number f) (0 ∷ 4 ∷ 7 ∷ [])
unfolding trailer_number fields_number
trailer_one_of f =
    let fields =
    check_one_of _ 7 _
    (check_one_of _ 7 _ (check_one_of _ 7 _ (check_one_of _ 7 _ (check_one_of _ 7 _ (check_one_of _ 7 _ (no_check_one_of _) refl) refl) refl) refl) refl)
    refl in
    check_one_of _ 4 _ (check_one_of _ 7 _ (check_one_of _ 7 _ (verdict_one_of _ _ fields (no_check_one_of _)) refl) refl) refl

pub open_one_of : (f : List ℕ) (exam : ℕ) → Mem (open_number f exam) (0 ∷ 4 ∷ 7 ∷ 8 ∷ 9 ∷ [])
unfolding open_number
open_one_of f exam =
    verdict_one_of _ _ (one_of_more _ _ (trailer_one_of f) refl)
    (check_one_of _ 8 _ (check_one_of _ 8 _ (verdict_one_of _ _ (one_of_more _ _ (directory_one_of (file_in f)) refl) (no_check_one_of _)) refl) refl)

pub open_in_one_of : (b : List ℕ) (l exam : ℕ) → Mem (open_in_number b l exam) (0 ∷ 4 ∷ 7 ∷ 8 ∷ 9 ∷ [])
unfolding open_in_number
open_in_one_of b l exam = check_one_of _ 4 _ (verdict_one_of _ _ (open_one_of (take l b) exam) (no_check_one_of _)) refl

pub find_one_of : (b : List ℕ) (l exam slot : ℕ) → Mem (find_number b l exam slot) (0 ∷ 4 ∷ 7 ∷ 8 ∷ 9 ∷ 10 ∷ [])
unfolding find_number slot_number
find_one_of b l exam slot = verdict_one_of _ _ (one_of_more _ _ (open_in_one_of b l exam) refl) (check_one_of _ 10 _ (no_check_one_of _) refl)

tables_one_of : (t f d : ℕ) → Mem (file_tables_number t f d) (0 ∷ 1 ∷ [])
unfolding file_tables_number
tables_one_of t f d = check_one_of _ 1 _ (check_one_of _ 1 _ (no_check_one_of _) refl) refl

pub fetch_one_of : (b : List ℕ) (l exam slot f d room : ℕ)
    → Mem (fetch_number b l exam slot f d room) (0 ∷ 4 ∷ 7 ∷ 8 ∷ 9 ∷ 10 ∷ 1 ∷ 2 ∷ 5 ∷ 6 ∷ 13 ∷ 3 ∷ [])
unfolding fetch_number found_number
fetch_one_of b l exam slot f d room =
    verdict_one_of _ _ (one_of_more _ _ (find_one_of b l exam slot) refl)
    (verdict_one_of _ _ (one_of_more _ _ (tables_one_of (file_in (take l b)).t f d) refl)
    (verdict_one_of _ _ (one_of_more _ _ (block_one_of (block_in b l slot)) refl) (check_one_of _ 3 _ (no_check_one_of _) refl)))

pub create_one_of : (exam t room : ℕ) → Mem (create_number exam t room) (0 ∷ 8 ∷ 7 ∷ 3 ∷ [])
unfolding create_number
create_one_of exam t room = check_one_of _ 8 _ (check_one_of _ 7 _ (check_one_of _ 3 _ (no_check_one_of _) refl) refl) refl

store_one_of : (t n f d kept buffer bench : ℕ) → Mem (store_number t n f d kept buffer bench) (0 ∷ 1 ∷ 2 ∷ 3 ∷ [])
unfolding store_number
store_one_of t n f d kept buffer bench =
    verdict_one_of _ _ (one_of_more _ _ (tables_one_of t f d) refl) (check_one_of _ 2 _ (check_one_of _ 3 _ (check_one_of _ 3 _ (no_check_one_of _) refl) refl) refl)

append_to_one_of : (k next slot t n f d l buffer bench : ℕ) → Mem (append_number k next slot t n f d l buffer bench) (0 ∷ 12 ∷ 11 ∷ 1 ∷ 2 ∷ 3 ∷ [])
unfolding append_number
append_to_one_of k next slot t n f d l buffer bench =
    check_one_of _ 12 _ (check_one_of _ 11 _ (verdict_one_of _ _ (one_of_more _ _ (store_one_of t n f d (l + 12) buffer bench) refl) (no_check_one_of _)) refl) refl

pub append_one_of : (b : List ℕ) (l exam slot : ℕ) (words fcm dfcm bench : List ℕ)
    → Mem (appends_number b l exam slot words fcm dfcm bench) (0 ∷ 4 ∷ 7 ∷ 8 ∷ 9 ∷ 12 ∷ 11 ∷ 1 ∷ 2 ∷ 3 ∷ [])
append_one_of b l exam slot words fcm dfcm bench =
    verdict_one_of _ _ (one_of_more _ _ (open_in_one_of b l exam) refl)
    (verdict_one_of _ _ (one_of_more _ _ (append_to_one_of _ _ _ _ _ _ _ _ _ _) refl) (no_check_one_of _))

record_one_of : (r : Record) (words k next t f d l buffer bench : ℕ) → Mem (record_number r words k next t f d l buffer bench) (0 ∷ 15 ∷ 12 ∷ 11 ∷ 1 ∷ 2 ∷ 3 ∷ [])
unfolding record_number
record_one_of r words k next t f d l buffer bench =
    check_one_of _ 15 _ (verdict_one_of _ _ (one_of_more _ _ (append_to_one_of _ _ _ _ _ _ _ _ _ _) refl) (no_check_one_of _)) refl

goes_one_of : {words : List ℕ} {rs : List Record} {l : ℕ} {s : Lent} {n k l' : ℕ} {s' : Lent} → Goes words rs l s n k l' s' → Mem n (0 ∷ 15 ∷ 12 ∷ 11 ∷ 1 ∷ 2 ∷ 3 ∷ [])
goes_one_of done = mem-cons_self
goes_one_of (stopped e h) = mem-cast e (record_one_of _ _ _ _ _ _ _ _ _ _)
goes_one_of (went e z g) = goes_one_of g

pub append-all_one_of : {b : List ℕ} {l exam : ℕ} {records : List Record} {words fcm dfcm bench b' f' d' bench' : List ℕ} {a : Filled}
    → AppendsAll b l exam records words fcm dfcm bench a b' f' d' bench' → Mem a.number (0 ∷ 4 ∷ 7 ∷ 8 ∷ 9 ∷ 15 ∷ 12 ∷ 11 ∷ 1 ∷ 2 ∷ 3 ∷ [])
append-all_one_of {b} {l} {exam} c =
    let n = open_in_number b l exam in
    either (eqb n 0)
    (λ q. one_of_more _ _ (goes_one_of (all_fills c (eqb-true n 0 q)).goes) refl)
    (λ q. mem-cast (ap (λ (x : Filled). x.number) (all_unopened c (eqb-false n 0 q)).0) (one_of_more _ _ (open_in_one_of b l exam) refl))

pub replace_one_of : (b : List ℕ) (l exam slot n f d bench : ℕ)
    → Mem (replace_number b l exam slot n f d bench) (0 ∷ 4 ∷ 7 ∷ 8 ∷ 9 ∷ 10 ∷ 1 ∷ 2 ∷ 3 ∷ [])
unfolding replace_number
replace_one_of b l exam slot n f d bench =
    verdict_one_of _ _ (one_of_more _ _ (find_one_of b l exam slot) refl)
    (verdict_one_of _ _ (one_of_more _ _ (store_one_of _ n f d _ (length b) bench) refl) (no_check_one_of _))

pub salvage_one_of : (exam t l room : ℕ) → Mem (salvage_number exam t l room) (0 ∷ 8 ∷ 7 ∷ 3 ∷ [])
unfolding salvage_number
salvage_one_of exam t l room = check_one_of _ 8 _ (check_one_of _ 7 _ (check_one_of _ 3 _ (no_check_one_of _) refl) refl) refl
