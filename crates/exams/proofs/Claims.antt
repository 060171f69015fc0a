-- What is promised of create, open, find, locate, fetch, append, replace, append_all and salvage, each promise with one line of plain words.
use mathlib.Core.Path.{◌≡◌, refl, sym, ap, ◌∙◌}
use mathlib.Core.Bool.{false}
use mathlib.Core.Logic.{◌↔◌, ◌⊎◌, inl, inr}
use mathlib.Core.List.{List, [], ◌∷◌, ◌++◌, map, map-append, append_assoc, append-nil, Mem, mem-cast}
use Prim.Native.Nat.{ℕ, min, ◌+◌, ◌-◌, ◌*◌, ◌/◌, ◌^◌, ◌≤◌, ◌<◌}
use native.Mathlib.Numerals.{add-one}
use native.Mathlib.Omega.{arith}
use native.Mathlib.Nat.{zero-add}
use lib.Dec.{leb, eqb}
use lib.ListN.{length, get_or, take, drop, length-map}
use lib.Seq.{take-length}
use borrow.Author.Tests.{leb-true, leb-false, eqb-true, eqb-false}
use Rattle.words.specs.Words.{Words}
use Rattle.words.specs.Bytes.{Bytes}
use Rattle.words.proofs.Each.{Each, none, more, each_more, each_at, each_take, each_get}
use Rattle.words.proofs.Tests.{either}
use Rattle.answers.specs.Answers.{afterwards, over}
use Rattle.answers.proofs.Checks.{fails_here, afterwards-new, afterwards-old}
use Rattle.block_rules.specs.Codes.{Choice, dfcm_chosen, dfcm_chosen_by_bytes, Thrifty}
use Rattle.block_rules.specs.Block.{block_by, block, count, stated_length}
use Rattle.block_rules.specs.Numbers.{form_number, block_number}
use Rattle.block_rules.specs.Calls.{Unpacked}
use Rattle.exam_rules.specs.File.{entry, File, file_length, file_bytes, block_of, empty, appended, replaced}
use Rattle.exam_rules.specs.Reading.{t_in, exam_in, distance_in, entries_in, length_in, file_in, entry_of}
use Rattle.exam_rules.specs.Numbers.{open_in_number, find_number, block_in, next_slot}
use Rattle.exam_rules.specs.Calls.{opened, opened_number, opened_t, opened_entries, opened_start, Finds, located, Fetches, Creates, appends_number, Appends, replaces_number, Replaces, Lent, lent, words_of, filled, AppendsAll, salvaged, salvages_number, Salvages, Located, Made, Filled, Salvaged, Opened, Done, Refused, opened_told, located_told, made_told, filled_told, salvaged_told}
use Rattle.exam_rules.specs.declared.BlockPlace.{BlockPlace}
use Rattle.exam_rules.specs.declared.Progress.{Progress}
use Rattle.exam_rules.specs.declared.SalvagedFile.{SalvagedFile}
use Rattle.answers.specs.declared.Refusal.{Refusal}
use Rattle.answers.proofs.Told.{one_count}
use Rattle.exam_rules.proofs.Results.{one_opening, one_place, one_progress, one_salvage}
use Rattle.std.proofs.Common.{Result}
use Rattle.exam_rules.specs.declared.Trailer.{Trailer}
use Rattle.exam_rules.specs.Pieces.{blocks_of, file_of_pieces}
use Rattle.exam_rules.specs.Salvage.{block_stands, whole_blocks, numbered, salvaged_file}
use Rattle.exam_rules.specs.Maps.{Map, piece_of, file_of, piece_by, file_by, changed, renumbered_from}
use Rattle.exam_rules.specs.declared.Record.{Record}
use Rattle.block_rules.proofs.Accept.{where_nothing, where_one_answer, where_forgets}
use Rattle.exam_rules.proofs.Opens.{opens_in, t_in_lem, body-long, entries-many}
use Rattle.exam_rules.proofs.Changes.{append-stopped, change_one_answer, changes_number, changes_none}
use Rattle.exam_rules.proofs.Accept.{OpenTakes, open_takes, takes_open, FindTakes, find_takes, takes_find, FetchTakes, fetch_takes, takes_fetch, takes_create, AppendTakes, append-takes, takes-append, ReplaceTakes, replace_takes, takes_replace, opened-number, opened-done, fetches_number_lem, CreateTakes, create_takes, AppendAllTakes, foretold, foretold-takes, takes-foretold, SalvageTakes, salvage_takes, takes_salvage}
use Rattle.exam_rules.proofs.Answered.{open_in_one_of, find_one_of, fetch_one_of, create_one_of, append_one_of, append-all_one_of, replace_one_of, salvage_one_of}
use Rattle.exam_rules.proofs.Holds.{Holds, holds-length, holds_parts, holds-opens, copied-holds}
use Rattle.exam_rules.proofs.Pieces.{Wholes, created-pieces, appended-pieces, block_fetched, piece_found, piece_handed, piece_fetched, pieces_tell}
use Rattle.exam_rules.proofs.Maps.{Fit, reads_by, map-reads, maps_whole, maps_piece, alike_holds, changed-at, changed_maps, changed-fit, renumbered_fit}
use Rattle.exam_rules.proofs.Cut.{directory_states, directory_counts, never-all_whole}
use Rattle.exam_rules.proofs.Salvage.{length-numbered, blocks-whole, salvaged-is, salvaged-many, salvaged-few, salvaged-within, salvaged_stop, salvaged-ends, salvaged-long, salvaged-most, salvage_number_lem, salvage_kept, salvage_left_over, salvage_body, salvage_length, salvage_bytes, salvage_first, salvage_renumbers, salvage_beyond, salvage_holds, salvage_piece, salvage_slot, salvage_place, salvage_empty}
use Rattle.exam_rules.proofs.Rescued.{stops_at_refused, directory_no_block, intact_blocks, intact_ends, cut_shorter, kept-most, cut_salvaged, those_within, those_kept}
use Rattle.exam_rules.proofs.Kept.{found-long, found-size, found_within, found_part, more-holds, more-opens, slot_kept, slot-new}
use Rattle.exam_rules.proofs.Filling.{words_of_lem, record_numbered, record_refused, record_outside, append_to_record, record_to_append, each_none, each_one, all-opened}
use Rattle.exam_rules.proofs.Forgets.{all-forgets}
use Rattle.exam_rules.proofs.Chain.{Goes, done, stopped, went, goes-answers, all_fills, all_unopened, all_open, all_none, all-many, all-length, all_alone}
use Rattle.exam_rules.proofs.Staying.{read_fillable, holds_fillable, appended_fillable, it_went, Fillable, SlotsFit, WentIn, goes_fillable, goes-keeps, goes_in, goes-sized, goes-foretold}
use Rattle.exam_rules.proofs.Resized.{length-resized}
use Rattle.exam_rules.proofs.Exchanged.{exchanged-holds, exchanged-opens, exchanged-length, same_slots, kept_beside, place-before, place-behind, slot-entry, slot-exchanged, freed_zero, beyond-stays}

-- ---- no second answer

-- Of open's answer, the promise admits one value.
pub open_one_answer : (b : List ℕ) (l exam : ℕ) {r₁ r₂ : Opened} → r₁ ≡ opened b l exam → r₂ ≡ opened b l exam → r₁ ≡ r₂
open_one_answer b l exam p q = p ∙ sym q

-- Of the part that find hands back and of its number, refused or not, the promise admits one value each.
pub find_one_answer : {b : List ℕ} {l exam slot n₁ n₂ : ℕ} {p₁ p₂ : List ℕ} → Finds b l exam slot p₁ n₁ → Finds b l exam slot p₂ n₂ → (p₁ ≡ p₂) × (n₁ ≡ n₂)
find_one_answer p q = (p.answer ∙ sym q.answer, p.number_left ∙ sym q.number_left)

-- Of locate's answer, the promise admits one value. Here the place is fixed too.
pub locate_one_answer : (b : List ℕ) (l exam slot : ℕ) {r₁ r₂ : Located} → r₁ ≡ located b l exam slot → r₂ ≡ located b l exam slot → r₁ ≡ r₂
locate_one_answer b l exam slot p q = p ∙ sym q

-- Of fetch's answer, of both tables and of the words, refused or not, the promise admits one value each.
pub fetch_one_answer : {b : List ℕ} {l exam slot : ℕ} {fcm dfcm words f₁ d₁ w₁ f₂ d₂ w₂ : List ℕ} {r₁ r₂ : Unpacked}
    → Fetches b l exam slot fcm dfcm words r₁ f₁ d₁ w₁ → Fetches b l exam slot fcm dfcm words r₂ f₂ d₂ w₂ → (r₁ ≡ r₂) × (f₁ ≡ f₂) × (d₁ ≡ d₂) × (w₁ ≡ w₂)
fetch_one_answer p q = where_one_answer p.unpacks q.unpacks

-- Of create's answer and of the buffer, refused or not, the promise admits one value each.
pub create_one_answer : {b b₁ b₂ : List ℕ} {exam t : ℕ} {r₁ r₂ : Made} → Creates b exam t r₁ b₁ → Creates b exam t r₂ b₂ → (r₁ ≡ r₂) × (b₁ ≡ b₂)
create_one_answer p q = change_one_answer p q

-- Of append's answer, of the file, of both tables and of the bench buffer, refused or not, the promise admits one value each.
pub append_one_answer : {b : List ℕ} {l exam slot : ℕ} {words fcm dfcm bench b₁ f₁ d₁ n₁ b₂ f₂ d₂ n₂ : List ℕ} {r₁ r₂ : Made}
    → Appends b l exam slot words fcm dfcm bench r₁ b₁ f₁ d₁ n₁ → Appends b l exam slot words fcm dfcm bench r₂ b₂ f₂ d₂ n₂
    → (r₁ ≡ r₂) × (b₁ ≡ b₂) × (f₁ ≡ f₂) × (d₁ ≡ d₂) × (n₁ ≡ n₂)
append_one_answer p q =
    let f = change_one_answer p.file q.file in
    (f.0, f.1, p.fcm_left ∙ sym q.fcm_left, p.dfcm_left ∙ sym q.dfcm_left, p.bench_left ∙ sym q.bench_left)

-- Of replace's answer, of the file, of both tables and of the bench buffer, refused or not, the promise admits one value each.
pub replace_one_answer : {b : List ℕ} {l exam slot : ℕ} {words fcm dfcm bench b₁ f₁ d₁ n₁ b₂ f₂ d₂ n₂ : List ℕ} {r₁ r₂ : Made}
    → Replaces b l exam slot words fcm dfcm bench r₁ b₁ f₁ d₁ n₁ → Replaces b l exam slot words fcm dfcm bench r₂ b₂ f₂ d₂ n₂
    → (r₁ ≡ r₂) × (b₁ ≡ b₂) × (f₁ ≡ f₂) × (d₁ ≡ d₂) × (n₁ ≡ n₂)
replace_one_answer p q =
    let f = change_one_answer p.file q.file in
    (f.0, f.1, p.fcm_left ∙ sym q.fcm_left, p.dfcm_left ∙ sym q.dfcm_left, p.bench_left ∙ sym q.bench_left)

-- Of append_all's answer, of the file, of both tables and of the bench buffer, refused or not, the promise admits one value each.
pub append_all_one_answer : {b : List ℕ} {l exam : ℕ} {records : List Record} {words fcm dfcm bench b₁ f₁ d₁ n₁ b₂ f₂ d₂ n₂ : List ℕ} {a₁ a₂ : Filled}
    → AppendsAll b l exam records words fcm dfcm bench a₁ b₁ f₁ d₁ n₁ → AppendsAll b l exam records words fcm dfcm bench a₂ b₂ f₂ d₂ n₂
    → (a₁ ≡ a₂) × (b₁ ≡ b₂) × (f₁ ≡ f₂) × (d₁ ≡ d₂) × (n₁ ≡ n₂)
append_all_one_answer p q =
    (p.answer ∙ sym q.answer, p.file_left ∙ sym q.file_left, p.fcm_left ∙ sym q.fcm_left, p.dfcm_left ∙ sym q.dfcm_left, p.bench_left ∙ sym q.bench_left)

-- Of salvage's answer and of the buffer, refused or not, the promise admits one value each.
pub salvage_one_answer : {old b b₁ b₂ : List ℕ} {exam t : ℕ} {r₁ r₂ : Salvaged} → Salvages old b exam t r₁ b₁ → Salvages old b exam t r₂ b₂ → (r₁ ≡ r₂) × (b₁ ≡ b₂)
salvage_one_answer p q = (p.answer ∙ sym q.answer, p.file_left ∙ sym q.file_left)

-- What is told of an answer leaves one answer: so of the Result that a call on a file answers, and of append_all's Progress, the promise admits one value too. (Fetch tells as unpack does,
-- append and replace as create does.)
pub open_one_result : (r s : Result Trailer Refusal) → opened_told r ≡ opened_told s → r ≡ s
open_one_result r s e = one_opening r s e

pub locate_one_result : (r s : Result BlockPlace Refusal) → located_told r ≡ located_told s → r ≡ s
locate_one_result r s e = one_place r s e

pub create_one_result : (r s : Result ℕ Refusal) → made_told r ≡ made_told s → r ≡ s
create_one_result r s e = one_count r s (ap (λ (x : Made). x.number) e) (ap (λ (x : Made). x.length) e)

pub append_all_one_result : (r s : Progress) → filled_told r ≡ filled_told s → r ≡ s
append_all_one_result r s e = one_progress r s e

pub salvage_one_result : (r s : Result SalvagedFile Refusal) → salvaged_told r ≡ salvaged_told s → r ≡ s
salvage_one_result r s e = one_salvage r s e

-- ---- when each call answers 0

-- The number of open's answer is the one that find, fetch, append, append_all and replace refuse by.
pub open_refuses_for_all : (b : List ℕ) (l exam : ℕ) → opened_number (opened b l exam) ≡ open_in_number b l exam
open_refuses_for_all b l exam = opened-number b l exam

-- Open answers the trailer just where it has what it needs.
pub open_accepts : (b : List ℕ) (l exam : ℕ) → (opened_number (opened b l exam) ≡ 0) ↔ OpenTakes b l exam
open_accepts b l exam = ((λ e. open_takes b l exam (sym (opened-number b l exam) ∙ e)), (λ k. opened-number b l exam ∙ takes_open b l exam k))

-- What it then answers is read off the file: t, the number of entries and the directory's start.
pub open_answers : (b : List ℕ) (l exam : ℕ) → opened_number (opened b l exam) ≡ 0
    → (opened_t (opened b l exam) ≡ t_in (take l b)) × (opened_entries (opened b l exam) ≡ entries_in (take l b)) × (opened_start (opened b l exam) + distance_in (take l b) ≡ l)
open_answers b l exam e =
    let z = sym (opened-number b l exam) ∙ e in
    let d = opened-done b l exam z in
    let k = open_takes b l exam z in
    let ll : length (take l b) ≡ l = (opens_in b l exam z).long in (
      ap opened_t d ∙ t_in_lem (take l b),
      ap opened_entries d ∙ entries-many (take l b),
      omega (arith, ap opened_start d, body-long (take l b), k.reach),
    )

-- Find answers 0 just where the file opens and has the slot.
pub find_accepts : {b : List ℕ} {l exam slot n : ℕ} {p : List ℕ} → Finds b l exam slot p n → (n ≡ 0) ↔ FindTakes b l exam slot
find_accepts c = ((λ e. find_takes _ _ _ _ (sym c.number_left ∙ e)), (λ k. c.number_left ∙ takes_find _ _ _ _ k))

-- Fetch answers 0 just where it has what it needs, tables of 2 ^ t words among it.
pub fetch_accepts : {b : List ℕ} {l exam slot : ℕ} {fcm dfcm words f' d' w' : List ℕ} {r : Unpacked} → Fetches b l exam slot fcm dfcm words r f' d' w'
    → (r.number ≡ 0) ↔ FetchTakes b l exam slot (length fcm) (length dfcm) (length words)
fetch_accepts c = ((λ e. fetch_takes _ _ _ _ _ _ _ (sym (fetches_number_lem c) ∙ e)), (λ k. fetches_number_lem c ∙ takes_fetch _ _ _ _ _ _ _ k))

-- Create answers 0 just where the exam number is not 0, t is at most 16 and there is room for a trailer.
pub create_accepts : (exam t : ℕ) {b b' : List ℕ} {r : Made} → Creates b exam t r b' → (r.number ≡ 0) ↔ CreateTakes exam t (length b)
create_accepts exam t {b} c = ((λ e. create_takes exam t (length b) (sym (changes_number c) ∙ e)), (λ k. changes_number c ∙ takes_create exam t (length b) k))

-- Append answers 0 just where it has what it needs.
pub append_accepts : {b : List ℕ} {l exam slot : ℕ} {words fcm dfcm bench b' f' d' bench' : List ℕ} {r : Made} → Appends b l exam slot words fcm dfcm bench r b' f' d' bench'
    → (r.number ≡ 0) ↔ AppendTakes b l exam slot (length words) (length fcm) (length dfcm) (length bench)
append_accepts {words} {fcm} {dfcm} {bench} c = (
  (λ e. append-takes _ _ _ _ words fcm dfcm bench (sym (changes_number c.file) ∙ e)),
  (λ k. changes_number c.file ∙ takes-append _ _ _ _ words fcm dfcm bench k),
)

-- Replace answers 0 just where it has what it needs. It asks for no entry's room, since the entry is there.
pub replace_accepts : {b : List ℕ} {l exam slot : ℕ} {words fcm dfcm bench b' f' d' bench' : List ℕ} {r : Made} → Replaces b l exam slot words fcm dfcm bench r b' f' d' bench'
    → (r.number ≡ 0) ↔ ReplaceTakes b l exam slot (length words) (length fcm) (length dfcm) (length bench)
replace_accepts c = ((λ e. replace_takes _ _ _ _ _ _ _ _ (sym (changes_number c.file) ∙ e)), (λ k. changes_number c.file ∙ takes_replace _ _ _ _ _ _ _ _ k))

-- Where the file opens, append_all answers what `foretold` finds record by record from what is given alone: the file's t, entries, next slot and length, the words,
-- and the lengths of tables, buffer and bench buffer.
pub append_all_answers : {b : List ℕ} {l exam : ℕ} {records : List Record} {words fcm dfcm bench b' f' d' bench' : List ℕ} {a : Filled} → Bytes b → SlotsFit records
    → opened_number (opened b l exam) ≡ 0 → AppendsAll b l exam records words fcm dfcm bench a b' f' d' bench'
    → a
    ≡ foretold words (file_in (take l b)).t (length fcm) (length dfcm) (length b) (length bench) (length (file_in (take l b)).entries) (next_slot 0 (file_in (take l b)).entries) 0 l records
append_all_answers {b} {l} {exam} h w e c =
    let o = sym (opened-number b l exam) ∙ e in
    let g = all_fills c o in
    g.answer ∙ rw zero-add at (goes-foretold g.goes (read_fillable b l exam h o) w 0)

-- Where it does not open, append_all answers open's number, none in and length 0, whatever the records are, and changes nothing.
pub append_all_unopened : {b : List ℕ} {l exam : ℕ} {records : List Record} {words fcm dfcm bench b' f' d' bench' : List ℕ} {a : Filled} → AppendsAll b l exam records words fcm dfcm bench a b' f' d' bench'
    → (opened_number (opened b l exam) ≡ 0 → ⊥) → (a ≡ record { number = opened_number (opened b l exam); appended = 0; length = 0 }) × (b' ≡ b) × (f' ≡ fcm) × (d' ≡ dfcm) × (bench' ≡ bench)
append_all_unopened {b} {l} {exam} c h =
    let n = open_in_number b l exam in
    let u : n ≡ 0 → ⊥ = λ z. h (opened-number b l exam ∙ z) in
    let x = all_unopened c u in
    (x.0 ∙ rw (opened-number b l exam, afterwards-old {A = ℕ} n l 0 u), x.1, x.2, x.3, x.4)

-- Append_all answers 0 just where the file opens and each record has what it needs.
pub append_all_accepts : {b : List ℕ} {l exam : ℕ} {records : List Record} {words fcm dfcm bench b' f' d' bench' : List ℕ} {a : Filled} → Bytes b → SlotsFit records
    → AppendsAll b l exam records words fcm dfcm bench a b' f' d' bench' → (a.number ≡ 0) ↔ AppendAllTakes b l exam records words (length fcm) (length dfcm) (length bench)
append_all_accepts {b} {l} {exam} {a = a} h w c =
    let number : Filled → ℕ = λ x. x.number in (
      (λ e.
          let o = open_takes b l exam (all_open c (inl e)) in
          let x = append_all_answers h w ((open_accepts b l exam).1 o) c in
          record { opens = o; takes = foretold-takes _ _ _ _ _ _ (rw (t_in_lem (take l b)) o.t) _ _ 0 l _ (sym (ap number x) ∙ e) }),
      (λ k. ap number (append_all_answers h w ((open_accepts b l exam).1 k.opens) c) ∙ takes-foretold _ _ _ _ _ _ 0 k.takes),
    )

-- Salvage answers 0 just where the exam number is not 0, t is at most 16, and the new file fits the buffer and the limit.
pub salvage_accepts : {old b b' : List ℕ} {exam t : ℕ} {r : Salvaged} → Salvages old b exam t r b' → (r.number ≡ 0) ↔ SalvageTakes exam t (file_length (salvaged_file old exam t)) (length b)
salvage_accepts {exam = exam} {t = t} c =
    ((λ e. salvage_takes exam t _ _ (sym (salvage_number_lem c) ∙ e)), (λ k. salvage_number_lem c ∙ takes_salvage exam t _ _ k))

-- ---- every number is one of the call's list

-- Create answers 0, 8, 7 or 3.
pub create_numbers : {b b' : List ℕ} {exam t : ℕ} {r : Made} → Creates b exam t r b' → Mem r.number (0 ∷ 8 ∷ 7 ∷ 3 ∷ [])
create_numbers c = mem-cast (changes_number c) (create_one_of _ _ _)

-- Open answers 0, 4, 7, 8 or 9.
pub open_numbers : (b : List ℕ) (l exam : ℕ) → Mem (opened_number (opened b l exam)) (0 ∷ 4 ∷ 7 ∷ 8 ∷ 9 ∷ [])
open_numbers b l exam = mem-cast (opened-number b l exam) (open_in_one_of b l exam)

-- Find answers 0, one of open's numbers, or 10.
pub find_numbers : {b : List ℕ} {l exam slot n : ℕ} {p : List ℕ} → Finds b l exam slot p n → Mem n (0 ∷ 4 ∷ 7 ∷ 8 ∷ 9 ∷ 10 ∷ [])
find_numbers c = mem-cast c.number_left (find_one_of _ _ _ _)

-- So does locate.
pub locate_numbers : (b : List ℕ) (l exam slot : ℕ) → Mem (located b l exam slot).number (0 ∷ 4 ∷ 7 ∷ 8 ∷ 9 ∷ 10 ∷ [])
unfolding located
locate_numbers b l exam slot = find_one_of b l exam slot

-- Fetch answers 0, one of find's numbers, 1, one of check's, or 3.
pub fetch_numbers : {b : List ℕ} {l exam slot : ℕ} {fcm dfcm words f' d' w' : List ℕ} {r : Unpacked} → Fetches b l exam slot fcm dfcm words r f' d' w'
    → Mem r.number (0 ∷ 4 ∷ 7 ∷ 8 ∷ 9 ∷ 10 ∷ 1 ∷ 2 ∷ 5 ∷ 6 ∷ 13 ∷ 3 ∷ [])
fetch_numbers c = mem-cast (fetches_number_lem c) (fetch_one_of _ _ _ _ _ _ _)

-- Append answers 0, one of open's numbers, 12, 11, 1, 2 or 3.
pub append_numbers : {b : List ℕ} {l exam slot : ℕ} {words fcm dfcm bench b' f' d' bench' : List ℕ} {r : Made} → Appends b l exam slot words fcm dfcm bench r b' f' d' bench'
    → Mem r.number (0 ∷ 4 ∷ 7 ∷ 8 ∷ 9 ∷ 12 ∷ 11 ∷ 1 ∷ 2 ∷ 3 ∷ [])
append_numbers {b} {l} {exam} {slot} {words} {fcm} {dfcm} {bench} c = mem-cast (changes_number c.file) (append_one_of b l exam slot words fcm dfcm bench)

-- Replace answers 0, one of find's numbers, 1, 2 or 3.
pub replace_numbers : {b : List ℕ} {l exam slot : ℕ} {words fcm dfcm bench b' f' d' bench' : List ℕ} {r : Made} → Replaces b l exam slot words fcm dfcm bench r b' f' d' bench'
    → Mem r.number (0 ∷ 4 ∷ 7 ∷ 8 ∷ 9 ∷ 10 ∷ 1 ∷ 2 ∷ 3 ∷ [])
replace_numbers c = mem-cast (changes_number c.file) (replace_one_of _ _ _ _ _ _ _ _)

-- Append_all answers 0, one of open's numbers, 15, 12, 11, 1, 2 or 3.
pub append_all_numbers : {b : List ℕ} {l exam : ℕ} {records : List Record} {words fcm dfcm bench b' f' d' bench' : List ℕ} {a : Filled} → AppendsAll b l exam records words fcm dfcm bench a b' f' d' bench'
    → Mem a.number (0 ∷ 4 ∷ 7 ∷ 8 ∷ 9 ∷ 15 ∷ 12 ∷ 11 ∷ 1 ∷ 2 ∷ 3 ∷ [])
append_all_numbers c = append-all_one_of c

-- Salvage answers 0, 8, 7 or 3.
pub salvage_numbers : {old b b' : List ℕ} {exam t : ℕ} {r : Salvaged} → Salvages old b exam t r b' → Mem r.number (0 ∷ 8 ∷ 7 ∷ 3 ∷ [])
salvage_numbers c = mem-cast (salvage_number_lem c) (salvage_one_of _ _ _ _)

-- ---- a file opens only for its own exam number

-- Where open answers 0, the trailer's exam number is the one asked for, and not 0. (Find, fetch, append, append_all and replace open first.)
pub own-exam : (b : List ℕ) (l exam : ℕ) → opened_number (opened b l exam) ≡ 0 → (exam_in (take l b) ≡ exam) × (0 < exam)
own-exam b l exam e = let k = (open_accepts b l exam).0 e in (k.own, k.named)

-- So one file opens for no two exam numbers.
pub one-exam : (b : List ℕ) (l e₁ e₂ : ℕ) → opened_number (opened b l e₁) ≡ 0 → opened_number (opened b l e₂) ≡ 0 → e₁ ≡ e₂
one-exam b l e₁ e₂ p q = sym (own-exam b l e₁ p).0 ∙ (own-exam b l e₂ q).0

-- Where append_all answers 0, or a map went in, the file is the exam's.
pub append_all_own_exam : {b : List ℕ} {l exam : ℕ} {records : List Record} {words fcm dfcm bench b' f' d' bench' : List ℕ} {a : Filled} → AppendsAll b l exam records words fcm dfcm bench a b' f' d' bench'
    → (a.number ≡ 0) ⊎ (0 < a.appended) → exam_in (take l b) ≡ exam
append_all_own_exam c h = (open_takes _ _ _ (all_open c h)).own

-- ---- what the tables held before plays no part

-- Two accepted runs of fetch that differ in the tables' old content answer the same, write the same and leave equal tables.
pub fetch_forgets : {b : List ℕ} {l exam slot : ℕ} {f₁ d₁ f₂ d₂ words f₁' d₁' f₂' d₂' w₁ w₂ : List ℕ} {r₁ r₂ : Unpacked}
    → Fetches b l exam slot f₁ d₁ words r₁ f₁' d₁' w₁ → Fetches b l exam slot f₂ d₂ words r₂ f₂' d₂' w₂ → length f₁ ≡ length f₂ → length d₁ ≡ length d₂ → r₁.number ≡ 0
    → (r₁ ≡ r₂) × (f₁' ≡ f₂') × (d₁' ≡ d₂') × (w₁ ≡ w₂)
fetch_forgets p q e g z = where_forgets (rw (e, g) at p.unpacks) q.unpacks z

-- So do two accepted runs of append: the same answer, file and bench buffer, and equal tables.
pub append-forgets : {b : List ℕ} {l exam slot : ℕ} {words f₁ d₁ f₂ d₂ bench b₁ f₁' d₁' n₁ b₂ f₂' d₂' n₂ : List ℕ} {r₁ r₂ : Made}
    → Appends b l exam slot words f₁ d₁ bench r₁ b₁ f₁' d₁' n₁ → Appends b l exam slot words f₂ d₂ bench r₂ b₂ f₂' d₂' n₂ → length f₁ ≡ length f₂ → length d₁ ≡ length d₂ → r₁.number ≡ 0
    → (r₁ ≡ r₂) × (b₁ ≡ b₂) × (f₁' ≡ f₂') × (d₁' ≡ d₂') × (n₁ ≡ n₂)
append-forgets p q e g z =
    let x = sym (changes_number p.file) ∙ z in
    let y = rw (e, g) at x in (
      p.file.answer ∙ rw (e, g) (sym q.file.answer),
      p.file.file_left ∙ rw (e, g) (sym q.file.file_left),
      p.fcm_left ∙ afterwards-new _ _ _ x ∙ sym (q.fcm_left ∙ afterwards-new _ _ _ y),
      p.dfcm_left ∙ afterwards-new _ _ _ x ∙ sym (q.dfcm_left ∙ afterwards-new _ _ _ y),
      p.bench_left ∙ rw (e, g) (sym q.bench_left),
    )

-- So do two accepted runs of replace.
pub replace_forgets : {b : List ℕ} {l exam slot : ℕ} {words f₁ d₁ f₂ d₂ bench b₁ f₁' d₁' n₁ b₂ f₂' d₂' n₂ : List ℕ} {r₁ r₂ : Made}
    → Replaces b l exam slot words f₁ d₁ bench r₁ b₁ f₁' d₁' n₁ → Replaces b l exam slot words f₂ d₂ bench r₂ b₂ f₂' d₂' n₂ → length f₁ ≡ length f₂ → length d₁ ≡ length d₂ → r₁.number ≡ 0
    → (r₁ ≡ r₂) × (b₁ ≡ b₂) × (f₁' ≡ f₂') × (d₁' ≡ d₂') × (n₁ ≡ n₂)
replace_forgets p q e g z =
    let x = sym (changes_number p.file) ∙ z in
    let y = rw (e, g) at x in (
      p.file.answer ∙ rw (e, g) (sym q.file.answer),
      p.file.file_left ∙ rw (e, g) (sym q.file.file_left),
      p.fcm_left ∙ afterwards-new _ _ _ x ∙ sym (q.fcm_left ∙ afterwards-new _ _ _ y),
      p.dfcm_left ∙ afterwards-new _ _ _ x ∙ sym (q.dfcm_left ∙ afterwards-new _ _ _ y),
      p.bench_left ∙ rw (e, g) (sym q.bench_left),
    )

-- Two runs of append_all, refused or not: the same answer, file and bench buffer; and where a map went in, equal tables.
pub append_all_forgets : {b : List ℕ} {l exam : ℕ} {records : List Record} {words f₁ d₁ f₂ d₂ bench b₁ f₁' d₁' n₁ b₂ f₂' d₂' n₂ : List ℕ} {a₁ a₂ : Filled}
    → AppendsAll b l exam records words f₁ d₁ bench a₁ b₁ f₁' d₁' n₁ → AppendsAll b l exam records words f₂ d₂ bench a₂ b₂ f₂' d₂' n₂ → length f₁ ≡ length f₂ → length d₁ ≡ length d₂
    → (a₁ ≡ a₂) × (b₁ ≡ b₂) × (n₁ ≡ n₂) × (0 < a₁.appended → (f₁' ≡ f₂') × (d₁' ≡ d₂'))
append_all_forgets {b} {l} {exam} {records} {words} {f₁} {d₁} {f₂} {d₂} {bench} p q e g =
    let x = all-forgets words l b bench f₁ d₁ f₂ d₂ e g exam records in (
      p.answer ∙ x.0 ∙ sym q.answer,
      p.file_left ∙ x.1 ∙ sym q.file_left,
      p.bench_left ∙ x.2 ∙ sym q.bench_left,
      λ h.
          let y = ap (λ (r : Filled × Lent). r.1) (x.3 (rw p.answer at h)) in
          (p.fcm_left ∙ ap (λ (r : Lent). r.fcm) y ∙ sym q.fcm_left, p.dfcm_left ∙ ap (λ (r : Lent). r.dfcm) y ∙ sym q.dfcm_left),
    )

-- ---- files made by create, appends, replaces and salvage

-- The first l bytes of the buffer b are a file that create made for an exam and a t, and then an append for each of the maps, none of them refused. Between
-- two calls it may have been copied: to disk and back, say, into any buffer that begins with the same l bytes. And the words of a map may have been replaced,
-- which was not refused: then the list has the new ones. Or such a file was cut to its first k bytes, or not, and salvaged with its t, for any exam, which was not
-- refused: then the list has the maps that were kept, renumbered. All its maps are packed by the rule's choice; of files packed before, see `MadeBefore`.
pub data MadeOf : (exam t : ℕ) → List Map → List ℕ → ℕ → Type 0 where
  created : {exam t : ℕ} {b b' : List ℕ} {r : Made} → exam < 2 ^ 64 → Creates b exam t r b' → r.number ≡ 0 → MadeOf exam t [] b' r.length
  grown : {exam t : ℕ} {ms : List Map} {b : List ℕ} {l slot : ℕ} {words fcm dfcm bench b' fcm' dfcm' bench' : List ℕ} {r : Made}
      → MadeOf exam t ms b l → slot < 2 ^ 32 → Words words → Appends b l exam slot words fcm dfcm bench r b' fcm' dfcm' bench' → r.number ≡ 0
      → MadeOf exam t (ms ++ (record { slot = slot; words = words } ∷ [])) b' r.length
  exchanged : {exam t : ℕ} {ms : List Map} {b : List ℕ} {l slot : ℕ} {words fcm dfcm bench b' fcm' dfcm' bench' : List ℕ} {r : Made}
      → MadeOf exam t ms b l → Words words → Replaces b l exam slot words fcm dfcm bench r b' fcm' dfcm' bench' → r.number ≡ 0
      → MadeOf exam t (changed slot words ms) b' r.length
  copied : {exam t : ℕ} {ms : List Map} {b c : List ℕ} {l : ℕ} → MadeOf exam t ms b l → take l c ≡ take l b → MadeOf exam t ms c l
  rescued : {exam t before : ℕ} {ms : List Map} {b file file' : List ℕ} {l : ℕ} {r : Salvaged}
      → MadeOf before t ms b l → (k : ℕ) → exam < 2 ^ 64 → Salvages (take k (take l b)) file exam t r file' → r.number ≡ 0
      → MadeOf exam t (renumbered_from 0 (take r.kept ms)) file' r.length

made-fit : {exam t : ℕ} {ms : List Map} {b : List ℕ} {l : ℕ} → MadeOf exam t ms b l → Each Fit ms
made-fit (created w c e) = none
made-fit (grown h s w c e) = each_more (made-fit h) (record { few = ((append_accepts c).0 e).few_words; wide = w })
made-fit (exchanged h w c e) = changed-fit _ _ ((replace_accepts c).0 e).few_words w (made-fit h)
made-fit (copied h e) = made-fit h
made-fit (rescued {r = r} h k w c e) = renumbered_fit 0 (each_take r.kept (made-fit h))

-- its blocks are whole
made-wholes : {exam t : ℕ} {ms : List Map} {b : List ℕ} {l : ℕ} → MadeOf exam t ms b l → Wholes (map (piece_of t) ms)
unfolding block
made-wholes {t = t} m = maps_whole (λ x. dfcm_chosen) t (made-fit m)

made_holds : {exam t : ℕ} {ms : List Map} {b : List ℕ} {l : ℕ} → MadeOf exam t ms b l → Holds b l (file_of exam t ms)
made_holds (created w c e) = created-pieces w c e
made_holds {exam} {t} (grown {ms = ms} h s w c e) = rw map-append (appended-pieces exam t (map (piece_of t) ms) (made_holds h) s c e)
made_holds {exam} {t} (exchanged {ms = ms} h w c e) = changed_maps exam t ms (made_holds h) c e
made_holds (copied h e) = copied-holds (made_holds h) e
made_holds {t = t} (rescued {before = before} {ms = ms} h k w c e) = cut_salvaged before t ms (made_holds h) (made-wholes h) k w c e

-- Such a file is the bytes of its parts: the blocks of the maps in order, an entry for each, the trailer.
pub made_is_its_parts : {exam t : ℕ} {ms : List Map} {b : List ℕ} {l : ℕ} → MadeOf exam t ms b l → (take l b ≡ file_bytes (file_of exam t ms)) × (l ≡ file_length (file_of exam t ms))
made_is_its_parts m = let h = made_holds m in (h.bytes, holds-length h)

-- So two files that were made of the same maps, for the same exam and t, are the same, byte for byte.
pub made_alike : {exam t : ℕ} {ms : List Map} {b c : List ℕ} {l k : ℕ} → MadeOf exam t ms b l → MadeOf exam t ms c k → (l ≡ k) × (take l b ≡ take k c)
made_alike p q =
    let x = made_is_its_parts p in
    let y = made_is_its_parts q in
    (x.1 ∙ sym y.1, x.0 ∙ sym y.0)

-- Such a file opens for its exam number.
pub made-opens : {exam t : ℕ} {ms : List Map} {b : List ℕ} {l : ℕ} → MadeOf exam t ms b l → opened_number (opened b l exam) ≡ 0
made-opens {exam} {b = b} {l} m = opened-number b l exam ∙ holds-opens (made_holds m)

-- What open then tells is its t and the number of its maps.
pub made_tells : {exam t : ℕ} {ms : List Map} {b : List ℕ} {l : ℕ} → MadeOf exam t ms b l → (opened_t (opened b l exam) ≡ t) × (opened_entries (opened b l exam) ≡ length ms)
made_tells {exam} {t} {ms} m =
    let told = pieces_tell exam t (map (piece_of t) ms) (made_holds m) in
    (told.0, told.1 ∙ length-map ms (piece_of t))

-- Finding a slot of such a file hands back the block of the words that its list has for the slot: those that were put there last.
pub made-finds : (first : List Map) (m : Map) (rest : List Map) {exam t : ℕ} {b : List ℕ} {l : ℕ} {part : List ℕ} {number : ℕ}
    → MadeOf exam t (first ++ m ∷ rest) b l → Finds b l exam m.slot part number → (number ≡ 0) × (part ≡ block t m.words)
made-finds first m rest {exam} {t} k c = piece_handed (maps_piece (piece_of t) exam t first m rest (made_holds k)) c

-- Fetching a slot of such a file gives back exactly the words that were put there last: with tables of 2 ^ t words, whatever they hold, and whatever
-- else the file holds.
pub made_fetches : (first : List Map) (m : Map) (rest : List Map) {exam t : ℕ} {b : List ℕ} {l : ℕ} {fcm dfcm room fcm' dfcm' room' : List ℕ} {r : Unpacked}
    → MadeOf exam t (first ++ m ∷ rest) b l → Fetches b l exam m.slot fcm dfcm room r fcm' dfcm' room'
    → length fcm ≡ 2 ^ t → length dfcm ≡ 2 ^ t → length m.words ≤ length room
    → (r ≡ record { number = 0; count = length m.words }) × (room' ≡ over m.words room)
made_fetches first m rest {exam} {t} k c lf ld enough =
    piece_fetched (maps_piece (piece_of t) exam t first m rest (made_holds k)) (map-reads t m (each_at first m rest (made-fit k))) c lf ld enough

-- Where the words of a map of such a file are replaced, it is made of the changed list: every other map is the one it was, in its place.
pub made_replaces : (first : List Map) (m : Map) (rest : List Map) {exam t : ℕ} {b : List ℕ} {l : ℕ} {words fcm dfcm bench b' fcm' dfcm' bench' : List ℕ} {r : Made}
    → MadeOf exam t (first ++ m ∷ rest) b l → Words words → Replaces b l exam m.slot words fcm dfcm bench r b' fcm' dfcm' bench' → r.number ≡ 0
    → MadeOf exam t (first ++ record { slot = m.slot; words = words } ∷ rest) b' r.length
made_replaces first m rest {exam} {t} {words = words} k w c e = rw (← (changed-at exam t first m rest words (made_holds k))) (exchanged k w c e)

-- So it is the bytes of the file of the changed list.
pub replace_is_its_parts : (first : List Map) (m : Map) (rest : List Map) {exam t : ℕ} {b : List ℕ} {l : ℕ} {words fcm dfcm bench b' fcm' dfcm' bench' : List ℕ} {r : Made}
    → MadeOf exam t (first ++ m ∷ rest) b l → Words words → Replaces b l exam m.slot words fcm dfcm bench r b' fcm' dfcm' bench' → r.number ≡ 0
    → (take r.length b' ≡ file_bytes (file_of exam t (first ++ record { slot = m.slot; words = words } ∷ rest)))
    × (r.length ≡ file_length (file_of exam t (first ++ record { slot = m.slot; words = words } ∷ rest)))
replace_is_its_parts first m rest k w c e = made_is_its_parts (made_replaces first m rest k w c e)

-- And it is byte for byte the file that create and appends make afresh from the changed list, in any buffer, where none of those is refused. This is of files
-- packed wholly by the rule's choice; of others, `replace_keeps_blocks` says that the other blocks' bytes are kept as found.
pub replace_is_afresh : (first : List Map) (m : Map) (rest : List Map) {exam t : ℕ} {b c : List ℕ} {l k : ℕ} {words fcm dfcm bench b' fcm' dfcm' bench' : List ℕ} {r : Made}
    → MadeOf exam t (first ++ m ∷ rest) b l → Words words → Replaces b l exam m.slot words fcm dfcm bench r b' fcm' dfcm' bench' → r.number ≡ 0
    → MadeOf exam t (first ++ record { slot = m.slot; words = words } ∷ rest) c k → (r.length ≡ k) × (take r.length b' ≡ take k c)
replace_is_afresh first m rest h w q e afresh = made_alike (made_replaces first m rest h w q e) afresh

-- ---- files that were packed before request L2, when dfcm was chosen by leading zero bytes

-- A block that was packed before is fetched as its words: from any file that opens and has it in a slot, with tables of the file's 2 ^ t words.
pub packed_before_fetches : (words : List ℕ) {b : List ℕ} {l exam slot : ℕ} {fcm dfcm room fcm' dfcm' room' : List ℕ} {r : Unpacked} → Words words → length words ≤ 65536
    → find_number b l exam slot ≡ 0 → block_in b l slot ≡ block_by dfcm_chosen_by_bytes (file_in (take l b)).t words → Fetches b l exam slot fcm dfcm room r fcm' dfcm' room'
    → length fcm ≡ 2 ^ (file_in (take l b)).t → length dfcm ≡ 2 ^ (file_in (take l b)).t → length words ≤ length room
    → (r ≡ record { number = 0; count = length words }) × (room' ≡ over words room)
packed_before_fetches words {b} {l} {slot = slot} h few found is c lf ld enough =
    let t = (file_in (take l b)).t in
    let reads = reads_by dfcm_chosen_by_bytes t (record { slot = slot; words = words }) (record { few = few; wide = h }) in
    block_fetched t (block_by dfcm_chosen_by_bytes t words) found is refl reads c lf ld enough

-- The first l bytes of the buffer b are the file of maps of which some or all were packed before, each by a thrifty choice of its own. It is asked that the calls of
-- today make a file of the same maps: so they are at most 1,024, their slots ascend, and they fit.
pub record MadeBefore (exam t : ℕ) (ms : List Map) (b : List ℕ) (l : ℕ) : Type 0 where
  pub choice : Map → Choice
  pub thrifty : (m : Map) → Thrifty (choice m)
  pub bytes : take l b ≡ file_bytes (file_by choice exam t ms)
  pub buffer : List ℕ
  pub made : MadeOf exam t ms buffer l

earlier_holds : {exam t : ℕ} {ms : List Map} {b : List ℕ} {l : ℕ} (k : MadeBefore exam t ms b l) → Holds b l (file_by k.choice exam t ms)
earlier_holds {exam} {t} {ms} k = alike_holds k.choice k.thrifty t exam ms (made_holds k.made) k.bytes

earlier_wholes : {exam t : ℕ} {ms : List Map} {b : List ℕ} {l : ℕ} (k : MadeBefore exam t ms b l) → Wholes (map (piece_by k.choice t) ms)
earlier_wholes {t = t} k = maps_whole k.choice t (made-fit k.made)

-- Such a file opens for its exam number.
pub earlier_opens : {exam t : ℕ} {ms : List Map} {b : List ℕ} {l : ℕ} → MadeBefore exam t ms b l → opened_number (opened b l exam) ≡ 0
earlier_opens {exam} {b = b} {l} k = opened-number b l exam ∙ holds-opens (earlier_holds k)

-- What open then tells is its t and the number of its maps.
pub earlier_tells : {exam t : ℕ} {ms : List Map} {b : List ℕ} {l : ℕ} → MadeBefore exam t ms b l → (opened_t (opened b l exam) ≡ t) × (opened_entries (opened b l exam) ≡ length ms)
earlier_tells {exam} {t} {ms} k =
    let told = pieces_tell exam t (map (piece_by k.choice t) ms) (earlier_holds k) in
    (told.0, told.1 ∙ length-map ms (piece_by k.choice t))

-- Finding a slot of such a file hands back the block that was put there.
pub earlier_finds : (first : List Map) (m : Map) (rest : List Map) {exam t : ℕ} {b : List ℕ} {l : ℕ} {part : List ℕ} {number : ℕ}
    (k : MadeBefore exam t (first ++ m ∷ rest) b l) → Finds b l exam m.slot part number → (number ≡ 0) × (part ≡ block_by (k.choice m) t m.words)
earlier_finds first m rest {exam} {t} k c = piece_handed (maps_piece (piece_by k.choice t) exam t first m rest (earlier_holds k)) c

-- Fetching a slot of such a file gives back exactly the words that were put there, with tables of 2 ^ t words.
pub earlier_fetches : (first : List Map) (m : Map) (rest : List Map) {exam t : ℕ} {b : List ℕ} {l : ℕ} {fcm dfcm room fcm' dfcm' room' : List ℕ} {r : Unpacked}
    → MadeBefore exam t (first ++ m ∷ rest) b l → Fetches b l exam m.slot fcm dfcm room r fcm' dfcm' room'
    → length fcm ≡ 2 ^ t → length dfcm ≡ 2 ^ t → length m.words ≤ length room
    → (r ≡ record { number = 0; count = length m.words }) × (room' ≡ over m.words room)
earlier_fetches first m rest {exam} {t} k c lf ld enough =
    let reads = reads_by (k.choice m) t m (each_at first m rest (made-fit k.made)) in
    piece_fetched (maps_piece (piece_by k.choice t) exam t first m rest (earlier_holds k)) reads c lf ld enough

-- Cut such a file anywhere: where what is left opens, the blocks of its slots are never all whole. Of one at least the form is refused: by 4, 2, 5 or 6.
pub earlier_cut_is_never_whole : {exam t : ℕ} {ms : List Map} {b : List ℕ} {l : ℕ} → MadeBefore exam t ms b l → (k : ℕ) → k < l → (c : List ℕ) → take k c ≡ take k b
    → (asked : ℕ) → opened_number (opened c k asked) ≡ 0 → ((slot : ℕ) → find_number c k asked slot ≡ 0 → form_number (block_in c k slot) ≡ 0) → ⊥
earlier_cut_is_never_whole {exam} {t} {ms} m k short c same asked e w =
    never-all_whole exam t (map (piece_by m.choice t) ms) (earlier_holds m) (earlier_wholes m) k asked short c same (sym (opened-number c k asked) ∙ e) w

-- ---- a refusal leaves everything as it was

-- A refused create leaves the buffer as it was.
pub refused_create_changes_nothing : {b : List ℕ} {exam t : ℕ} {b' : List ℕ} {r : Made} → Creates b exam t r b' → (r.number ≡ 0 → ⊥) → (r.length ≡ 0) × (b' ≡ b)
refused_create_changes_nothing c h = (changes_none c h, c.file_left ∙ afterwards-old _ _ _ (λ z. h (changes_number c ∙ z)))

-- A refused open answers 0 for t, for the entries and for the directory's start.
pub refused_open_tells_nothing : (o : Opened) → (opened_number o ≡ 0 → ⊥) → (opened_t o ≡ 0) × (opened_entries o ≡ 0) × (opened_start o ≡ 0)
refused_open_tells_nothing (Done tr) h = absurd (h refl)
refused_open_tells_nothing (Refused k) h = (refl, refl, refl)

-- A refused find hands back an empty part.
pub refused_find_is_empty : {b : List ℕ} {l exam slot : ℕ} {part : List ℕ} {number : ℕ} → Finds b l exam slot part number → (number ≡ 0 → ⊥) → part ≡ []
refused_find_is_empty c h = c.answer ∙ afterwards-old _ _ _ (λ z. h (c.number_left ∙ z))

-- An accepted find hands back at least 8 bytes, so an empty part means refused.
pub found_is_long : {b : List ℕ} {l exam slot : ℕ} {part : List ℕ} {number : ℕ} → Finds b l exam slot part number → number ≡ 0 → 8 ≤ length part
found_is_long {b} {l} {exam} {slot} c e =
    let z = sym c.number_left ∙ e in
    rw (c.answer ∙ afterwards-new _ _ [] z) (found-long b l exam slot z)

locates : (b : List ℕ) (l exam slot : ℕ) → find_number b l exam slot ≡ 0 → (located b l exam slot).number ≡ 0
unfolding located
locates b l exam slot z = z

-- Where locate answers 0, offset and size are those of the slot's entry.
pub located-entry : (b : List ℕ) (l exam slot : ℕ) → (located b l exam slot).number ≡ 0
    → ((located b l exam slot).offset ≡ (entry_of slot (file_in (take l b))).offset) × ((located b l exam slot).size ≡ (entry_of slot (file_in (take l b))).size)
unfolding located
located-entry b l exam slot z = (afterwards-new _ _ 0 z, afterwards-new _ _ 0 z)

-- A refused locate answers 0 for the offset and for the size.
pub refused_locate_tells_nothing : (b : List ℕ) (l exam slot : ℕ) → ((located b l exam slot).number ≡ 0 → ⊥) → ((located b l exam slot).offset ≡ 0) × ((located b l exam slot).size ≡ 0)
unfolding located
refused_locate_tells_nothing b l exam slot h = (afterwards-old _ _ 0 h, afterwards-old _ _ 0 h)

-- Where locate answers 0, the file is the exam's, and the block has at least 8 bytes and lies within the file.
pub located_has : (b : List ℕ) (l exam slot : ℕ) → (located b l exam slot).number ≡ 0
    → (exam_in (take l b) ≡ exam) × (8 ≤ (located b l exam slot).size) × ((located b l exam slot).offset + (located b l exam slot).size ≤ l)
unfolding located
located_has b l exam slot z =
    let o = afterwards-new _ (entry_of slot (file_in (take l b))).offset 0 z in
    let s = afterwards-new _ (entry_of slot (file_in (take l b))).size 0 z in
    rw (o, s) ((find_takes b l exam slot z).opens.own, found-size b l exam slot z, found_within b l exam slot z)

-- Locate answers as find does. Where it is 0, the block lies within the file, and the bytes at its place are the part that find hands back.
pub located_is_found : {b : List ℕ} {l exam slot : ℕ} {part : List ℕ} {number : ℕ} {r : Located} → Finds b l exam slot part number → r ≡ located b l exam slot
    → (r.number ≡ number) × (number ≡ 0 → (r.offset + r.size ≤ l) × (part ≡ take r.size (drop r.offset b)))
unfolding located
located_is_found {b} {l} {exam} {slot} {part} c q =
    rw q (
      sym c.number_left,
      λ e.
          let z = sym c.number_left ∙ e in
          let o = afterwards-new _ (entry_of slot (file_in (take l b))).offset 0 z in
          let s = afterwards-new _ (entry_of slot (file_in (take l b))).size 0 z in
          rw (o, s) (found_within b l exam slot z, c.answer ∙ afterwards-new _ _ [] z ∙ found_part b l exam slot z),
    )

-- A refused fetch leaves both tables and the words as they were.
pub refused_fetch_changes_nothing : {b : List ℕ} {l exam slot : ℕ} {fcm dfcm words f' d' w' : List ℕ} {r : Unpacked}
    → Fetches b l exam slot fcm dfcm words r f' d' w' → (r.number ≡ 0 → ⊥) → (r.count ≡ 0) × (f' ≡ fcm) × (d' ≡ dfcm) × (w' ≡ words)
refused_fetch_changes_nothing c h = where_nothing c.unpacks h

-- A refused append changes nothing.
pub refused_append_changes_nothing : {b : List ℕ} {l exam slot : ℕ} {words fcm dfcm bench b' f' d' bench' : List ℕ} {r : Made}
    → Appends b l exam slot words fcm dfcm bench r b' f' d' bench' → (r.number ≡ 0 → ⊥) → (r.length ≡ 0) × (b' ≡ b) × (f' ≡ fcm) × (d' ≡ dfcm) × (bench' ≡ bench)
refused_append_changes_nothing {b} {l} {exam} {slot} {words} {fcm} {dfcm} {bench} c h =
    let k : appends_number b l exam slot words fcm dfcm bench ≡ 0 → ⊥ = λ z. h (changes_number c.file ∙ z) in (
      changes_none c.file h,
      c.file.file_left ∙ afterwards-old _ _ _ k,
      c.fcm_left ∙ afterwards-old _ _ _ k,
      c.dfcm_left ∙ afterwards-old _ _ _ k,
      c.bench_left ∙ afterwards-old _ _ _ k,
    )

-- A refused replace changes nothing.
pub refused_replace_changes_nothing : {b : List ℕ} {l exam slot : ℕ} {words fcm dfcm bench b' f' d' bench' : List ℕ} {r : Made}
    → Replaces b l exam slot words fcm dfcm bench r b' f' d' bench' → (r.number ≡ 0 → ⊥) → (r.length ≡ 0) × (b' ≡ b) × (f' ≡ fcm) × (d' ≡ dfcm) × (bench' ≡ bench)
refused_replace_changes_nothing {b} {l} {exam} {slot} {words} {fcm} {dfcm} {bench} c h =
    let k : replaces_number b l exam slot words fcm dfcm bench ≡ 0 → ⊥ = λ z. h (changes_number c.file ∙ z) in (
      changes_none c.file h,
      c.file.file_left ∙ afterwards-old _ _ _ k ∙ afterwards-old _ _ _ k,
      c.fcm_left ∙ afterwards-old _ _ _ k,
      c.dfcm_left ∙ afterwards-old _ _ _ k,
      c.bench_left ∙ afterwards-old _ _ _ k,
    )

-- A refused append_all with none in changes nothing.
pub refused_append_all_changes_nothing : {b : List ℕ} {l exam : ℕ} {records : List Record} {words fcm dfcm bench b' f' d' bench' : List ℕ} {a : Filled} → AppendsAll b l exam records words fcm dfcm bench a b' f' d' bench'
    → (a.number ≡ 0 → ⊥) → a.appended ≡ 0 → (a.length ≡ 0) × (b' ≡ b) × (f' ≡ fcm) × (d' ≡ dfcm) × (bench' ≡ bench)
refused_append_all_changes_nothing c h z = all_none c h z

-- A refused salvage changes nothing, and answers 0 for the length, for what was kept, for what was left over and for the renumbering.
pub refused_salvage_changes_nothing : {old b b' : List ℕ} {exam t : ℕ} {r : Salvaged} → Salvages old b exam t r b' → (r.number ≡ 0 → ⊥)
    → (r.length ≡ 0) × (r.kept ≡ 0) × (r.left_over ≡ 0) × (r.renumbered ≡ 0) × (b' ≡ b)
unfolding salvaged
refused_salvage_changes_nothing {old} {b} {exam = exam} {t = t} c h =
    let k : salvages_number old b exam t ≡ 0 → ⊥ = λ z. h (salvage_number_lem c ∙ z) in (
      ap (λ (x : Salvaged). x.length) c.answer ∙ afterwards-old _ _ 0 k,
      ap (λ (x : Salvaged). x.kept) c.answer ∙ afterwards-old _ _ 0 k,
      ap (λ (x : Salvaged). x.left_over) c.answer ∙ afterwards-old _ _ 0 k,
      ap (λ (x : Salvaged). x.renumbered) c.answer ∙ afterwards-old _ _ 0 k,
      c.file_left ∙ afterwards-old _ _ b k,
    )

-- ---- an append keeps what was there

-- An accepted append to any file that opens makes a file that opens for the same exam number: the same parts, with one block and one entry more.
pub append-adds : {b : List ℕ} {l exam slot : ℕ} {words fcm dfcm bench b' fcm' dfcm' bench' : List ℕ} {r : Made} → Bytes b → slot < 2 ^ 32
    → Appends b l exam slot words fcm dfcm bench r b' fcm' dfcm' bench' → r.number ≡ 0
    → (file_in (take r.length b') ≡ appended (file_in (take l b)) slot (block (file_in (take l b)).t words)) × (opened_number (opened b' r.length exam) ≡ 0)
append-adds {exam = exam} {b' = b'} {r = r} h w c e = (holds_parts (more-holds h w c e), opened-number b' r.length exam ∙ more-opens h w c e)

-- Every slot that find gave before it gives afterwards: the same entry, so the same place, and the same block.
pub append_keeps_slots : {b : List ℕ} {l exam slot : ℕ} {words fcm dfcm bench b' fcm' dfcm' bench' : List ℕ} {r : Made} → Bytes b → slot < 2 ^ 32
    → Appends b l exam slot words fcm dfcm bench r b' fcm' dfcm' bench' → r.number ≡ 0 → (s : ℕ) → find_number b l exam s ≡ 0
    → (find_number b' r.length exam s ≡ 0) × (entry_of s (file_in (take r.length b')) ≡ entry_of s (file_in (take l b))) × (block_in b' r.length s ≡ block_in b l s)
append_keeps_slots h w c e s z = slot_kept h w c e s z

-- And what was appended is fetched, word for word: from any file that opens, whoever made it, with tables of the same size.
pub append_fetches : {b : List ℕ} {l exam slot : ℕ} {words fcm dfcm bench b' fcm' dfcm' bench' f₂ d₂ room f₂' d₂' room' : List ℕ} {r : Made} {s : Unpacked} → Bytes b → slot < 2 ^ 32 → Words words
    → Appends b l exam slot words fcm dfcm bench r b' fcm' dfcm' bench' → r.number ≡ 0
    → Fetches b' r.length exam slot f₂ d₂ room s f₂' d₂' room' → length f₂ ≡ length fcm → length d₂ ≡ length dfcm → length words ≤ length room
    → (s ≡ record { number = 0; count = length words }) × (room' ≡ over words room)
append_fetches {b} {l} {exam} {slot} {words} h w v c e q lf ld enough =
    let t = (file_in (take l b)).t in
    let k = (append_accepts c).0 e in
    let n = slot-new h w c e in
    let reads = map-reads t (record { slot = slot; words = words }) (record { few = k.few_words; wide = v }) in
    block_fetched t (block t words) n.0 n.1 (ap (λ (f : File). f.t) (holds_parts (more-holds h w c e))) reads q (lf ∙ k.fcm_long) (ld ∙ k.dfcm_long ∙ k.fcm_long) enough

-- ---- append_all is append, one record after another

-- With no record it changes nothing, and answers open's number, none in, and where that is 0 the length that was given.
pub append_all_of_none : {b : List ℕ} {l exam : ℕ} {words fcm dfcm bench b' f' d' bench' : List ℕ} {a : Filled} → AppendsAll b l exam [] words fcm dfcm bench a b' f' d' bench'
    → (a ≡ record { number = open_in_number b l exam; appended = 0; length = afterwards (open_in_number b l exam) l 0 }) × (b' ≡ b) × (f' ≡ fcm) × (d' ≡ dfcm) × (bench' ≡ bench)
append_all_of_none {b} {l} {exam} {words} {fcm} {dfcm} {bench} c =
    let n = open_in_number b l exam in
    let s = lent b fcm dfcm bench in
    either (eqb n 0)
    (λ q.
    let z = eqb-true n 0 q in
    rw (c.answer, c.file_left, c.fcm_left, c.dfcm_left, c.bench_left, all-opened l exam [] words s z ∙ each_none words 0 l s, z) (refl, refl, refl, refl, refl))
    (λ q. all_unopened c (eqb-false n 0 q))

-- With one record, within the words, it answers append's number and length for the record's words and leaves what append leaves, and answers one in where that is 0.
pub append_all_of_one : {b : List ℕ} {l exam : ℕ} {r : Record} {words fcm dfcm bench b' f' d' bench' : List ℕ} {a : Filled} → r.first + r.count ≤ length words
    → AppendsAll b l exam (r ∷ []) words fcm dfcm bench a b' f' d' bench'
    → Appends b l exam r.slot (words_of r words) fcm dfcm bench (record { number = a.number; length = a.length }) b' f' d' bench' × (a.appended ≡ afterwards a.number 1 0)
append_all_of_one {b} {l} {exam} {r} {words} {fcm} {dfcm} {bench} h c =
    let n = open_in_number b l exam in
    let s = lent b fcm dfcm bench in
    either (eqb n 0)
    (λ q.
    let o = eqb-true n 0 q in
    let e = all-opened l exam (r ∷ []) words s o ∙ each_one words r l s in
    rw (c.answer, c.file_left, c.fcm_left, c.dfcm_left, c.bench_left, e) (record_to_append words r l s h o refl, refl))
    (λ q.
    let u = eqb-false n 0 q in
    let x = all_unopened c u in
    rw (x.0, x.1, x.2, x.3, x.4, afterwards-old {A = ℕ} n l 0 u, afterwards-old {A = ℕ} n 1 0 u) (append-stopped b l exam r.slot (words_of r words) fcm dfcm bench n (fails_here _ _ _ refl u) u, refl))

-- Appends one after another, from a file of l bytes and what is lent on: for each record append is called with its slot and its words, on the file that the one
-- before left. They end where no record is left, which answers 0; at a record that reaches beyond the words, which answers 15 and calls nothing; or at a refused
-- append, with its number. Told are the number, how many went in, the length reached and what is left.
pub data OneAfterAnother (exam : ℕ) (words : List ℕ) : List Record → (l : ℕ) → Lent → (number k l' : ℕ) → Lent → Type 0 where
  no_more : {l : ℕ} {s : Lent} → OneAfterAnother exam words [] l s 0 0 l s
  beyond : {r : Record} {rs : List Record} {l : ℕ} {s : Lent} → length words < r.first + r.count → OneAfterAnother exam words (r ∷ rs) l s 15 0 l s
  refused : {r : Record} {rs : List Record} {l : ℕ} {s s' : Lent} {m : Made} → r.first + r.count ≤ length words
      → Appends s.file l exam r.slot (words_of r words) s.fcm s.dfcm s.bench m s'.file s'.fcm s'.dfcm s'.bench → (m.number ≡ 0 → ⊥)
      → OneAfterAnother exam words (r ∷ rs) l s m.number 0 l s'
  went_in : {r : Record} {rs : List Record} {l : ℕ} {s s' s'' : Lent} {m : Made} {n k l' : ℕ} → r.first + r.count ≤ length words
      → Appends s.file l exam r.slot (words_of r words) s.fcm s.dfcm s.bench m s'.file s'.fcm s'.dfcm s'.bench → m.number ≡ 0
      → OneAfterAnother exam words rs m.length s' n k l' s'' → OneAfterAnother exam words (r ∷ rs) l s n (k + 1) l' s''

they_go : {exam : ℕ} {words : List ℕ} {rs : List Record} {l n k l' : ℕ} {s s' : Lent} → OneAfterAnother exam words rs l s n k l' s' → Fillable s.file l exam → SlotsFit rs
    → Goes words rs l s n k l' s'
they_go no_more f w = done
they_go {words = words} (beyond {r = r} {l = l} {s = s} h) f w =
    stopped (sym (ap (λ (p : Made × Lent). p.0.number) (record_outside words r l s h)) ∙ record_numbered words r l s) (λ z. omega arith)
they_go {exam} {words} (refused {r = r} {l = l} {s = s} {m = m} h c u) f w =
    let e = append_to_record words r l s h {exam = exam} f.opens c in
    let n = ap (λ (p : Made × Lent). p.0.number) e ∙ record_numbered words r l s in
    rw (ap (λ (p : Made × Lent). p.1) (e ∙ record_refused words r l s m.number n u)) (stopped n u)
they_go {exam} {words} (went_in {r = r} {l = l} {s = s} h c z g) f (more w ws) = went (append_to_record words r l s h {exam = exam} f.opens c) z (they_go g (appended_fillable f w c z) ws)

are_appends : {words : List ℕ} {rs : List Record} {l n k l' : ℕ} {s s' : Lent} {exam : ℕ} → Goes words rs l s n k l' s' → Fillable s.file l exam → SlotsFit rs
    → OneAfterAnother exam words rs l s n k l' s'
are_appends done f w = no_more
are_appends {words} {exam = exam} (stopped {r = r} {l = l} {s = s} {n = n} e u) f w =
    let x = record_refused words r l s n e u in
    either (leb (r.first + r.count) (length words))
    (λ q. let h = leb-true _ _ q in refused {m = record { number = n; length = 0 }} h (record_to_append words r l s h f.opens (sym x)) u)
    (λ q.
    let h = leb-false _ _ q in
    rw (ap (λ (p : Made × Lent). p.0.number) (sym x ∙ record_outside words r l s h)) (beyond h))
are_appends {words} {exam = exam} (went {r = r} {l = l} {s = s} e z g) f (more w ws) =
    let i = it_went exam words r l s f.opens e z in
    went_in i.inside i.appends z (are_appends g (appended_fillable f w i.appends z) ws)

-- Where the file opens, what append_all answers and leaves is what appends one after another answer and leave.
pub append_all_is_appends : {b : List ℕ} {l exam : ℕ} {records : List Record} {words fcm dfcm bench b' f' d' bench' : List ℕ} {a : Filled} {n k l' : ℕ} {s' : Lent} → Bytes b → SlotsFit records
    → opened_number (opened b l exam) ≡ 0 → OneAfterAnother exam words records l (lent b fcm dfcm bench) n k l' s' → AppendsAll b l exam records words fcm dfcm bench a b' f' d' bench'
    → (a ≡ filled n k l') × (b' ≡ s'.file) × (f' ≡ s'.fcm) × (d' ≡ s'.dfcm) × (bench' ≡ s'.bench)
append_all_is_appends {b} {l} {exam} {records} {words} {fcm} {dfcm} {bench} {k = k} h w e g c =
    let o = sym (opened-number b l exam) ∙ e in
    let q = all-opened l exam records words (lent b fcm dfcm bench) o ∙ goes-answers (they_go g (read_fillable b l exam h o) w) 0 in
    rw (c.answer, c.file_left, c.fcm_left, c.dfcm_left, c.bench_left, q, zero-add k) (refl, refl, refl, refl, refl)

-- the appends that an answer comes from
pub record ItsAppends (exam : ℕ) (words : List ℕ) (records : List Record) (l : ℕ) (s : Lent) (a : Filled) (s' : Lent) : Type 0 where
  pub reached : ℕ
  pub appends : OneAfterAnother exam words records l s a.number a.appended reached s'
  pub answer : a ≡ filled a.number a.appended reached

-- And there are such appends: with the number that it answers, and as many in.
pub append_all_has_its_appends : {b : List ℕ} {l exam : ℕ} {records : List Record} {words fcm dfcm bench b' f' d' bench' : List ℕ} {a : Filled} → Bytes b → SlotsFit records
    → opened_number (opened b l exam) ≡ 0 → AppendsAll b l exam records words fcm dfcm bench a b' f' d' bench'
    → ItsAppends exam words records l (lent b fcm dfcm bench) a (lent b' f' d' bench')
append_all_has_its_appends {b} {l} {exam} h w e c =
    let o = sym (opened-number b l exam) ∙ e in
    let g = all_fills c o in
    record { reached = g.reached; appends = are_appends g.goes (read_fillable b l exam h o) w; answer = g.answer }

-- No more maps go in than there are records, and all where none is refused. Where the file opens and the call is refused there is a record at the place of the count:
-- the refused one.
pub append_all_counts : {b : List ℕ} {l exam : ℕ} {records : List Record} {words fcm dfcm bench b' f' d' bench' : List ℕ} {a : Filled} → AppendsAll b l exam records words fcm dfcm bench a b' f' d' bench'
    → (a.appended ≤ length records) × (a.number ≡ 0 → a.appended ≡ length records)
    × (opened_number (opened b l exam) ≡ 0 → (a.number ≡ 0 → ⊥) → a.appended < length records)
append_all_counts {b} {l} {exam} c = let t = all-many c in (t.0, t.1, λ o. t.2 (sym (opened-number b l exam) ∙ o))

-- A refused record changes nothing: where maps went in, the list of their records alone answers 0, as many in and the same length, and leaves the same.
pub refused_record_changes_nothing : {b : List ℕ} {l exam : ℕ} {records : List Record} {words fcm dfcm bench b' f' d' bench' : List ℕ} {a : Filled} → AppendsAll b l exam records words fcm dfcm bench a b' f' d' bench' → 0 < a.appended
    → AppendsAll b l exam (take a.appended records) words fcm dfcm bench (record { number = 0; appended = a.appended; length = a.length }) b' f' d' bench'
refused_record_changes_nothing c h = all_alone c h

-- Where it answers 0, or a map went in, the file that is left opens for the same exam number.
pub append_all_opens : {b : List ℕ} {l exam : ℕ} {records : List Record} {words fcm dfcm bench b' f' d' bench' : List ℕ} {a : Filled} → Bytes b → SlotsFit records
    → AppendsAll b l exam records words fcm dfcm bench a b' f' d' bench' → (a.number ≡ 0) ⊎ (0 < a.appended) → opened_number (opened b' a.length exam) ≡ 0
append_all_opens {b} {l} {exam} {b' = b'} {a = a} h w c e =
    let o = all_open c e in
    let g = all_fills c o in
    opened-number b' a.length exam ∙ rw (all-length c e g) (goes_fillable g.goes (read_fillable b l exam h o) w).opens

-- Every slot that find gave before it gives afterwards: the same entry, so the same place, and the same block.
pub append_all_keeps_slots : {b : List ℕ} {l exam : ℕ} {records : List Record} {words fcm dfcm bench b' f' d' bench' : List ℕ} {a : Filled} → Bytes b → SlotsFit records
    → AppendsAll b l exam records words fcm dfcm bench a b' f' d' bench' → (a.number ≡ 0) ⊎ (0 < a.appended) → (s : ℕ) → find_number b l exam s ≡ 0
    → (find_number b' a.length exam s ≡ 0) × (entry_of s (file_in (take a.length b')) ≡ entry_of s (file_in (take l b))) × (block_in b' a.length s ≡ block_in b l s)
append_all_keeps_slots {b} {l} {exam} h w c e s z =
    let o = all_open c e in
    let g = all_fills c o in
    rw (all-length c e g) (goes-keeps g.goes (read_fillable b l exam h o) w s z)

-- the map of a record, among the words lent
abbrev pub map_of : List ℕ → Record → Map
map_of words r = record { slot = r.slot; words = words_of r words }

-- And what went in is fetched, word for word: from any file that opens, whoever made it, with tables of the same size.
pub append_all_fetches : (first : List Record) (r : Record) (rest : List Record) {b : List ℕ} {l exam : ℕ} {words fcm dfcm bench b' f' d' bench' f₂ d₂ room f₂' d₂' room' : List ℕ} {a : Filled} {s : Unpacked}
    → Bytes b → SlotsFit (first ++ r ∷ rest) → Words words → AppendsAll b l exam (first ++ r ∷ rest) words fcm dfcm bench a b' f' d' bench' → length first < a.appended
    → Fetches b' a.length exam r.slot f₂ d₂ room s f₂' d₂' room' → length f₂ ≡ length fcm → length d₂ ≡ length dfcm → r.count ≤ length room
    → (s ≡ record { number = 0; count = r.count }) × (room' ≡ over (words_of r words) room)
append_all_fetches first r rest {b} {l} {exam} {words} {b' = b'} {room = room} {room' = room'} {a = a} {s = s} h w v c less q lf ld enough =
    let t = (file_in (take l b)).t in
    let some : (a.number ≡ 0) ⊎ (0 < a.appended) = inr (omega (arith, less)) in
    let o = all_open c some in
    let f = read_fillable b l exam h o in
    let g = all_fills c o in
    let i : WentIn exam words r t b' a.length = rw (all-length c some g) (goes_in first r rest g.goes f w less) in
    let sized = goes-sized g.goes f (omega (arith, less)) in
    let reads = map-reads t (map_of words r) (record { few = omega (arith, i.long, i.few); wide = words_of_lem r words v }) in
    let x = block_fetched t (block t (words_of r words)) i.found i.is i.t-is reads q (lf ∙ sized.0) (ld ∙ sized.1) (omega (arith, i.long, enough)) in
    (x.0 ∙ ap (λ (n : ℕ). record { number = 0; count = n }) i.long, x.1)

made_of_all : {exam t : ℕ} {words : List ℕ} {ms : List Map} {rs : List Record} {l n k l' : ℕ} {s s' : Lent} → MadeOf exam t ms s.file l → SlotsFit rs → Words words
    → OneAfterAnother exam words rs l s n k l' s' → MadeOf exam t (ms ++ map (map_of words) (take k rs)) s'.file l'
made_of_all {ms = ms} m w v no_more = rw (append-nil ms) m
made_of_all {ms = ms} m w v (beyond h) = rw (append-nil ms) m
made_of_all {ms = ms} m w v (refused h c u) = rw (append-nil ms, (refused_append_changes_nothing c u).1) m
made_of_all {exam} {t} {words} {ms} m (more w ws) v (went_in {r = r} {rs = rs} {k = k} h c z g) =
    rw (add-one k, ← (append_assoc ms (map_of words r ∷ []) (map (map_of words) (take k rs)))) (made_of_all {ms = ms ++ (map_of words r ∷ [])} (grown m w (words_of_lem r words v) c z) ws v g)

-- A file that these calls made, where append_all answers 0 or a map went in, is made of its maps and then one for each record that went in. So
-- `made_fetches` speaks of each of them.
pub made_append_all : {exam t : ℕ} {ms : List Map} {b : List ℕ} {l : ℕ} {records : List Record} {words fcm dfcm bench b' f' d' bench' : List ℕ} {a : Filled} → MadeOf exam t ms b l → SlotsFit records
    → Words words → AppendsAll b l exam records words fcm dfcm bench a b' f' d' bench' → (a.number ≡ 0) ⊎ (0 < a.appended)
    → MadeOf exam t (ms ++ map (map_of words) (take a.appended records)) b' a.length
made_append_all m w v c e =
    let g = all_fills c (all_open c e) in
    rw (all-length c e g) (made_of_all m w v (are_appends g.goes (holds_fillable (made_holds m)) w))

-- ---- a replace exchanges one block and keeps all else

-- An accepted replace in any file that opens makes a file that opens for the same exam number: the same parts, with the block of the words in the slot's
-- place.
pub replace_exchanges : {b : List ℕ} {l exam slot : ℕ} {words fcm dfcm bench b' fcm' dfcm' bench' : List ℕ} {r : Made} → Bytes b
    → Replaces b l exam slot words fcm dfcm bench r b' fcm' dfcm' bench' → r.number ≡ 0
    → (file_in (take r.length b') ≡ replaced (file_in (take l b)) (entry_of slot (file_in (take l b))) (block (file_in (take l b)).t words)) × (opened_number (opened b' r.length exam) ≡ 0)
replace_exchanges {exam = exam} {b' = b'} {r = r} h c e = (holds_parts (exchanged-holds c e h), opened-number b' r.length exam ∙ exchanged-opens c e h)

-- Edition, t and the number of entries are what they were.
pub replace_keeps_trailer : {b : List ℕ} {l exam slot : ℕ} {words fcm dfcm bench b' fcm' dfcm' bench' : List ℕ} {r : Made} → Bytes b
    → Replaces b l exam slot words fcm dfcm bench r b' fcm' dfcm' bench' → r.number ≡ 0
    → ((file_in (take r.length b')).edition ≡ (file_in (take l b)).edition) × ((file_in (take r.length b')).t ≡ (file_in (take l b)).t)
    × (length (file_in (take r.length b')).entries ≡ length (file_in (take l b)).entries)
replace_keeps_trailer {b} {l} {exam} {slot} {words} h c e =
    let f = file_in (take l b) in
    rw (holds_parts (exchanged-holds c e h)) (refl, refl, length-resized (entry_of slot f).slot (length (block f.t words)) f.entries)

-- Its length changes by the difference of the two blocks.
pub replace_length : {b : List ℕ} {l exam slot : ℕ} {words fcm dfcm bench b' fcm' dfcm' bench' : List ℕ} {r : Made}
    → Replaces b l exam slot words fcm dfcm bench r b' fcm' dfcm' bench' → r.number ≡ 0
    → r.length + (entry_of slot (file_in (take l b))).size ≡ l + length (block (file_in (take l b)).t words)
replace_length c e = exchanged-length c e

-- It has the slots that it had: find answers the same number for every slot.
pub replace_keeps_slots : {b : List ℕ} {l exam slot : ℕ} {words fcm dfcm bench b' fcm' dfcm' bench' : List ℕ} {r : Made} → Bytes b
    → Replaces b l exam slot words fcm dfcm bench r b' fcm' dfcm' bench' → r.number ≡ 0 → (s : ℕ) → find_number b' r.length exam s ≡ find_number b l exam s
replace_keeps_slots h c e s = same_slots c e h s

-- Every other slot keeps its entry's slot and size, and the bytes of its block.
pub replace_keeps_blocks : {b : List ℕ} {l exam slot : ℕ} {words fcm dfcm bench b' fcm' dfcm' bench' : List ℕ} {r : Made} → Bytes b
    → Replaces b l exam slot words fcm dfcm bench r b' fcm' dfcm' bench' → r.number ≡ 0 → (s : ℕ) → (s ≡ slot → ⊥) → find_number b l exam s ≡ 0
    → ((entry_of s (file_in (take r.length b'))).slot ≡ (entry_of s (file_in (take l b))).slot) × ((entry_of s (file_in (take r.length b'))).size ≡ (entry_of s (file_in (take l b))).size)
    × (block_in b' r.length s ≡ block_in b l s)
replace_keeps_blocks h c e s n z = kept_beside c e h s n z

-- A block that stood before keeps its offset; a later offset moves by the difference of the two blocks.
pub replace_moves_later : {b : List ℕ} {l exam slot : ℕ} {words fcm dfcm bench b' fcm' dfcm' bench' : List ℕ} {r : Made} → Bytes b
    → Replaces b l exam slot words fcm dfcm bench r b' fcm' dfcm' bench' → r.number ≡ 0 → (s : ℕ) → (s ≡ slot → ⊥) → find_number b l exam s ≡ 0
    → ((entry_of s (file_in (take l b))).offset ≤ (entry_of slot (file_in (take l b))).offset
    → (entry_of s (file_in (take r.length b'))).offset ≡ (entry_of s (file_in (take l b))).offset)
    × ((entry_of slot (file_in (take l b))).offset < (entry_of s (file_in (take l b))).offset
    → (entry_of s (file_in (take r.length b'))).offset + (entry_of slot (file_in (take l b))).size
    ≡ (entry_of s (file_in (take l b))).offset + length (block (file_in (take l b)).t words))
replace_moves_later h c e s n z = (place-before c e h s n z, place-behind c e h s n z)

-- The replaced slot keeps its offset, and its block is the block of the words.
pub replace_puts_block : {b : List ℕ} {l exam slot : ℕ} {words fcm dfcm bench b' fcm' dfcm' bench' : List ℕ} {r : Made} → Bytes b
    → Replaces b l exam slot words fcm dfcm bench r b' fcm' dfcm' bench' → r.number ≡ 0
    → (entry_of slot (file_in (take r.length b')) ≡ entry slot (entry_of slot (file_in (take l b))).offset (length (block (file_in (take l b)).t words)))
    × (block_in b' r.length slot ≡ block (file_in (take l b)).t words)
replace_puts_block h c e = (slot-entry c e h, (slot-exchanged c e h).1)

-- And what was put there is fetched, word for word, with tables of the same size.
pub replace_fetches : {b : List ℕ} {l exam slot : ℕ} {words fcm dfcm bench b' fcm' dfcm' bench' f₂ d₂ room f₂' d₂' room' : List ℕ} {r : Made} {s : Unpacked} → Bytes b → Words words
    → Replaces b l exam slot words fcm dfcm bench r b' fcm' dfcm' bench' → r.number ≡ 0
    → Fetches b' r.length exam slot f₂ d₂ room s f₂' d₂' room' → length f₂ ≡ length fcm → length d₂ ≡ length dfcm → length words ≤ length room
    → (s ≡ record { number = 0; count = length words }) × (room' ≡ over words room)
replace_fetches {b} {l} {exam} {slot} {words} h v c e q lf ld enough =
    let t = (file_in (take l b)).t in
    let k = (replace_accepts c).0 e in
    let n = slot-exchanged c e h in
    let reads = map-reads t (record { slot = slot; words = words }) (record { few = k.few_words; wide = v }) in
    block_fetched t (block t words) n.0 n.1 (ap (λ (f : File). f.t) (holds_parts (exchanged-holds c e h))) reads q (lf ∙ k.fcm_long) (ld ∙ k.dfcm_long ∙ k.fcm_long) enough

-- Freed bytes are 0: those between the new end and the old end, where the file got shorter. They were patient data.
pub freed_bytes_are_zero : {b : List ℕ} {l exam slot : ℕ} {words fcm dfcm bench b' fcm' dfcm' bench' : List ℕ} {r : Made}
    → Replaces b l exam slot words fcm dfcm bench r b' fcm' dfcm' bench' → r.number ≡ 0 → (i d : ℕ) → r.length ≤ i → i < l → get_or b' i d ≡ 0
freed_bytes_are_zero c e i d h k = freed_zero c e i d h k

-- Beyond both ends the buffer is as it was.
pub replace_leaves_the_rest : {b : List ℕ} {l exam slot : ℕ} {words fcm dfcm bench b' fcm' dfcm' bench' : List ℕ} {r : Made}
    → Replaces b l exam slot words fcm dfcm bench r b' fcm' dfcm' bench' → r.number ≡ 0 → (i d : ℕ) → r.length ≤ i → l ≤ i → get_or b' i d ≡ get_or b i d
replace_leaves_the_rest c e i d h k = beyond-stays c e i d h k

-- ---- nothing cut short

-- No file opens whose own trailer, at its end, does not state its length.
pub trailer_states_length : (b : List ℕ) (l exam : ℕ) → opened_number (opened b l exam) ≡ 0 → length_in (take l b) ≡ l
trailer_states_length b l exam e = ((open_accepts b l exam).0 e).stated

-- Fetch never unpacks a block that is not whole.
pub fetched_is_whole : {b : List ℕ} {l exam slot : ℕ} {fcm dfcm words f' d' w' : List ℕ} {r : Unpacked} → Fetches b l exam slot fcm dfcm words r f' d' w' → r.number ≡ 0
    → block_number (block_in b l slot) ≡ 0
fetched_is_whole c e = ((fetch_accepts c).0 e).whole

-- Cut a file made by these calls anywhere, and let a buffer begin with what is left. Whatever number is asked, where it opens the blocks of its slots
-- are never all whole: of one at least the form is refused, by 4, 2, 5 or 6. And fetch unpacks none that is not whole.
pub cut_is_never_whole : {exam t : ℕ} {ms : List Map} {b : List ℕ} {l : ℕ} → MadeOf exam t ms b l → (k : ℕ) → k < l → (c : List ℕ) → take k c ≡ take k b
    → (asked : ℕ) → opened_number (opened c k asked) ≡ 0 → ((slot : ℕ) → find_number c k asked slot ≡ 0 → form_number (block_in c k slot) ≡ 0) → ⊥
cut_is_never_whole {exam} {t} {ms} m k short c same asked e w =
    never-all_whole exam t (map (piece_of t) ms) (made_holds m) (made-wholes m) k asked short c same (sym (opened-number c k asked) ∙ e) w

-- ---- what salvage makes of any bytes

-- Where it is not refused, its file opens for the exam given, with the t given and as many entries as blocks were kept.
pub salvage_opens : {old b b' : List ℕ} {exam t : ℕ} {r : Salvaged} → exam < 2 ^ 64 → Salvages old b exam t r b' → r.number ≡ 0
    → (opened_number (opened b' r.length exam) ≡ 0) × (opened_t (opened b' r.length exam) ≡ t) × (opened_entries (opened b' r.length exam) ≡ r.kept)
salvage_opens {old} {b' = b'} {exam = exam} {t = t} {r = r} w c e =
    let h = rw (salvaged-is old exam t) at (salvage_holds c e w) in
    let told = pieces_tell exam t (numbered 0 (whole_blocks 1024 old)) h in
    (opened-number b' r.length exam ∙ holds-opens h, told.0, told.1 ∙ length-numbered 0 (whole_blocks 1024 old) ∙ sym (salvage_kept c e))

-- It is the bytes of the file of the blocks that stand whole at the start of the old bytes, with slots from 0 up. Its edition is 1.
pub salvage_is_its_bytes : {old b b' : List ℕ} {exam t : ℕ} {r : Salvaged} → Salvages old b exam t r b' → r.number ≡ 0
    → take r.length b' ≡ file_bytes (file_of_pieces exam t (numbered 0 (whole_blocks 1024 old)))
salvage_is_its_bytes {old} {exam = exam} {t = t} c e = salvage_bytes c e ∙ ap file_bytes (salvaged-is old exam t)

-- So these are the parts that are read of it.
pub salvage_is_its_parts : {old b b' : List ℕ} {exam t : ℕ} {r : Salvaged} → exam < 2 ^ 64 → Salvages old b exam t r b' → r.number ≡ 0
    → file_in (take r.length b') ≡ file_of_pieces exam t (numbered 0 (whole_blocks 1024 old))
salvage_is_its_parts {old} {exam = exam} {t = t} w c e = holds_parts (salvage_holds c e w) ∙ salvaged-is old exam t

-- Each old byte is kept or left over: the blocks kept are the first of them, unchanged, and stand at the new file's start.
pub salvage_keeps_bytes : {old b b' : List ℕ} {exam t : ℕ} {r : Salvaged} → Salvages old b exam t r b' → r.number ≡ 0
    → (r.left_over ≤ length old) × (take (length old - r.left_over) b' ≡ take (length old - r.left_over) old)
salvage_keeps_bytes c e = (omega (arith, salvage_left_over c e), rw (salvage_body c e) (salvage_first c e))

-- The new file is those bytes, 12 for each block kept, and 32. At most 1,024 blocks are kept, each has at least 8 bytes, and the answer says that slots are renumbered.
pub salvage_counts : {old b b' : List ℕ} {exam t : ℕ} {r : Salvaged} → Salvages old b exam t r b' → r.number ≡ 0
    → (r.length + r.left_over ≡ length old + 12 * r.kept + 32) × (r.kept ≤ 1024) × (8 * r.kept + r.left_over ≤ length old) × (r.renumbered ≡ 1)
salvage_counts {old} {exam = exam} {t = t} c e =
    let many = salvage_kept c e ∙ sym (salvaged-many old exam t) in
    let left = salvage_left_over c e in
    let within = salvaged-within old exam t in (
      omega (arith, salvage_length c e, many, left, within),
      omega (arith, many, salvaged-few old exam t),
      omega (arith, many, left, within, salvaged-long old exam t),
      salvage_renumbers c e,
    )

-- It stops only where no well-formed block stands, or where 1,024 were kept: a refused block is not passed by.
pub salvage_stops : {old b b' : List ℕ} {exam t : ℕ} {r : Salvaged} → Salvages old b exam t r b' → r.number ≡ 0
    → (r.kept ≡ 1024) ⊎ (block_stands (drop (length old - r.left_over) old) ≡ false)
salvage_stops {old} {exam = exam} {t = t} c e = rw (salvage_body c e, salvage_kept c e ∙ sym (salvaged-many old exam t)) (salvaged_stop old exam t)

-- Old bytes that are whole blocks, at most 1,024, then one that check refuses, with 13 as with any other number, and then anything: salvage stops there. It keeps
-- just the blocks before it, and leaves over all else.
pub salvage_stops_at_refused : (bs : List (List ℕ)) (x : List ℕ) → Each (λ (b : List ℕ). block_number b ≡ 0) bs → length bs ≤ 1024
    → (block_number (take (stated_length x) x) ≡ 0 → ⊥)
    → {exam t : ℕ} {b b' : List ℕ} {r : Salvaged} → Salvages (blocks_of (numbered 0 bs) ++ x) b exam t r b' → r.number ≡ 0
    → (r.kept ≡ length bs) × (r.left_over ≡ length x)
salvage_stops_at_refused bs x ws few h c e = stops_at_refused bs x ws few h c e

-- Its slots are 0, 1, 2 and so on, as many as blocks were kept, and no other.
pub salvage_slots : {old b b' : List ℕ} {exam t : ℕ} {r : Salvaged} → exam < 2 ^ 64 → Salvages old b exam t r b' → r.number ≡ 0
    → (s : ℕ) → (find_number b' r.length exam s ≡ 0) ↔ (s < r.kept)
salvage_slots w c e s =
    let many = salvage_kept c e in
    ((λ z. rw many (salvage_slot c e w s z)), (λ h. piece_found (salvage_piece c e w s (rw many at h))))

-- Finding a slot of it hands back the block that stood at the slot's place in the old bytes: it is whole, and its bytes are unchanged.
pub salvage_finds : {old b b' : List ℕ} {exam t s number : ℕ} {part : List ℕ} {r : Salvaged} → exam < 2 ^ 64 → Salvages old b exam t r b' → r.number ≡ 0 → s < r.kept
    → Finds b' r.length exam s part number → (number ≡ 0) × (part ≡ get_or (whole_blocks 1024 old) s []) × (block_number part ≡ 0)
salvage_finds {old} {s = s} w c e h q =
    let i = rw (salvage_kept c e) at h in
    let x = piece_handed (salvage_piece c e w s i) q in
    (x.0, x.1, rw x.1 (each_get s [] (blocks-whole 1024 old) i))

-- The block of a slot stands where it stood in the old bytes: at the same place, before those that are left over, and with the same bytes.
pub salvage_places : {old b b' : List ℕ} {exam t : ℕ} {r : Salvaged} → exam < 2 ^ 64 → Salvages old b exam t r b' → r.number ≡ 0 → (s : ℕ) → s < r.kept
    → ((located b' r.length exam s).offset + (located b' r.length exam s).size ≤ length old - r.left_over)
    × (block_in b' r.length s ≡ take (located b' r.length exam s).size (drop (located b' r.length exam s).offset old))
salvage_places {b' = b'} {exam = exam} {r = r} w c e s h =
    let i = rw (salvage_kept c e) at h in
    let z = piece_found (salvage_piece c e w s i) in
    let x = located-entry b' r.length exam s (locates b' r.length exam s z) in
    rw (x.0, x.1, salvage_body c e) (salvage_place c e w s i)

-- Where nothing is kept it makes the empty file, as create does.
pub salvage_of_nothing : {old b b' : List ℕ} {exam t : ℕ} {r : Salvaged} → Salvages old b exam t r b' → r.number ≡ 0 → r.kept ≡ 0
    → (r.length ≡ 32) × (take 32 b' ≡ file_bytes (empty exam t)) × (r.left_over ≡ length old)
salvage_of_nothing c e z = salvage_empty c e z

-- Beyond the new file the buffer is as it was.
pub salvage_leaves_the_rest : {old b b' : List ℕ} {exam t : ℕ} {r : Salvaged} → Salvages old b exam t r b' → r.number ≡ 0 → (i d : ℕ) → r.length ≤ i → get_or b' i d ≡ get_or b i d
salvage_leaves_the_rest c e i d h = salvage_beyond c e i d h

-- A buffer with room for the old bytes, 12 bytes for each block that they can hold, and 32 is always enough, and so is one of 16,777,216 bytes: then it is refused
-- for room only where the new file is over the limit.
pub salvage_room : {old b b' : List ℕ} {exam t : ℕ} {r : Salvaged} → Salvages old b exam t r b' → 0 < exam → t ≤ 16
    → min (length old + 12 * min 1024 (length old / 8) + 32) 16777216 ≤ length b → file_length (salvaged_file old exam t) ≤ 16777216 → r.number ≡ 0
salvage_room {old} {exam = exam} {t = t} c named most room small =
    let l = salvaged-most old exam t in
    (salvage_accepts c).1 (record { named = named; most = most; buffer_room = omega (arith, l, room, small); file_room = small })

-- ---- what salvage makes of a file

-- No block stands where the directory of a file that opens starts. Where it has entries, a block's length would be read from its first offset: that is 0.
pub directory_states_no_length : (b : List ℕ) (l exam : ℕ) → opened_number (opened b l exam) ≡ 0 → 0 < opened_entries (opened b l exam)
    → stated_length (drop (opened_start (opened b l exam)) b) ≡ 0
directory_states_no_length b l exam e h =
    let z = sym (opened-number b l exam) ∙ e in
    let d = opened-done b l exam z in
    let n = ap opened_entries d ∙ entries-many (take l b) in
    rw (ap opened_start d ∙ body-long (take l b)) (directory_states b l exam z (opened_entries (opened b l exam) - 1) (sym n ∙ omega arith))

-- Where it has none, a block's count would be read from the mark: that is 1,818,849,123, over the limit of 65,536.
pub mark_counts_too_many : (b : List ℕ) (l exam : ℕ) → opened_number (opened b l exam) ≡ 0 → opened_entries (opened b l exam) ≡ 0
    → (opened_start (opened b l exam) ≡ 0) × (count b ≡ 1818849123)
mark_counts_too_many b l exam e h =
    let z = sym (opened-number b l exam) ∙ e in
    let d = opened-done b l exam z in
    let y = directory_counts b l exam z (sym (ap opened_entries d ∙ entries-many (take l b)) ∙ h) in
    (ap opened_start d ∙ body-long (take l b) ∙ y.0, y.1)

-- So no block stands there, even where the file is cut behind it.
pub directory_is_no_block : (b : List ℕ) (l exam : ℕ) → opened_number (opened b l exam) ≡ 0 → (k : ℕ) → block_stands (take k (drop (opened_start (opened b l exam)) b)) ≡ false
directory_is_no_block b l exam e k =
    let z = sym (opened-number b l exam) ∙ e in
    rw (ap opened_start (opened-done b l exam z) ∙ body-long (take l b)) (directory_no_block b l exam z k)

-- Of every file that opens and whose blocks are whole, salvage keeps all blocks, in their order. Left over are the directory and the trailer, 12 bytes for each
-- entry and 32, and what stands in the buffer behind the file.
pub salvage_keeps_all : (b : List ℕ) (l exam : ℕ) {file file' : List ℕ} {other t : ℕ} {r : Salvaged} → opened_number (opened b l exam) ≡ 0
    → ((slot : ℕ) → find_number b l exam slot ≡ 0 → block_number (block_in b l slot) ≡ 0) → Salvages b file other t r file' → r.number ≡ 0
    → (whole_blocks 1024 b ≡ map (block_of (file_in (take l b))) (file_in (take l b)).entries) × (r.kept ≡ opened_entries (opened b l exam))
    × (r.left_over ≡ 12 * opened_entries (opened b l exam) + 32 + (length b - l))
salvage_keeps_all b l exam {other = other} {t = t} e w c z =
    let o = sym (opened-number b l exam) ∙ e in
    let d = opened-done b l exam o in
    let blocks = intact_blocks b l exam o w in
    let told = open_answers b l exam e in
    let n = ap opened_entries d in
    let s = ap opened_start d ∙ body-long (take l b) in
    let k = open_takes b l exam o in (
      blocks,
      salvage_kept c z ∙ ap length blocks ∙ length-map (file_in (take l b)).entries _ ∙ sym n,
      omega (arith, salvage_left_over c z, salvaged-ends b other t, intact_ends b l exam o w, s, told.1, told.2, k.distance, k.within),
    )

-- So of such a file alone, with nothing behind it, it keeps all blocks, and 12 times the entries plus 32 bytes are left over.
pub salvage_of_intact : (f : List ℕ) (exam : ℕ) {file file' : List ℕ} {other t : ℕ} {r : Salvaged} → opened_number (opened f (length f) exam) ≡ 0
    → ((slot : ℕ) → find_number f (length f) exam slot ≡ 0 → block_number (block_in f (length f) slot) ≡ 0) → Salvages f file other t r file' → r.number ≡ 0
    → (whole_blocks 1024 f ≡ map (block_of (file_in f)) (file_in f).entries) × (r.kept ≡ opened_entries (opened f (length f) exam))
    × (r.left_over ≡ 12 * opened_entries (opened f (length f) exam) + 32)
salvage_of_intact f exam e w c z =
    let a = salvage_keeps_all f (length f) exam e w c z in
    (a.0 ∙ ap (λ (x : List ℕ). map (block_of (file_in x)) (file_in x).entries) (take-length f), a.1, omega (arith, a.2))

-- ---- what salvage makes of a made file that was cut

-- Cut a file made by these calls to its first k bytes, and salvage what is left. A map is kept just where its block ends within the cut. (The map has as many maps
-- before it as the list `first` has, and `located` tells where its block stands in the file before the cut.)
pub salvage_keeps_those_within : (first : List Map) (m : Map) (rest : List Map) {exam t : ℕ} {b : List ℕ} {l : ℕ} → MadeOf exam t (first ++ m ∷ rest) b l
    → (k : ℕ) {other u : ℕ} {file file' : List ℕ} {r : Salvaged} → Salvages (take k (take l b)) file other u r file' → r.number ≡ 0
    → (length first < r.kept) ↔ ((located b l exam m.slot).offset + (located b l exam m.slot).size ≤ k)
salvage_keeps_those_within first m rest {exam} {t} h k c e = those_within (piece_of t) exam t first m rest (made_holds h) (made-wholes h) k c e

-- And no more blocks are kept than there are maps.
pub salvage_keeps_no_more : {exam t : ℕ} {ms : List Map} {b : List ℕ} {l : ℕ} → MadeOf exam t ms b l → (k : ℕ) {other u : ℕ} {file file' : List ℕ} {r : Salvaged}
    → Salvages (take k (take l b)) file other u r file' → r.number ≡ 0 → r.kept ≤ length ms
salvage_keeps_no_more {exam} {t} {ms} h k c e = omega (arith, kept-most exam t (map (piece_of t) ms) (made_holds h) (made-wholes h) k c e, length-map ms (piece_of t))

-- Fetching it from the new file, with the t of the old one and tables of 2 ^ t words, gives back exactly its words. Its slot is the number of the maps before it.
pub salvage_fetches : (first : List Map) (m : Map) (rest : List Map) {exam t : ℕ} {b : List ℕ} {l : ℕ} → MadeOf exam t (first ++ m ∷ rest) b l
    → (k : ℕ) {other : ℕ} {file file' : List ℕ} {r : Salvaged} → other < 2 ^ 64 → Salvages (take k (take l b)) file other t r file' → r.number ≡ 0 → length first < r.kept
    → {fcm dfcm room fcm' dfcm' room' : List ℕ} {s : Unpacked} → Fetches file' r.length other (length first) fcm dfcm room s fcm' dfcm' room'
    → length fcm ≡ 2 ^ t → length dfcm ≡ 2 ^ t → length m.words ≤ length room → (s ≡ record { number = 0; count = length m.words }) × (room' ≡ over m.words room)
salvage_fetches first m rest {exam} {t} h k w c e within q lf ld enough =
    piece_fetched (those_kept (piece_of t) exam t first m rest (made_holds h) (made-wholes h) k c e w within) (map-reads t m (each_at first m rest (made-fit h))) q lf ld enough

-- The new file is one made by these calls, of the maps that were kept, renumbered. So all that is promised of those holds of it: it can be appended to, replaced in,
-- cut and salvaged again.
pub salvage_makes : {exam t : ℕ} {ms : List Map} {b : List ℕ} {l : ℕ} → MadeOf exam t ms b l → (k : ℕ) {other : ℕ} {file file' : List ℕ} {r : Salvaged} → other < 2 ^ 64
    → Salvages (take k (take l b)) file other t r file' → r.number ≡ 0 → MadeOf other t (renumbered_from 0 (take r.kept ms)) file' r.length
salvage_makes h k w c e = rescued h k w c e

-- a file no longer than one that a buffer holds fits a buffer as long, and the limit
shorter_fits : {b : List ℕ} {l n exam t room : ℕ} {f : File} → Holds b l f → n ≤ l → 0 < exam → t ≤ 16 → l ≤ room → SalvageTakes exam t n room
shorter_fits h short named most enough =
    record { named = named; most = most; buffer_room = omega (arith, short, enough); file_room = omega (arith, short, holds-length h, h.good.size) }

-- A buffer as long as the file was before the cut is enough.
pub salvage_fits : {exam t : ℕ} {ms : List Map} {b : List ℕ} {l : ℕ} → MadeOf exam t ms b l → (k : ℕ) {other u : ℕ} {file file' : List ℕ} {r : Salvaged}
    → Salvages (take k (take l b)) file other u r file' → 0 < other → u ≤ 16 → l ≤ length file → r.number ≡ 0
salvage_fits {exam} {t} {ms} h k {other} {u} c named most room =
    (salvage_accepts c).1 (shorter_fits (made_holds h) (cut_shorter exam t (map (piece_of t) ms) (made_holds h) (made-wholes h) k other u) named most room)

-- The same of a file with maps that were packed before request L2: a map is kept just where its block ends within the cut,
pub earlier_salvage_keeps : (first : List Map) (m : Map) (rest : List Map) {exam t : ℕ} {b : List ℕ} {l : ℕ} → MadeBefore exam t (first ++ m ∷ rest) b l
    → (k : ℕ) {other u : ℕ} {file file' : List ℕ} {r : Salvaged} → Salvages (take k (take l b)) file other u r file' → r.number ≡ 0
    → (length first < r.kept) ↔ ((located b l exam m.slot).offset + (located b l exam m.slot).size ≤ k)
earlier_salvage_keeps first m rest {exam} {t} h k c e = those_within (piece_by h.choice t) exam t first m rest (earlier_holds h) (earlier_wholes h) k c e

-- no more blocks are kept than there are maps,
pub earlier_salvage_keeps_no_more : {exam t : ℕ} {ms : List Map} {b : List ℕ} {l : ℕ} → MadeBefore exam t ms b l → (k : ℕ) {other u : ℕ} {file file' : List ℕ} {r : Salvaged}
    → Salvages (take k (take l b)) file other u r file' → r.number ≡ 0 → r.kept ≤ length ms
earlier_salvage_keeps_no_more {exam} {t} {ms} h k c e =
    omega (arith, kept-most exam t (map (piece_by h.choice t) ms) (earlier_holds h) (earlier_wholes h) k c e, length-map ms (piece_by h.choice t))

-- a buffer as long as the file was is enough,
pub earlier_salvage_fits : {exam t : ℕ} {ms : List Map} {b : List ℕ} {l : ℕ} → MadeBefore exam t ms b l → (k : ℕ) {other u : ℕ} {file file' : List ℕ} {r : Salvaged}
    → Salvages (take k (take l b)) file other u r file' → 0 < other → u ≤ 16 → l ≤ length file → r.number ≡ 0
earlier_salvage_fits {exam} {t} {ms} h k {other} {u} c named most room =
    (salvage_accepts c).1 (shorter_fits (earlier_holds h) (cut_shorter exam t (map (piece_by h.choice t) ms) (earlier_holds h) (earlier_wholes h) k other u) named most room)

-- and a map that is kept is fetched, word for word.
pub earlier_salvage_fetches : (first : List Map) (m : Map) (rest : List Map) {exam t : ℕ} {b : List ℕ} {l : ℕ} → MadeBefore exam t (first ++ m ∷ rest) b l
    → (k : ℕ) {other : ℕ} {file file' : List ℕ} {r : Salvaged} → other < 2 ^ 64 → Salvages (take k (take l b)) file other t r file' → r.number ≡ 0 → length first < r.kept
    → {fcm dfcm room fcm' dfcm' room' : List ℕ} {s : Unpacked} → Fetches file' r.length other (length first) fcm dfcm room s fcm' dfcm' room'
    → length fcm ≡ 2 ^ t → length dfcm ≡ 2 ^ t → length m.words ≤ length room → (s ≡ record { number = 0; count = length m.words }) × (room' ≡ over m.words room)
earlier_salvage_fetches first m rest {exam} {t} h k w c e within q lf ld enough =
    piece_fetched (those_kept (piece_by h.choice t) exam t first m rest (earlier_holds h) (earlier_wholes h) k c e w within)
    (reads_by (h.choice m) t m (each_at first m rest (made-fit h.made))) q lf ld enough
