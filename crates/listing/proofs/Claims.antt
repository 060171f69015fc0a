-- What is promised of listing, each promise with one line of plain words.
use mathlib.Core.Path.{◌≡◌, refl, sym, ap, ◌∙◌}
use mathlib.Core.Logic.{◌↔◌}
use mathlib.Core.List.{List, [], ◌∷◌, Mem, mem-cons_self, mem-cast}
use Prim.Native.Nat.{ℕ, ◌+◌, ◌*◌, ◌^◌, ◌≤◌, ◌<◌}
use lib.ListN.{length, get_or, take}
use lib.Seq.{take_at}
use lib.Count.{count_leading_zeros}
use Rattle.words.specs.Words.{add64, sub64, shifted_left, shifted_right, low_bits, xor, zero_bytes}
use Rattle.words.specs.Bytes.{Bytes}
use Rattle.answers.specs.Answers.{unless, first_failure}
use Rattle.answers.proofs.Checks.{afterwards-new, afterwards-old, told-within}
use Rattle.answers.proofs.OneOf.{one_of_more, no_check_one_of, verdict_one_of, check_one_of}
use Rattle.block_rules.specs.Predictors.{cleared, fcm_prediction, dfcm_prediction, difference, next_fcm_hash, next_dfcm_hash, learn}
use Rattle.block_rules.specs.Codes.{fcm_residual, dfcm_residual, dfcm_chosen, low_three, written, coded_by, chosen, coded_word, residual_bytes, padded}
use Rattle.block_rules.specs.Block.{arranged, block_by, block, body, counted_codes, last_half, coded_in}
use Rattle.block_rules.specs.Calls.{checked}
use Rattle.block_rules.specs.Numbers.{filler_stands, form_number, block_number}
use Rattle.block_rules.proofs.Accept.{checks-number}
use Rattle.block_rules.proofs.Answered.{block_one_of}
use Rattle.exam_rules.specs.File.{Entry, entry, File, entry_bytes, trailer_bytes, file_bytes, block_of, empty, appended}
use Rattle.exam_rules.specs.Reading.{exam_in, entry_at, file_in}
use Rattle.exam_rules.specs.Numbers.{edition_known, joins, directory_number, fields_number, trailer_number, open_number}
use Rattle.exam_rules.specs.Calls.{opened, opened_number}
use Rattle.exam_rules.proofs.Answered.{open_one_of}
use Rattle.listing.specs.Text.{ascii, decimal, exam_line, slot_line, listing, most_text}
use Rattle.listing.specs.Numbers.{blocks_number, list_number}
use Rattle.listing.specs.Calls.{listed, lists_number, Lists, Listed, listed_told}
use Rattle.answers.specs.declared.Refusal.{Refusal}
use Rattle.answers.proofs.Told.{one_count}
use Rattle.std.proofs.Common.{Result}
use Rattle.listing.proofs.Decimals.{read_on, decimal_read, Digits, decimal_digits, decimal-first}
use Rattle.listing.proofs.Walks.{each_block, all_blocks}
use Rattle.listing.proofs.Answers.{opened-whole, takes, takes_keep, listing-within, most_text_lem, lists_number_lem}

-- ---- the file worked by hand

-- exam 7, t = 10, word 0 appended as slot 3: 53 bytes
abbrev pub worked_file : List ℕ
worked_file =
    0x01 ∷ 0x00 ∷ 0x00 ∷ 0x00 ∷ 0x09 ∷ 0x00 ∷ 0x00 ∷ 0x00 ∷ 0x77
    ∷ 0x03 ∷ 0x00 ∷ 0x00 ∷ 0x00 ∷ 0x00 ∷ 0x00 ∷ 0x00 ∷ 0x00 ∷ 0x09 ∷ 0x00 ∷ 0x00 ∷ 0x00
    ∷ 0x63 ∷ 0x6F ∷ 0x69 ∷ 0x6C ∷ 0x01 ∷ 0x00 ∷ 0x0A ∷ 0x00 ∷ 0x07 ∷ 0x00 ∷ 0x00 ∷ 0x00 ∷ 0x00 ∷ 0x00 ∷ 0x00 ∷ 0x00
    ∷ 0x2C ∷ 0x00 ∷ 0x00 ∷ 0x00 ∷ 0x01 ∷ 0x00 ∷ 0x00 ∷ 0x00 ∷ 0x35 ∷ 0x00 ∷ 0x00 ∷ 0x00 ∷ 0x00 ∷ 0x00 ∷ 0x00 ∷ 0x00
    ∷ []

-- It is the file that create and append make.
pub worked-file : file_bytes (appended (empty 7 10) 3 (block 10 (0 ∷ []))) ≡ worked_file
unfolding file_bytes entry_bytes trailer_bytes block block_by arranged body residual_bytes coded_word chosen coded_by written low_three dfcm_chosen fcm_residual dfcm_residual learn next_fcm_hash next_dfcm_hash difference fcm_prediction dfcm_prediction cleared add64 sub64 shifted_left shifted_right low_bits xor zero_bytes count_leading_zeros
worked-file = refl

-- It lists as the three lines worked by hand.
pub worked-listing : listing (file_in worked_file) ≡ ascii "exam 7 table 1024 slots 1\nslot words bytes\n3 1 9\n"
unfolding listing exam_line slot_line decimal file_in entry_at block_of
worked-listing = refl

-- It is refused with 88 bytes of room, and taken with 89.
pub worked-number : (list_number worked_file 88 ≡ 3) × (list_number worked_file 89 ≡ 0)
unfolding list_number most_text open_number trailer_number fields_number directory_number edition_known joins file_in entry_at block_of block_number form_number filler_stands last_half counted_codes coded_in padded written unless first_failure
worked-number = (refl, refl)

-- ---- no second answer

-- Of list's answer and of the text, refused or not, the promise admits one value each.
pub list_one_answer : {f text t₁ t₂ : List ℕ} {r₁ r₂ : Listed} → Lists f text r₁ t₁ → Lists f text r₂ t₂ → (r₁ ≡ r₂) × (t₁ ≡ t₂)
list_one_answer p q = (p.answer ∙ sym q.answer, p.text_left ∙ sym q.text_left)

-- What is told of its answer leaves one Result.
pub list_one_result : (r s : Result ℕ Refusal) → listed_told r ≡ listed_told s → r ≡ s
list_one_result r s e = one_count r s (ap (λ (x : Listed). x.number) e) (ap (λ (x : Listed). x.length) e)

-- ---- every number is one of list's

blocks_one_of : (f : File) (es : List Entry) → Mem (blocks_number f es) (0 ∷ 4 ∷ 2 ∷ 5 ∷ 6 ∷ 13 ∷ [])
blocks_one_of f [] = mem-cons_self
blocks_one_of f (e ∷ es) = verdict_one_of _ _ (block_one_of (block_of f e)) (verdict_one_of _ _ (blocks_one_of f es) (no_check_one_of _))

list_one_of : (f : List ℕ) (room : ℕ) → Mem (list_number f room) (0 ∷ 3 ∷ 4 ∷ 7 ∷ 8 ∷ 9 ∷ 2 ∷ 5 ∷ 6 ∷ 13 ∷ [])
unfolding list_number
list_one_of f room =
    check_one_of _ 3 _
    (verdict_one_of _ _ (one_of_more _ _ (open_one_of f (exam_in f)) refl)
    (verdict_one_of _ _ (one_of_more _ _ (blocks_one_of (file_in f) (file_in f).entries) refl) (check_one_of _ 3 _ (no_check_one_of _) refl)))
    refl

-- List answers 0, 3, one of open's numbers, or one of check's.
pub list_numbers : {f text text' : List ℕ} {r : Listed} → Lists f text r text' → Mem r.number (0 ∷ 3 ∷ 4 ∷ 7 ∷ 8 ∷ 9 ∷ 2 ∷ 5 ∷ 6 ∷ 13 ∷ [])
list_numbers p = mem-cast (lists_number_lem p) (list_one_of _ _)

-- ---- a refusal leaves everything as it was

-- A refused list answers length 0, and leaves the text as it was.
pub refused_list_changes_nothing : {f text text' : List ℕ} {r : Listed} → Lists f text r text' → (r.number ≡ 0 → ⊥) → (r.length ≡ 0) × (text' ≡ text)
unfolding listed
refused_list_changes_nothing {f} {text} p h =
    let k : lists_number f text ≡ 0 → ⊥ = λ z. h (lists_number_lem p ∙ z) in
    (ap (λ (x : Listed). x.length) p.answer ∙ afterwards-old _ _ 0 k, p.text_left ∙ afterwards-old _ _ _ k)

-- ---- when list answers 0

-- what list needs: at most 65,536 bytes, a file that opens for the exam number in its trailer, blocks that all pass their checks, room for the longest text
pub record ListTakes (f text : List ℕ) : Type 0 where
  pub small : length f ≤ 65536
  pub opens : opened_number (opened f (length f) (exam_in f)) ≡ 0
  pub blocks : (i : ℕ) → i < length (file_in f).entries → (checked (block_of (file_in f) (get_or (file_in f).entries i (entry 0 0 0)))).number ≡ 0
  pub room : 66 + 23 * length (file_in f).entries ≤ length text

-- List answers 0 just where it has what it needs.
pub list_accepts : {f text text' : List ℕ} {r : Listed} → Lists f text r text' → (r.number ≡ 0) ↔ ListTakes f text
unfolding most_text
list_accepts {f} {text} p = (
  (λ e.
      let t = takes f (length text) (sym (lists_number_lem p) ∙ e) in
      record {
        small = t.small;
        opens = opened-whole f (exam_in f) ∙ t.opens;
        blocks = λ i h. checks-number _ ∙ each_block (file_in f) (file_in f).entries t.blocks i h;
        room = t.enough;
      }),
  (λ k.
      lists_number_lem p
      ∙ takes_keep f (length text)
      (record {
        small = k.small;
        opens = sym (opened-whole f (exam_in f)) ∙ k.opens;
        blocks = all_blocks (file_in f) (file_in f).entries (λ i h. sym (checks-number _) ∙ k.blocks i h);
        enough = k.room;
      })),
)

-- ---- the text

-- What an accepted list wrote, the text's first bytes, as many as it answered, is the listing.
pub listed_text : {f text text' : List ℕ} {r : Listed} → Lists f text r text' → r.number ≡ 0 → take r.length text' ≡ listing (file_in f)
unfolding listed
listed_text {f} {text} p e =
    let z = sym (lists_number_lem p) ∙ e in
    let n : _ ≡ length (listing (file_in f)) = ap (λ (x : Listed). x.length) p.answer ∙ afterwards-new _ _ 0 z in
    rw (n, p.text_left ∙ afterwards-new _ _ text z) (take_at (listing (file_in f)) _ _ refl)

-- The length that list answers, refused or not, is within the text.
pub listed-within : {f text text' : List ℕ} {r : Listed} → Lists f text r text' → r.length ≤ length text'
unfolding listed
listed-within {f} {text} p = rw (ap (λ (x : Listed). x.length) p.answer, p.text_left) (told-within (lists_number f text) (listing (file_in f)) text)

-- The listing of a file that is not refused is never longer than the room that is asked for.
pub listing_fits : (f : List ℕ) (room : ℕ) → Bytes f → list_number f room ≡ 0 → length (listing (file_in f)) ≤ most_text (length (file_in f).entries)
listing_fits f room b z = listing-within f room b (takes f room z)

-- Of a file that opens, list asks for room for at most 23,618 bytes: so much is enough for every file that it takes.
pub room_for_all : (f : List ℕ) → opened_number (opened f (length f) (exam_in f)) ≡ 0 → most_text (length (file_in f).entries) ≤ 23618
room_for_all f e = most_text_lem f (sym (opened-whole f (exam_in f)) ∙ e)

-- The digits of a number of at most 20 digits read back as the number.
pub decimal-reads : (n : ℕ) → n < 10 ^ 20 → read_on 0 (decimal n) ≡ n
decimal-reads n h = decimal_read n h

-- They are digits, each a byte from `0` to `9`.
pub decimal_is_digits : (n : ℕ) → Digits (decimal n)
decimal_is_digits n = decimal_digits n

-- No zero stands in front, but for 0 itself.
pub no_zero_in_front : (n : ℕ) → n < 10 ^ 20 → 0 < n → 48 < get_or (decimal n) 0 0
no_zero_in_front n h p = decimal-first n h p
