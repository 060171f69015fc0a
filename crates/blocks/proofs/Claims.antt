-- What is promised of pack, check and unpack, each promise with one line of plain words.
use mathlib.Core.Path.{◌≡◌, sym, ap, ◌∙◌}
use mathlib.Core.Logic.{◌↔◌}
use mathlib.Core.Bool.{true}
use mathlib.Core.List.{List, [], ◌∷◌, Mem, mem-cast}
use Prim.Native.Nat.{ℕ, ◌+◌, ◌%◌, ◌^◌, ◌≤◌}
use lib.ListN.{length, take}
use Rattle.words.specs.Words.{Words}
use Rattle.words.specs.Bytes.{Bytes}
use Rattle.answers.specs.Answers.{over}
use Rattle.answers.proofs.Checks.{afterwards-old}
use Rattle.block_rules.specs.Predictors.{cleared, after}
use Rattle.block_rules.specs.Codes.{Choice, dfcm_chosen, dfcm_chosen_by_bytes}
use Rattle.block_rules.specs.Block.{block_by, block, worst, count, stated_length, residuals_at, counted_codes, last_half, residual_length, coded_in, none_padded}
use Rattle.block_rules.specs.Forms.{named}
use Rattle.block_rules.specs.Room.{Cut, bound, closer_bound, BlockFor}
use Rattle.block_rules.specs.Calls.{packed, packs_number, Packs, checked, Unpacks, Packed, Checked, Unpacked, packed_told, checked_told, unpacked_told}
use Rattle.answers.specs.declared.Refusal.{Refusal}
use Rattle.answers.proofs.Told.{one_count}
use Rattle.std.proofs.Common.{Result}
use Rattle.block_rules.specs.Numbers.{t_of, tables_number}
use Rattle.block_rules.specs.Inside.{Sized, PacksAll, UnpacksAll}
use Rattle.block_rules.proofs.Tables.{t_of_power, sized-power, tables-sized, sized-tables}
use Rattle.block_rules.proofs.Accept.{packable, packable-packs, whole, whole_forms, unpackable, unpackable-unpacks, packs-number, checks-number, packs_all_of, where_number, where_all, where_nothing, where_one_answer, where_forgets, unpacked_of, check_done, filler_needs, filler_has}
use Rattle.block_rules.proofs.Order.{takes_form, takes-tight, tight-takes}
use Rattle.block_rules.proofs.Answered.{pack_one_of, block_one_of, unpack_one_of}
use Rattle.block_rules.proofs.Round.{chosen-count, chosen-whole, chosen-words, written-block, given_words_lem}
use Rattle.block_rules.proofs.Claims.{no_block_is_shorter, one_form, block_within_bound, block_within_worst, block_within_closer_bound}

-- ---- no second answer

-- Of pack's answer, of both tables and of the output, refused or not, the promise admits one value each.
pub pack_one_answer : {words fcm dfcm out f₁ d₁ o₁ f₂ d₂ o₂ : List ℕ} {r₁ r₂ : Packed}
    → Packs words fcm dfcm out r₁ f₁ d₁ o₁ → Packs words fcm dfcm out r₂ f₂ d₂ o₂ → (r₁ ≡ r₂) × (f₁ ≡ f₂) × (d₁ ≡ d₂) × (o₁ ≡ o₂)
pack_one_answer p q = (
  p.answer ∙ sym q.answer,
  p.fcm_left ∙ sym q.fcm_left,
  p.dfcm_left ∙ sym q.dfcm_left,
  p.out_left ∙ sym q.out_left,
)

-- Of check's answer, the promise admits one value.
pub check_one_answer : (b : List ℕ) {r₁ r₂ : Checked} → r₁ ≡ checked b → r₂ ≡ checked b → r₁ ≡ r₂
check_one_answer b p q = p ∙ sym q

-- Of unpack's answer, of both tables and of the words, refused or not, the promise admits one value each.
pub unpack_one_answer : {b fcm dfcm words f₁ d₁ w₁ f₂ d₂ w₂ : List ℕ} {r₁ r₂ : Unpacked}
    → Unpacks b fcm dfcm words r₁ f₁ d₁ w₁ → Unpacks b fcm dfcm words r₂ f₂ d₂ w₂ → (r₁ ≡ r₂) × (f₁ ≡ f₂) × (d₁ ≡ d₂) × (w₁ ≡ w₂)
unpack_one_answer p q = where_one_answer p q

-- What is told of an answer leaves one answer: so of the Result that pack, check and unpack answer, refused or not, the promise admits one value too.
pub pack_one_result : (r s : Result ℕ Refusal) → packed_told r ≡ packed_told s → r ≡ s
pack_one_result r s e = one_count r s (ap (λ (x : Packed). x.number) e) (ap (λ (x : Packed). x.length) e)

pub check_one_result : (r s : Result ℕ Refusal) → checked_told r ≡ checked_told s → r ≡ s
check_one_result r s e = one_count r s (ap (λ (x : Checked). x.number) e) (ap (λ (x : Checked). x.count) e)

pub unpack_one_result : (r s : Result ℕ Refusal) → unpacked_told r ≡ unpacked_told s → r ≡ s
unpack_one_result r s e = one_count r s (ap (λ (x : Unpacked). x.number) e) (ap (λ (x : Unpacked). x.count) e)

-- Nor does the working half of pack, which other crates call where nothing is refused, admit a second answer.
pub pack_all_one_answer : {t : ℕ} {words old f₁ d₁ o₁ f₂ d₂ o₂ : List ℕ} {k₁ k₂ : ℕ}
    → PacksAll t words old f₁ d₁ o₁ k₁ → PacksAll t words old f₂ d₂ o₂ k₂ → (k₁ ≡ k₂) × (f₁ ≡ f₂) × (d₁ ≡ d₂) × (o₁ ≡ o₂)
pack_all_one_answer p q = (p.size ∙ sym q.size, p.fcm ∙ sym q.fcm, p.dfcm ∙ sym q.dfcm, p.out ∙ sym q.out)

-- Nor does that of unpack.
pub unpack_all_one_answer : {t : ℕ} {b old f₁ d₁ w₁ f₂ d₂ w₂ : List ℕ} {k₁ k₂ : ℕ}
    → UnpacksAll t b old f₁ d₁ w₁ k₁ → UnpacksAll t b old f₂ d₂ w₂ k₂ → (k₁ ≡ k₂) × (f₁ ≡ f₂) × (d₁ ≡ d₂) × (w₁ ≡ w₂)
unpack_all_one_answer p q = (p.count ∙ sym q.count, p.fcm ∙ sym q.fcm, p.dfcm ∙ sym q.dfcm, p.words ∙ sym q.words)

-- ---- a refusal leaves everything as it was

-- A refused pack answers length 0, and leaves both tables and the output as they were.
pub refused_pack_changes_nothing : {words fcm dfcm out f' d' out' : List ℕ} {r : Packed} → Packs words fcm dfcm out r f' d' out' → (r.number ≡ 0 → ⊥)
    → (r.length ≡ 0) × (f' ≡ fcm) × (d' ≡ dfcm) × (out' ≡ out)
unfolding packed
refused_pack_changes_nothing {words} {fcm} {dfcm} {out} p h =
    let k : packs_number words fcm dfcm out ≡ 0 → ⊥ = λ z. h (packs-number p ∙ z) in (
      ap (λ (x : Packed). x.length) p.answer ∙ afterwards-old _ _ 0 k,
      p.fcm_left ∙ afterwards-old _ _ _ k,
      p.dfcm_left ∙ afterwards-old _ _ _ k,
      p.out_left ∙ afterwards-old _ _ _ k,
    )

-- A refused check answers count 0.
pub refused_check_counts_nothing : (b : List ℕ) → ((checked b).number ≡ 0 → ⊥) → (checked b).count ≡ 0
unfolding checked
refused_check_counts_nothing b h = afterwards-old _ _ 0 h

-- A refused unpack answers count 0, and leaves both tables and the words as they were.
pub refused_unpack_changes_nothing : {b fcm dfcm words f' d' w' : List ℕ} {r : Unpacked} → Unpacks b fcm dfcm words r f' d' w' → (r.number ≡ 0 → ⊥)
    → (r.count ≡ 0) × (f' ≡ fcm) × (d' ≡ dfcm) × (w' ≡ words)
refused_unpack_changes_nothing p h = where_nothing p h

-- ---- when each call answers 0

-- both tables have 2 ^ t words, with t from 0 to 16
pub record Tables (fcm dfcm : List ℕ) : Type 0 where
  pub t : ℕ
  pub most : t ≤ 16
  pub fcm_long : length fcm ≡ 2 ^ t
  pub dfcm_long : length dfcm ≡ 2 ^ t

tables_of : (fcm dfcm : List ℕ) → Sized (length fcm) (length dfcm) → Tables fcm dfcm
tables_of fcm dfcm s = record { t = _; most = s.small; fcm_long = s.power; dfcm_long = s.same ∙ s.power }

of_tables : (fcm dfcm : List ℕ) → Tables fcm dfcm → Sized (length fcm) (length dfcm)
of_tables fcm dfcm k = sized-power k.t _ _ k.most k.fcm_long (k.dfcm_long ∙ sym k.fcm_long)

-- what pack needs: tables, at most 65,536 words, room for the worst block
pub record PackTakes (words fcm dfcm out : List ℕ) : Type 0 where
  pub tables : Tables fcm dfcm
  pub few : length words ≤ 65536
  pub room : worst (length words) ≤ length out

-- what check needs: the two fields, a count in range, the length stated and kept, the filler, and no counted code that is padded
pub record CheckTakes (b : List ℕ) : Type 0 where
  pub long : 8 ≤ length b
  pub few : count b ≤ 65536
  pub stated : stated_length b ≡ length b
  pub kept : length b ≡ residuals_at (count b) + residual_length (counted_codes b)
  pub filler : count b % 2 ≡ 1 → last_half b ≡ 7
  pub tight : none_padded (coded_in b) ≡ true

-- what unpack needs: tables, a block that check takes, room for its words
pub record UnpackTakes (b fcm dfcm words : List ℕ) : Type 0 where
  pub tables : Tables fcm dfcm
  pub whole : CheckTakes b
  pub room : count b ≤ length words

-- Pack answers 0 just where it has what it needs, so a packer that refuses more is shut out.
pub pack_accepts : {words fcm dfcm out f' d' out' : List ℕ} {r : Packed} → Packs words fcm dfcm out r f' d' out' → (r.number ≡ 0) ↔ PackTakes words fcm dfcm out
pack_accepts p = (
  (λ e. let k = packable _ _ _ _ (sym (packs-number p) ∙ e) in record { tables = tables_of _ _ k.sized; few = k.few; room = k.room }),
  (λ k. packs-number p ∙ packable-packs _ _ _ _ (record { sized = of_tables _ _ k.tables; few = k.few; room = k.room })),
)

-- Check answers 0 just where it has what it needs.
pub check_accepts : (b : List ℕ) → ((checked b).number ≡ 0) ↔ CheckTakes b
check_accepts b = (
  (λ e.
      let z = sym (checks-number b) ∙ e in
      let w = whole b z in
      record { long = w.long; few = w.few; stated = w.stated; kept = w.adds; filler = filler_needs b w.filler; tight = takes-tight b z }),
  (λ k.
      let formed = whole_forms b (record { long = k.long; few = k.few; stated = k.stated; adds = k.kept; filler = filler_has b k.filler }) in
      checks-number b ∙ tight-takes b formed k.tight),
)

-- Unpack answers 0 just where it has what it needs.
pub unpack_accepts : {b fcm dfcm words f' d' w' : List ℕ} {r : Unpacked} → Unpacks b fcm dfcm words r f' d' w' → (r.number ≡ 0) ↔ UnpackTakes b fcm dfcm words
unpack_accepts {b} p = (
  (λ e. let k = unpackable _ _ _ _ (sym (where_number p) ∙ e) in record { tables = tables_of _ _ k.sized; whole = (check_accepts b).0 (checks-number b ∙ k.whole); room = k.room }),
  (λ k. where_number p ∙ unpackable-unpacks _ _ _ _ (record { sized = of_tables _ _ k.tables; whole = sym (checks-number b) ∙ (check_accepts b).1 k.whole; room = k.room })),
)

-- The tables' number is 0 just for two tables of 2 ^ t words, with t from 0 to 16.
pub tables_accepted : (fcm dfcm : List ℕ) → (tables_number (length fcm) (length dfcm) ≡ 0) ↔ Tables fcm dfcm
tables_accepted fcm dfcm = ((λ e. tables_of fcm dfcm (tables-sized _ _ e)), (λ k. sym (sized-tables _ _ (of_tables fcm dfcm k))))

-- ---- every number is one of the call's list

-- Pack answers 0, 1, 2 or 3.
pub pack_numbers : {words fcm dfcm out f' d' out' : List ℕ} {r : Packed} → Packs words fcm dfcm out r f' d' out' → Mem r.number (0 ∷ 1 ∷ 2 ∷ 3 ∷ [])
pack_numbers p = mem-cast (packs-number p) (pack_one_of _ _ _ _)

-- Check answers 0, 4, 2, 5, 6 or 13.
pub check_numbers : (b : List ℕ) → Mem (checked b).number (0 ∷ 4 ∷ 2 ∷ 5 ∷ 6 ∷ 13 ∷ [])
check_numbers b = mem-cast (checks-number b) (block_one_of b)

-- Unpack answers 0, 1, one of check's numbers, or 3.
pub unpack_numbers : {b fcm dfcm words f' d' w' : List ℕ} {r : Unpacked} → Unpacks b fcm dfcm words r f' d' w' → Mem r.number (0 ∷ 1 ∷ 4 ∷ 2 ∷ 5 ∷ 6 ∷ 13 ∷ 3 ∷ [])
unpack_numbers p = mem-cast (where_number p) (unpack_one_of _ _ _ _)

-- ---- what the tables held before plays no part

-- Two accepted runs of pack that differ in the tables' old content answer the same, write the same and leave equal tables.
pub pack_forgets : {words f₁ d₁ f₂ d₂ out f₁' d₁' f₂' d₂' o₁ o₂ : List ℕ} {r₁ r₂ : Packed}
    → Packs words f₁ d₁ out r₁ f₁' d₁' o₁ → Packs words f₂ d₂ out r₂ f₂' d₂' o₂ → length f₁ ≡ length f₂ → length d₁ ≡ length d₂ → r₁.number ≡ 0
    → (r₁ ≡ r₂) × (f₁' ≡ f₂') × (d₁' ≡ d₂') × (o₁ ≡ o₂)
pack_forgets p q e g z =
    let y = packs-number q ∙ sym (rw (e, g) at (packs-number p)) ∙ z in
    let a = packs_all_of p z in
    let b = packs_all_of q y in (
      cc (e),
      (rw e at a.fcm) ∙ sym b.fcm,
      (rw e at a.dfcm) ∙ sym b.dfcm,
      (rw e at a.out) ∙ sym b.out,
    )

-- Two accepted runs of unpack that differ in the tables' old content answer the same, write the same and leave equal tables.
pub unpack_forgets : {b f₁ d₁ f₂ d₂ words f₁' d₁' f₂' d₂' w₁ w₂ : List ℕ} {r₁ r₂ : Unpacked}
    → Unpacks b f₁ d₁ words r₁ f₁' d₁' w₁ → Unpacks b f₂ d₂ words r₂ f₂' d₂' w₂ → length f₁ ≡ length f₂ → length d₁ ≡ length d₂ → r₁.number ≡ 0
    → (r₁ ≡ r₂) × (f₁' ≡ f₂') × (d₁' ≡ d₂') × (w₁ ≡ w₂)
unpack_forgets p q e g z = where_forgets (rw (e, g) at p) q z

-- ---- there and back

-- the block that an accepted pack wrote: the output's first bytes, as many as it answered
abbrev pub written_block : Packed → List ℕ → List ℕ
written_block r out' = take r.length out'

-- Every block that pack writes is accepted by check, with the count of the words.
pub packed-checks : {words fcm dfcm out f' d' out' : List ℕ} {r : Packed} → Words words → Packs words fcm dfcm out r f' d' out' → r.number ≡ 0
    → checked (written_block r out') ≡ record { number = 0; count = length words }
unfolding block
packed-checks h p e =
    let few = (packable _ _ _ _ (sym (packs-number p) ∙ e)).few in
    rw (written-block (packs_all_of p e)) (sym (check_done _ _ (chosen-whole dfcm_chosen _ _ few h) (sym (chosen-count dfcm_chosen _ _ few))))

-- the block of words by any choice, unpacked with tables of the size that it was packed with
there_and_back : (choice : Choice) (t : ℕ) (words : List ℕ) {fcm dfcm room fcm' dfcm' room' : List ℕ} {r : Unpacked} → Words words → length words ≤ 65536
    → Unpacks (block_by choice t words) fcm dfcm room r fcm' dfcm' room' → Sized (length fcm) (length dfcm) → t_of (length fcm) ≡ t → length words ≤ length room
    → (r ≡ record { number = 0; count = length words }) × (room' ≡ over words room) × (fcm' ≡ (after t (cleared t) words).fcm) × (dfcm' ≡ (after t (cleared t) words).dfcm)
there_and_back choice t words h few u sized is l =
    let back = chosen-words choice t words few h in
    let n = chosen-count choice t words few in
    let z = where_number u ∙ unpackable-unpacks _ _ _ _ (record { sized = sized; whole = chosen-whole choice t words few h; room = rw n l }) in
    let g = rw is at (where_all u z) in
    (unpacked_of _ _ _ z (g.count ∙ n), g.words ∙ rw back, g.fcm ∙ rw back, g.dfcm ∙ rw back)

-- Unpacking what pack wrote, with tables of the same size whatever they hold, gives each word back bit for bit and leaves the packer's tables.
pub round_trip : {words fcm dfcm out f' d' out' f₂ d₂ room f₂' d₂' room' : List ℕ} {r : Packed} {s : Unpacked}
    → Words words → Packs words fcm dfcm out r f' d' out' → r.number ≡ 0
    → Unpacks (written_block r out') f₂ d₂ room s f₂' d₂' room' → length f₂ ≡ length fcm → length d₂ ≡ length dfcm → length words ≤ length room
    → (s ≡ record { number = 0; count = length words }) × (room' ≡ over words room) × (f₂' ≡ f') × (d₂' ≡ d')
unfolding block
round_trip h p e q lf ld l =
    let w = packs_all_of p e in
    let k = packable _ _ _ _ (sym (packs-number p) ∙ e) in
    let g = there_and_back dfcm_chosen _ _ h k.few (rw (written-block w) at q) (rw (lf, ld) k.sized) (ap t_of lf) l in
    (g.0, g.1, g.2 ∙ sym w.fcm, g.3 ∙ sym w.dfcm)

-- So does unpacking a block that was packed before, with tables of the size that it was packed with. They are left as packing leaves them.
pub packed_before_unpacks : (words : List ℕ) {fcm dfcm room fcm' dfcm' room' : List ℕ} {r : Unpacked} (k : Tables fcm dfcm)
    → Words words → length words ≤ 65536 → Unpacks (block_by dfcm_chosen_by_bytes k.t words) fcm dfcm room r fcm' dfcm' room' → length words ≤ length room
    → (r ≡ record { number = 0; count = length words }) × (room' ≡ over words room)
    × (fcm' ≡ (after k.t (cleared k.t) words).fcm) × (dfcm' ≡ (after k.t (cleared k.t) words).dfcm)
packed_before_unpacks words {fcm} {dfcm} k h few u l =
    there_and_back dfcm_chosen_by_bytes k.t words h few u (of_tables fcm dfcm k) (ap t_of k.fcm_long ∙ t_of_power k.t k.most) l

-- ---- no block is shorter

-- Of all blocks of the words, with tables of the size that pack had, whoever packed them and padded or not, none is shorter than an accepted pack answered.
pub pack_is_shortest_of_all : {words fcm dfcm out f' d' out' b : List ℕ} {r : Packed} → Packs words fcm dfcm out r f' d' out' → r.number ≡ 0
    → BlockFor (t_of (length fcm)) words b → r.length ≤ length b
pack_is_shortest_of_all p e k = rw (packs_all_of p e).size (no_block_is_shorter _ _ _ k)

-- the words that an accepted unpack gave: the first of the words, as many as it answered
abbrev pub given_words : Unpacked → List ℕ → List ℕ
given_words s room' = take s.count room'

-- So of all bytes for which unpack, with tables of the size that pack had, answers 0 and gives the words that were packed, none are fewer than the
-- length that an accepted pack answered. (That dfcm's table has the same size follows from the answer 0.)
pub pack_is_shortest : {words fcm dfcm out f' d' out' b f₂ d₂ room f₂' d₂' room' : List ℕ} {r : Packed} {s : Unpacked}
    → Packs words fcm dfcm out r f' d' out' → r.number ≡ 0
    → Bytes b → Unpacks b f₂ d₂ room s f₂' d₂' room' → length f₂ ≡ length fcm → s.number ≡ 0 → given_words s room' ≡ words
    → r.length ≤ length b
pack_is_shortest {b = b} p e h u same z gives =
    let taken = (unpackable _ _ _ _ (sym (where_number u) ∙ z)).whole in
    let reads = sym (given_words_lem taken (where_all u z)) ∙ gives in
    pack_is_shortest_of_all p e (record { bytes = h; formed = takes_form b taken; reads = rw same at reads })

-- ---- the one form of a block

-- Two blocks of which unpack, with tables of one size, gives the same words, and which name the same predictor at each word, are the same bytes.
pub unpacked-one_form : {b c fcm dfcm f₂ d₂ words words₂ f' d' w' f₂' d₂' w₂' : List ℕ} {r s : Unpacked} → Bytes b → Bytes c
    → Unpacks b fcm dfcm words r f' d' w' → Unpacks c f₂ d₂ words₂ s f₂' d₂' w₂' → r.number ≡ 0 → s.number ≡ 0 → length fcm ≡ length f₂
    → given_words r w' ≡ given_words s w₂' → named b ≡ named c → b ≡ c
unpacked-one_form {b} {c} h k u v e f same ws ns =
    let first = (unpackable _ _ _ _ (sym (where_number u) ∙ e)).whole in
    let second = (unpackable _ _ _ _ (sym (where_number v) ∙ f)).whole in
    let reads = sym (given_words_lem first (where_all u e)) ∙ ws ∙ given_words_lem second (where_all v f) in
    one_form _ b c h k (checks-number b ∙ first) (checks-number c ∙ second) (rw (← same) at reads) ns

-- ---- how much room a block needs

-- The length that an accepted pack answers is within the bound, however its words are cut into runs.
pub pack_within_bound : {words fcm dfcm out f' d' out' : List ℕ} {r : Packed} → Words words → Packs words fcm dfcm out r f' d' out' → r.number ≡ 0
    → (cut : Cut words) → r.length ≤ bound (t_of (length fcm)) words cut
pack_within_bound h p e cut = rw (packs_all_of p e).size (block_within_bound _ _ h cut)

-- It never exceeds 8, plus n/2 rounded up, plus 8n.
pub pack_within_worst : {words fcm dfcm out f' d' out' : List ℕ} {r : Packed} → Packs words fcm dfcm out r f' d' out' → r.number ≡ 0
    → r.length ≤ worst (length words)
pack_within_worst p e = rw (packs_all_of p e).size (block_within_worst _ _)

-- It is within the closer bound too.
pub pack_within_closer_bound : {words fcm dfcm out f' d' out' : List ℕ} {r : Packed} → Words words → Packs words fcm dfcm out r f' d' out' → r.number ≡ 0
    → (cut : Cut words) → r.length ≤ closer_bound (t_of (length fcm)) words cut
pack_within_closer_bound h p e cut = rw (packs_all_of p e).size (block_within_closer_bound _ _ h cut)
