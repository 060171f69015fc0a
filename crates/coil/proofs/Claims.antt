-- What is promised of the calls from C, each promise with one line of plain words. They are the store's own promises, read through the lent numbers.
use mathlib.Core.Path.{◌≡◌, refl, sym, ap, ◌∙◌}
use mathlib.Core.Bool.{false}
use mathlib.Core.Logic.{◌↔◌, ◌⊎◌, ⊎_elim}
use mathlib.Core.List.{List, [], ◌∷◌, ◌++◌, map, Mem, mem-cast}
use Prim.Native.Nat.{ℕ, min, ◌+◌, ◌-◌, ◌*◌, ◌/◌, ◌^◌, ◌≤◌, ◌<◌}
use native.Mathlib.Omega.{arith}
use lib.ListN.{length, get_or, take, drop}
use Rattle.words.specs.Words.{Words}
use Rattle.words.specs.Bytes.{Bytes}
use Rattle.words.proofs.Each.{Each, each_follows}
use Rattle.answers.specs.Answers.{afterwards, over}
use Rattle.answers.proofs.Checks.{afterwards-new}
use Rattle.block_rules.specs.Codes.{dfcm_chosen_by_bytes}
use Rattle.block_rules.specs.Block.{block_by, stated_length, coded_in}
use Rattle.block_rules.specs.Numbers.{t_of, form_number, block_number}
use Rattle.block_rules.specs.Forms.{HasPadded, named}
use Rattle.block_rules.specs.Room.{BlockFor}
use Rattle.block_rules.specs.Calls.{Packed, Checked, Unpacked}
use Rattle.block_rules.proofs.Accept.{thirteen_tells, checks-number}
use Rattle.block_rules.proofs.Order.{takes_form}
use Rattle.block_rules.proofs.Claims.{packed_before_checks, padded-answers}
use Rattle.blocks.proofs.Claims.{Tables, round_trip, packed_before_unpacks, pack_is_shortest_of_all, pack_is_shortest, unpacked-one_form, pack_numbers, check_numbers, unpack_numbers, pack_one_answer, unpack_one_answer, pack_forgets, unpack_forgets, refused_pack_changes_nothing, refused_unpack_changes_nothing}
use Rattle.exam_rules.specs.File.{Entry, file_length, file_bytes, block_of, empty}
use Rattle.exam_rules.specs.Pieces.{blocks_of, file_of_pieces}
use Rattle.exam_rules.specs.Reading.{exam_in, file_in, entry_of}
use Rattle.exam_rules.specs.Numbers.{open_in_number, find_number, block_in, next_slot}
use Rattle.exam_rules.specs.Calls.{opened, opened_t, opened_entries, located, Lent, lent, words_of, filled, Located, Made, Filled, Salvaged}
use Rattle.exam_rules.specs.Salvage.{block_stands, whole_blocks, numbered, salvaged_file}
use Rattle.exam_rules.specs.Maps.{Map, file_of, changed, renumbered_from}
use Rattle.exam_rules.specs.declared.Record.{Record}
use Rattle.exam_rules.proofs.Accept.{ReplaceTakes, AppendAllTakes, foretold, SalvageTakes}
use Rattle.exam_rules.proofs.Kept.{found_part}
use Rattle.exam_rules.proofs.Exchanged.{found-old}
use Rattle.exam_rules.proofs.Staying.{SlotsFit}
use Rattle.exams.proofs.Claims.{MadeOf, created, grown, exchanged, made-opens, made_fetches, packed_before_fetches, MadeBefore, earlier_opens, earlier_fetches, earlier_cut_is_never_whole, append_fetches, replace_fetches, replace_is_its_parts, replace_is_afresh, cut_is_never_whole, create_numbers, open_numbers, locate_numbers, fetch_numbers, append_numbers, replace_numbers, create_one_answer, fetch_one_answer, append_one_answer, replace_one_answer, fetch_forgets, append-forgets, replace_forgets, refused_create_changes_nothing, refused_locate_tells_nothing, refused_fetch_changes_nothing, refused_append_changes_nothing, refused_replace_changes_nothing, replace_exchanges, replace_keeps_trailer, replace_length, replace_keeps_slots, replace_keeps_blocks, replace_moves_later, replace_puts_block, freed_bytes_are_zero, replace_leaves_the_rest, located-entry, own-exam, located_has, fetch_accepts, append_accepts, replace_accepts, append_all_one_answer, append_all_answers, append_all_accepts, append_all_numbers, append_all_own_exam, append_all_forgets, refused_append_all_changes_nothing, append_all_unopened, refused_record_changes_nothing, append_all_of_none, append_all_of_one, OneAfterAnother, append_all_is_appends, ItsAppends, append_all_has_its_appends, append_all_counts, append_all_opens, append_all_keeps_slots, map_of, append_all_fetches, made_append_all, salvage_one_answer, salvage_accepts, salvage_numbers, refused_salvage_changes_nothing, salvage_opens, salvage_is_its_bytes, salvage_keeps_bytes, salvage_counts, salvage_stops, salvage_stops_at_refused, salvage_slots, salvage_finds, salvage_places, salvage_of_nothing, salvage_leaves_the_rest, salvage_room, salvage_of_intact, salvage_keeps_those_within, salvage_keeps_no_more, salvage_fetches, salvage_makes, salvage_fits, earlier_salvage_keeps, earlier_salvage_keeps_no_more, earlier_salvage_fits, earlier_salvage_fetches}
use Rattle.coil.specs.Calls.{CoilOpens, CoilChecks, CoilPacks, CoilUnpacks, CoilCreates, CoilFinds, CoilFetches, CoilAppends, CoilAppendsAll, CoilReplaces, CoilSalvages}

-- ---- there and back

-- what unpacking answers, read through the lent numbers
told : {r n k : ℕ} {A : Type 0} → ◌≡◌ {A = Unpacked} (record { number = r; count = n }) (record { number = 0; count = k }) × A → (r ≡ 0) × (n ≡ k) × A
told a = (ap (λ (x : Unpacked). x.number) a.0, ap (λ (x : Unpacked). x.count) a.0, a.1)

-- Unpacking what coil_pack wrote, with tables of the same size whatever they hold, gives each word back bit for bit.
pub coil_round_trip : {words fcm dfcm out f' d' out' f₂ d₂ room f₂' d₂' room' : List ℕ} {r l s n : ℕ}
    → Words words → CoilPacks words fcm dfcm out r f' d' out' l → r ≡ 0
    → CoilUnpacks (take l out') f₂ d₂ room s f₂' d₂' room' n → length f₂ ≡ length fcm → length d₂ ≡ length dfcm → length words ≤ length room
    → (s ≡ 0) × (n ≡ length words) × (room' ≡ over words room)
coil_round_trip h p e q lf ld enough =
    let a = round_trip h p e q lf ld enough in
    told (a.0, a.1)

-- What coil_append stored coil_fetch gives back, bit for bit: from any file that opens, whoever made it, with tables of the same size whatever they hold.
pub coil_append_fetches : {b : List ℕ} {l exam slot : ℕ} {words fcm dfcm bench b' f' d' bench' f₂ d₂ room f₂' d₂' room' : List ℕ} {r m s n : ℕ} → Bytes b → slot < 2 ^ 32 → Words words
    → CoilAppends b l exam slot words fcm dfcm bench r b' f' d' bench' m → r ≡ 0
    → CoilFetches b' m exam slot f₂ d₂ room s f₂' d₂' room' n → length f₂ ≡ length fcm → length d₂ ≡ length dfcm → length words ≤ length room
    → (s ≡ 0) × (n ≡ length words) × (room' ≡ over words room)
coil_append_fetches h w v c e q lf ld enough = told (append_fetches h w v c e q lf ld enough)

-- So it gives back the words of each record that coil_append_all stored, even where a later one was refused.
pub coil_append_all_fetches : (first : List Record) (x : Record) (rest : List Record) {b : List ℕ} {l exam : ℕ} {words fcm dfcm bench b' f' d' bench' f₂ d₂ room f₂' d₂' room' : List ℕ} {r k m s n : ℕ}
    → Bytes b → SlotsFit (first ++ x ∷ rest) → Words words → CoilAppendsAll b l exam (first ++ x ∷ rest) words fcm dfcm bench r b' f' d' bench' k m → length first < k
    → CoilFetches b' m exam x.slot f₂ d₂ room s f₂' d₂' room' n → length f₂ ≡ length fcm → length d₂ ≡ length dfcm → x.count ≤ length room
    → (s ≡ 0) × (n ≡ x.count) × (room' ≡ over (words_of x words) room)
coil_append_all_fetches first x rest h w v c less q lf ld enough = told (append_all_fetches first x rest h w v c less q lf ld enough)

-- So it gives back what coil_replace put in a slot's place.
pub coil_replace_fetches : {b : List ℕ} {l exam slot : ℕ} {words fcm dfcm bench b' f' d' bench' f₂ d₂ room f₂' d₂' room' : List ℕ} {r m s n : ℕ} → Bytes b → Words words
    → CoilReplaces b l exam slot words fcm dfcm bench r b' f' d' bench' m → r ≡ 0
    → CoilFetches b' m exam slot f₂ d₂ room s f₂' d₂' room' n → length f₂ ≡ length fcm → length d₂ ≡ length dfcm → length words ≤ length room
    → (s ≡ 0) × (n ≡ length words) × (room' ≡ over words room)
coil_replace_fetches h v c e q lf ld enough = told (replace_fetches h v c e q lf ld enough)

-- A file that coil_create made is one made by create, appends, replaces and salvage, with no map yet. (`copied` of MadeOf: so is every copy of such a file.)
pub coil_create_makes : {b b' : List ℕ} {exam t r l : ℕ} → exam < 2 ^ 64 → CoilCreates b exam t r b' l → r ≡ 0 → MadeOf exam t [] b' l
coil_create_makes w c e = created w c e

-- With coil_append it has one map more.
pub coil_append_makes : {exam t : ℕ} {ms : List Map} {b : List ℕ} {l slot : ℕ} {words fcm dfcm bench b' f' d' bench' : List ℕ} {r m : ℕ}
    → MadeOf exam t ms b l → slot < 2 ^ 32 → Words words → CoilAppends b l exam slot words fcm dfcm bench r b' f' d' bench' m → r ≡ 0
    → MadeOf exam t (ms ++ (record { slot = slot; words = words } ∷ [])) b' m
coil_append_makes k s w c e = grown k s w c e

-- With coil_append_all it has a map more for each record that went in, even where a later one was refused.
pub coil_append_all_makes : {exam t : ℕ} {ms : List Map} {b : List ℕ} {l : ℕ} {records : List Record} {words fcm dfcm bench b' f' d' bench' : List ℕ} {r k m : ℕ}
    → MadeOf exam t ms b l → SlotsFit records → Words words → CoilAppendsAll b l exam records words fcm dfcm bench r b' f' d' bench' k m → (r ≡ 0) ⊎ (0 < k)
    → MadeOf exam t (ms ++ map (map_of words) (take k records)) b' m
coil_append_all_makes h w v c e = made_append_all h w v c e

-- With coil_replace it is made of the changed list: other words in one map.
pub coil_replace_makes : {exam t : ℕ} {ms : List Map} {b : List ℕ} {l slot : ℕ} {words fcm dfcm bench b' f' d' bench' : List ℕ} {r m : ℕ}
    → MadeOf exam t ms b l → Words words → CoilReplaces b l exam slot words fcm dfcm bench r b' f' d' bench' m → r ≡ 0 → MadeOf exam t (changed slot words ms) b' m
coil_replace_makes k w c e = exchanged k w c e

-- Cut to its first k bytes, or not, and salvaged by coil_salvage with its t, for any exam number, it is made of the maps that were kept, renumbered.
pub coil_salvage_makes : {exam t : ℕ} {ms : List Map} {b : List ℕ} {l : ℕ} → MadeOf exam t ms b l → (k : ℕ) {other r m kept left renumber : ℕ} {file file' : List ℕ} → other < 2 ^ 64
    → CoilSalvages (take k (take l b)) file other t r file' m kept left renumber → r ≡ 0 → MadeOf other t (renumbered_from 0 (take kept ms)) file' m
coil_salvage_makes h k w c e = salvage_makes h k w c e

-- With coil_replace it is the bytes of the file of the changed list.
pub coil_replace_is_its_parts : (first : List Map) (x : Map) (rest : List Map) {exam t : ℕ} {b : List ℕ} {l : ℕ} {words fcm dfcm bench b' f' d' bench' : List ℕ} {r m : ℕ}
    → MadeOf exam t (first ++ x ∷ rest) b l → Words words → CoilReplaces b l exam x.slot words fcm dfcm bench r b' f' d' bench' m → r ≡ 0
    → (take m b' ≡ file_bytes (file_of exam t (first ++ record { slot = x.slot; words = words } ∷ rest)))
    × (m ≡ file_length (file_of exam t (first ++ record { slot = x.slot; words = words } ∷ rest)))
coil_replace_is_its_parts first x rest h w q e = replace_is_its_parts first x rest h w q e

-- And it is byte for byte the file that coil_create and coil_append make afresh from the changed list, where none of those is refused: a file packed wholly by the
-- rule's choice.
pub coil_replace_is_afresh : (first : List Map) (x : Map) (rest : List Map) {exam t : ℕ} {b c : List ℕ} {l k : ℕ} {words fcm dfcm bench b' f' d' bench' : List ℕ} {r m : ℕ}
    → MadeOf exam t (first ++ x ∷ rest) b l → Words words → CoilReplaces b l exam x.slot words fcm dfcm bench r b' f' d' bench' m → r ≡ 0
    → MadeOf exam t (first ++ record { slot = x.slot; words = words } ∷ rest) c k → (m ≡ k) × (take m b' ≡ take k c)
coil_replace_is_afresh first x rest h w q e afresh = replace_is_afresh first x rest h w q e afresh

-- coil_open opens such a file for its exam number.
pub coil_made_opens : {exam t : ℕ} {ms : List Map} {b : List ℕ} {l r : ℕ} → MadeOf exam t ms b l → CoilOpens b l exam r → r ≡ 0
coil_made_opens k c = c ∙ made-opens k

-- coil_fetch gives back exactly the words that were put there last: with tables of 2 ^ t words, whatever they hold, and whatever else the file holds.
pub coil_made_fetches : (first : List Map) (m : Map) (rest : List Map) {exam t : ℕ} {b : List ℕ} {l : ℕ} {fcm dfcm room f' d' room' : List ℕ} {r n : ℕ}
    → MadeOf exam t (first ++ m ∷ rest) b l → CoilFetches b l exam m.slot fcm dfcm room r f' d' room' n
    → length fcm ≡ 2 ^ t → length dfcm ≡ 2 ^ t → length m.words ≤ length room
    → (r ≡ 0) × (n ≡ length m.words) × (room' ≡ over m.words room)
coil_made_fetches first m rest k c lf ld enough = told (made_fetches first m rest k c lf ld enough)

-- where all blocks that coil_find finds pass coil_check, they are all whole
all_whole : (c : List ℕ) (l asked : ℕ) → ((slot offset size : ℕ) → CoilFinds c l asked slot 0 offset size → CoilChecks (take size (drop offset c)) 0)
    → (slot : ℕ) → find_number c l asked slot ≡ 0 → block_number (block_in c l slot) ≡ 0
unfolding located
all_whole c l asked w slot z =
    let x = entry_of slot (file_in (take l c)) in
    let found : CoilFinds c l asked slot 0 x.offset x.size = rw (afterwards-new _ x.offset 0 z, afterwards-new _ x.size 0 z, z) refl in
    rw (found_part c l asked slot z) (sym (checks-number _) ∙ sym (w slot x.offset x.size found))

-- where of all blocks that coil_find finds coil_check answers 0 or 13, they can all be read
all_read : (c : List ℕ) (l asked : ℕ) → ((slot offset size : ℕ) → CoilFinds c l asked slot 0 offset size → CoilChecks (take size (drop offset c)) 0 ⊎ CoilChecks (take size (drop offset c)) 13)
    → (slot : ℕ) → find_number c l asked slot ≡ 0 → form_number (block_in c l slot) ≡ 0
unfolding located
all_read c l asked w slot z =
    let x = entry_of slot (file_in (take l c)) in
    let found : CoilFinds c l asked slot 0 x.offset x.size = rw (afterwards-new _ x.offset 0 z, afterwards-new _ x.size 0 z, z) refl in
    rw (found_part c l asked slot z)
    (⊎_elim (λ e. takes_form _ (sym (checks-number _) ∙ sym e)) (λ e. (thirteen_tells _ (sym (checks-number _) ∙ sym e)).0) (w slot x.offset x.size found))

-- Cut such a file anywhere, and let a buffer begin with what is left. coil_open may take it. But never do all blocks that coil_find then finds pass
-- coil_check: one at least is refused, and not with 13. And coil_fetch unpacks none that does not pass.
pub coil_cut_is_never_whole : {exam t : ℕ} {ms : List Map} {b : List ℕ} {l : ℕ} → MadeOf exam t ms b l → (k : ℕ) → k < l → (c : List ℕ) → take k c ≡ take k b
    → (asked : ℕ) → CoilOpens c k asked 0
    → ((slot offset size : ℕ) → CoilFinds c k asked slot 0 offset size → CoilChecks (take size (drop offset c)) 0 ⊎ CoilChecks (take size (drop offset c)) 13) → ⊥
coil_cut_is_never_whole m k short c same asked o w = cut_is_never_whole m k short c same asked (sym o) (all_read c k asked w)

-- ---- no block is shorter

-- Of all blocks of the words, with tables of the size that coil_pack had, whoever packed them and padded or not, none is shorter than the one that coil_pack wrote.
pub coil_pack_is_shortest_of_all : {words fcm dfcm out f' d' out' b : List ℕ} {r l : ℕ} → CoilPacks words fcm dfcm out r f' d' out' l → r ≡ 0
    → BlockFor (t_of (length fcm)) words b → l ≤ length b
coil_pack_is_shortest_of_all p e k = pack_is_shortest_of_all p e k

-- So of all bytes for which coil_unpack, with tables of the size that coil_pack had, answers 0 and gives the words that were packed, none are fewer than those that
-- coil_pack wrote.
pub coil_pack_is_shortest : {words fcm dfcm out f' d' out' b f₂ d₂ room f₂' d₂' room' : List ℕ} {r l s n : ℕ}
    → CoilPacks words fcm dfcm out r f' d' out' l → r ≡ 0
    → Bytes b → CoilUnpacks b f₂ d₂ room s f₂' d₂' room' n → length f₂ ≡ length fcm → s ≡ 0 → take n room' ≡ words
    → l ≤ length b
coil_pack_is_shortest p e h u same z gives = pack_is_shortest p e h u same z gives

-- ---- padded codes, and the one form of a block

-- coil_check answers 13 just where 4, 2, 5 and 6 do not answer and one of the counted codes is padded.
pub coil_padded_answers : (b : List ℕ) {r : ℕ} → CoilChecks b r → (r ≡ 13) ↔ ((form_number b ≡ 0) × HasPadded (coded_in b))
coil_padded_answers b c =
    let k = padded-answers b in
    ((λ e. k.0 (sym c ∙ e)), (λ h. c ∙ k.1 h))

-- Two blocks of which coil_unpack, with tables of one size, gives the same words, and which name the same predictor at each word, are the same bytes.
pub coil_one_form : {b c fcm dfcm f₂ d₂ words words₂ f' d' w' f₂' d₂' w₂' : List ℕ} {r m s n : ℕ} → Bytes b → Bytes c
    → CoilUnpacks b fcm dfcm words r f' d' w' m → CoilUnpacks c f₂ d₂ words₂ s f₂' d₂' w₂' n → r ≡ 0 → s ≡ 0 → length fcm ≡ length f₂
    → take m w' ≡ take n w₂' → named b ≡ named c → b ≡ c
coil_one_form h k u v e f same ws ns = unpacked-one_form h k u v e f same ws ns

-- ---- what was packed before request L2, when dfcm was chosen by leading zero bytes

-- coil_check takes a block that was packed before.
pub coil_packed_before_checks : (t : ℕ) (words : List ℕ) {r : ℕ} → length words ≤ 65536 → Words words → CoilChecks (block_by dfcm_chosen_by_bytes t words) r → r ≡ 0
coil_packed_before_checks t words few h c = c ∙ ap (λ (x : Checked). x.number) (packed_before_checks t words few h)

-- coil_unpack gives its words back, with tables of the size that it was packed with.
pub coil_packed_before_unpacks : (words : List ℕ) {fcm dfcm room f' d' room' : List ℕ} {r n : ℕ} (k : Tables fcm dfcm) → Words words → length words ≤ 65536
    → CoilUnpacks (block_by dfcm_chosen_by_bytes k.t words) fcm dfcm room r f' d' room' n → length words ≤ length room
    → (r ≡ 0) × (n ≡ length words) × (room' ≡ over words room)
coil_packed_before_unpacks words k h few c enough =
    let a = packed_before_unpacks words k h few c enough in
    told (a.0, a.1)

-- coil_fetch gives them back from any file in which coil_find finds the block, with tables of the file's 2 ^ t words.
pub coil_packed_before_fetches : (words : List ℕ) {b : List ℕ} {l exam slot offset size : ℕ} {fcm dfcm room f' d' room' : List ℕ} {r n : ℕ} → Words words → length words ≤ 65536
    → CoilFinds b l exam slot 0 offset size → take size (drop offset b) ≡ block_by dfcm_chosen_by_bytes (file_in (take l b)).t words → CoilFetches b l exam slot fcm dfcm room r f' d' room' n
    → length fcm ≡ 2 ^ (file_in (take l b)).t → length dfcm ≡ 2 ^ (file_in (take l b)).t → length words ≤ length room
    → (r ≡ 0) × (n ≡ length words) × (room' ≡ over words room)
unfolding located
coil_packed_before_fetches words {b} {l} {exam} {slot} h few found is c lf ld enough =
    let z = sym (ap (λ (x : Located). x.number) found) in
    let o = ap (λ (x : Located). x.offset) found ∙ afterwards-new _ (entry_of slot (file_in (take l b))).offset 0 z in
    let s = ap (λ (x : Located). x.size) found ∙ afterwards-new _ (entry_of slot (file_in (take l b))).size 0 z in
    let a = packed_before_fetches words h few z (found_part b l exam slot z ∙ (rw (o, s) at is)) c lf ld enough in
    told (a.0, a.1)

-- coil_open opens a file that was made before for its exam number.
pub coil_earlier_opens : {exam t : ℕ} {ms : List Map} {b : List ℕ} {l r : ℕ} → MadeBefore exam t ms b l → CoilOpens b l exam r → r ≡ 0
coil_earlier_opens k c = c ∙ earlier_opens k

-- coil_fetch gives back the words of each of its slots.
pub coil_earlier_fetches : (first : List Map) (m : Map) (rest : List Map) {exam t : ℕ} {b : List ℕ} {l : ℕ} {fcm dfcm room f' d' room' : List ℕ} {r n : ℕ}
    → MadeBefore exam t (first ++ m ∷ rest) b l → CoilFetches b l exam m.slot fcm dfcm room r f' d' room' n
    → length fcm ≡ 2 ^ t → length dfcm ≡ 2 ^ t → length m.words ≤ length room
    → (r ≡ 0) × (n ≡ length m.words) × (room' ≡ over m.words room)
coil_earlier_fetches first m rest k c lf ld enough = told (earlier_fetches first m rest k c lf ld enough)

-- Nor can all blocks be read where such a file was cut and opens: one at least is refused, and not with 13.
pub coil_earlier_cut_is_never_whole : {exam t : ℕ} {ms : List Map} {b : List ℕ} {l : ℕ} → MadeBefore exam t ms b l → (k : ℕ) → k < l → (c : List ℕ) → take k c ≡ take k b
    → (asked : ℕ) → CoilOpens c k asked 0
    → ((slot offset size : ℕ) → CoilFinds c k asked slot 0 offset size → CoilChecks (take size (drop offset c)) 0 ⊎ CoilChecks (take size (drop offset c)) 13) → ⊥
coil_earlier_cut_is_never_whole m k short c same asked o w = earlier_cut_is_never_whole m k short c same asked (sym o) (all_read c k asked w)

-- ---- every number is one of the call's list

-- coil_pack answers 0, 1, 2 or 3.
pub coil_pack_numbers : {words fcm dfcm out f' d' out' : List ℕ} {r l : ℕ} → CoilPacks words fcm dfcm out r f' d' out' l → Mem r (0 ∷ 1 ∷ 2 ∷ 3 ∷ [])
coil_pack_numbers c = pack_numbers c

-- coil_check answers 0, 4, 2, 5, 6 or 13.
pub coil_check_numbers : (b : List ℕ) {r : ℕ} → CoilChecks b r → Mem r (0 ∷ 4 ∷ 2 ∷ 5 ∷ 6 ∷ 13 ∷ [])
coil_check_numbers b c = mem-cast c (check_numbers b)

-- coil_unpack answers 0, 1, one of coil_check's numbers, or 3.
pub coil_unpack_numbers : {b fcm dfcm words f' d' w' : List ℕ} {r n : ℕ} → CoilUnpacks b fcm dfcm words r f' d' w' n → Mem r (0 ∷ 1 ∷ 4 ∷ 2 ∷ 5 ∷ 6 ∷ 13 ∷ 3 ∷ [])
coil_unpack_numbers c = unpack_numbers c

-- coil_create answers 0, 8, 7 or 3.
pub coil_create_numbers : {b b' : List ℕ} {exam t r l : ℕ} → CoilCreates b exam t r b' l → Mem r (0 ∷ 8 ∷ 7 ∷ 3 ∷ [])
coil_create_numbers c = create_numbers c

-- coil_open answers 0, 4, 7, 8 or 9.
pub coil_open_numbers : (b : List ℕ) (l exam : ℕ) {r : ℕ} → CoilOpens b l exam r → Mem r (0 ∷ 4 ∷ 7 ∷ 8 ∷ 9 ∷ [])
coil_open_numbers b l exam c = mem-cast c (open_numbers b l exam)

-- coil_find answers 0, one of coil_open's numbers, or 10.
pub coil_find_numbers : (b : List ℕ) (l exam slot : ℕ) {r offset size : ℕ} → CoilFinds b l exam slot r offset size → Mem r (0 ∷ 4 ∷ 7 ∷ 8 ∷ 9 ∷ 10 ∷ [])
coil_find_numbers b l exam slot c = mem-cast (ap (λ (x : Located). x.number) c) (locate_numbers b l exam slot)

-- coil_fetch answers 0, one of coil_find's numbers, 1, one of coil_check's, or 3.
pub coil_fetch_numbers : {b : List ℕ} {l exam slot : ℕ} {fcm dfcm words f' d' w' : List ℕ} {r n : ℕ} → CoilFetches b l exam slot fcm dfcm words r f' d' w' n
    → Mem r (0 ∷ 4 ∷ 7 ∷ 8 ∷ 9 ∷ 10 ∷ 1 ∷ 2 ∷ 5 ∷ 6 ∷ 13 ∷ 3 ∷ [])
coil_fetch_numbers c = fetch_numbers c

-- coil_append answers 0, one of coil_open's numbers, 12, 11, 1, 2 or 3.
pub coil_append_numbers : {b : List ℕ} {l exam slot : ℕ} {words fcm dfcm bench b' f' d' bench' : List ℕ} {r m : ℕ} → CoilAppends b l exam slot words fcm dfcm bench r b' f' d' bench' m
    → Mem r (0 ∷ 4 ∷ 7 ∷ 8 ∷ 9 ∷ 12 ∷ 11 ∷ 1 ∷ 2 ∷ 3 ∷ [])
coil_append_numbers c = append_numbers c

-- coil_append_all answers 0, one of coil_open's numbers, 15, 12, 11, 1, 2 or 3.
pub coil_append_all_numbers : {b : List ℕ} {l exam : ℕ} {records : List Record} {words fcm dfcm bench b' f' d' bench' : List ℕ} {r k m : ℕ} → CoilAppendsAll b l exam records words fcm dfcm bench r b' f' d' bench' k m
    → Mem r (0 ∷ 4 ∷ 7 ∷ 8 ∷ 9 ∷ 15 ∷ 12 ∷ 11 ∷ 1 ∷ 2 ∷ 3 ∷ [])
coil_append_all_numbers c = append_all_numbers c

-- coil_replace answers 0, one of coil_find's numbers, 1, 2 or 3.
pub coil_replace_numbers : {b : List ℕ} {l exam slot : ℕ} {words fcm dfcm bench b' f' d' bench' : List ℕ} {r m : ℕ} → CoilReplaces b l exam slot words fcm dfcm bench r b' f' d' bench' m
    → Mem r (0 ∷ 4 ∷ 7 ∷ 8 ∷ 9 ∷ 10 ∷ 1 ∷ 2 ∷ 3 ∷ [])
coil_replace_numbers c = replace_numbers c

-- coil_salvage answers 0, 8, 7 or 3.
pub coil_salvage_numbers : {old b b' : List ℕ} {exam t r m kept left renumber : ℕ} → CoilSalvages old b exam t r b' m kept left renumber → Mem r (0 ∷ 8 ∷ 7 ∷ 3 ∷ [])
coil_salvage_numbers c = salvage_numbers c

-- ---- no second answer

-- Of the number that coil_open answers, the promise admits one value.
pub coil_open_one_answer : (b : List ℕ) (l exam : ℕ) {r₁ r₂ : ℕ} → CoilOpens b l exam r₁ → CoilOpens b l exam r₂ → r₁ ≡ r₂
coil_open_one_answer b l exam p q = p ∙ sym q

-- Of the number that coil_check answers, the promise admits one value.
pub coil_check_one_answer : (b : List ℕ) {r₁ r₂ : ℕ} → CoilChecks b r₁ → CoilChecks b r₂ → r₁ ≡ r₂
coil_check_one_answer b p q = p ∙ sym q

-- Of coil_pack's answer, both tables, the output and the lent length, the promise admits one value each.
pub coil_pack_one_answer : {words fcm dfcm out f₁ d₁ o₁ f₂ d₂ o₂ : List ℕ} {r₁ l₁ r₂ l₂ : ℕ}
    → CoilPacks words fcm dfcm out r₁ f₁ d₁ o₁ l₁ → CoilPacks words fcm dfcm out r₂ f₂ d₂ o₂ l₂ → (r₁ ≡ r₂) × (f₁ ≡ f₂) × (d₁ ≡ d₂) × (o₁ ≡ o₂) × (l₁ ≡ l₂)
coil_pack_one_answer p q =
    let a = pack_one_answer p q in
    (ap (λ (x : Packed). x.number) a.0, a.1, a.2, a.3, ap (λ (x : Packed). x.length) a.0)

-- Of coil_unpack's answer, both tables, the words and the lent count, the promise admits one value each.
pub coil_unpack_one_answer : {block fcm dfcm words f₁ d₁ w₁ f₂ d₂ w₂ : List ℕ} {r₁ n₁ r₂ n₂ : ℕ}
    → CoilUnpacks block fcm dfcm words r₁ f₁ d₁ w₁ n₁ → CoilUnpacks block fcm dfcm words r₂ f₂ d₂ w₂ n₂ → (r₁ ≡ r₂) × (f₁ ≡ f₂) × (d₁ ≡ d₂) × (w₁ ≡ w₂) × (n₁ ≡ n₂)
coil_unpack_one_answer p q =
    let a = unpack_one_answer p q in
    (ap (λ (x : Unpacked). x.number) a.0, a.1, a.2, a.3, ap (λ (x : Unpacked). x.count) a.0)

-- Of coil_create's answer, the buffer and the lent length, the promise admits one value each.
pub coil_create_one_answer : {b b₁ b₂ : List ℕ} {exam t r₁ l₁ r₂ l₂ : ℕ} → CoilCreates b exam t r₁ b₁ l₁ → CoilCreates b exam t r₂ b₂ l₂ → (r₁ ≡ r₂) × (b₁ ≡ b₂) × (l₁ ≡ l₂)
coil_create_one_answer p q =
    let a = create_one_answer p q in
    (ap (λ (x : Made). x.number) a.0, a.1, ap (λ (x : Made). x.length) a.0)

-- Of coil_find's answer and both lent numbers, the promise admits one value each.
pub coil_find_one_answer : (b : List ℕ) (l exam slot : ℕ) {r₁ o₁ s₁ r₂ o₂ s₂ : ℕ} → CoilFinds b l exam slot r₁ o₁ s₁ → CoilFinds b l exam slot r₂ o₂ s₂ → (r₁ ≡ r₂) × (o₁ ≡ o₂) × (s₁ ≡ s₂)
coil_find_one_answer b l exam slot p q =
    let a = p ∙ sym q in
    (ap (λ (x : Located). x.number) a, ap (λ (x : Located). x.offset) a, ap (λ (x : Located). x.size) a)

-- Of coil_fetch's answer, both tables, the words and the lent count, the promise admits one value each.
pub coil_fetch_one_answer : {b : List ℕ} {l exam slot : ℕ} {fcm dfcm words f₁ d₁ w₁ f₂ d₂ w₂ : List ℕ} {r₁ n₁ r₂ n₂ : ℕ}
    → CoilFetches b l exam slot fcm dfcm words r₁ f₁ d₁ w₁ n₁ → CoilFetches b l exam slot fcm dfcm words r₂ f₂ d₂ w₂ n₂ → (r₁ ≡ r₂) × (f₁ ≡ f₂) × (d₁ ≡ d₂) × (w₁ ≡ w₂) × (n₁ ≡ n₂)
coil_fetch_one_answer p q =
    let a = fetch_one_answer p q in
    (ap (λ (x : Unpacked). x.number) a.0, a.1, a.2, a.3, ap (λ (x : Unpacked). x.count) a.0)

-- Of coil_append's answer, the buffer, both tables, the bench buffer and the lent length, the promise admits one value each.
pub coil_append_one_answer : {b : List ℕ} {l exam slot : ℕ} {words fcm dfcm bench b₁ f₁ d₁ n₁ b₂ f₂ d₂ n₂ : List ℕ} {r₁ l₁ r₂ l₂ : ℕ}
    → CoilAppends b l exam slot words fcm dfcm bench r₁ b₁ f₁ d₁ n₁ l₁ → CoilAppends b l exam slot words fcm dfcm bench r₂ b₂ f₂ d₂ n₂ l₂
    → (r₁ ≡ r₂) × (b₁ ≡ b₂) × (f₁ ≡ f₂) × (d₁ ≡ d₂) × (n₁ ≡ n₂) × (l₁ ≡ l₂)
coil_append_one_answer p q =
    let a = append_one_answer p q in
    (ap (λ (x : Made). x.number) a.0, a.1, a.2, a.3, a.4, ap (λ (x : Made). x.length) a.0)

-- Of coil_append_all's answer, the buffer, both tables, the bench buffer, the lent count and the lent length, the promise admits one value each.
pub coil_append_all_one_answer : {b : List ℕ} {l exam : ℕ} {records : List Record} {words fcm dfcm bench b₁ f₁ d₁ n₁ b₂ f₂ d₂ n₂ : List ℕ} {r₁ k₁ l₁ r₂ k₂ l₂ : ℕ}
    → CoilAppendsAll b l exam records words fcm dfcm bench r₁ b₁ f₁ d₁ n₁ k₁ l₁ → CoilAppendsAll b l exam records words fcm dfcm bench r₂ b₂ f₂ d₂ n₂ k₂ l₂
    → (r₁ ≡ r₂) × (b₁ ≡ b₂) × (f₁ ≡ f₂) × (d₁ ≡ d₂) × (n₁ ≡ n₂) × (k₁ ≡ k₂) × (l₁ ≡ l₂)
coil_append_all_one_answer p q =
    let a = append_all_one_answer p q in
    (ap (λ (x : Filled). x.number) a.0, a.1, a.2, a.3, a.4, ap (λ (x : Filled). x.appended) a.0, ap (λ (x : Filled). x.length) a.0)

-- Of coil_replace's answer, the buffer, both tables, the bench buffer and the lent length, the promise admits one value each.
pub coil_replace_one_answer : {b : List ℕ} {l exam slot : ℕ} {words fcm dfcm bench b₁ f₁ d₁ n₁ b₂ f₂ d₂ n₂ : List ℕ} {r₁ l₁ r₂ l₂ : ℕ}
    → CoilReplaces b l exam slot words fcm dfcm bench r₁ b₁ f₁ d₁ n₁ l₁ → CoilReplaces b l exam slot words fcm dfcm bench r₂ b₂ f₂ d₂ n₂ l₂
    → (r₁ ≡ r₂) × (b₁ ≡ b₂) × (f₁ ≡ f₂) × (d₁ ≡ d₂) × (n₁ ≡ n₂) × (l₁ ≡ l₂)
coil_replace_one_answer p q =
    let a = replace_one_answer p q in
    (ap (λ (x : Made). x.number) a.0, a.1, a.2, a.3, a.4, ap (λ (x : Made). x.length) a.0)

-- Of coil_salvage's answer, the buffer and the four lent numbers, the promise admits one value each.
pub coil_salvage_one_answer : {old b b₁ b₂ : List ℕ} {exam t r₁ m₁ k₁ l₁ n₁ r₂ m₂ k₂ l₂ n₂ : ℕ} → CoilSalvages old b exam t r₁ b₁ m₁ k₁ l₁ n₁ → CoilSalvages old b exam t r₂ b₂ m₂ k₂ l₂ n₂
    → (r₁ ≡ r₂) × (b₁ ≡ b₂) × (m₁ ≡ m₂) × (k₁ ≡ k₂) × (l₁ ≡ l₂) × (n₁ ≡ n₂)
coil_salvage_one_answer p q =
    let a = salvage_one_answer p q in (
      ap (λ (x : Salvaged). x.number) a.0,
      a.1,
      ap (λ (x : Salvaged). x.length) a.0,
      ap (λ (x : Salvaged). x.kept) a.0,
      ap (λ (x : Salvaged). x.left_over) a.0,
      ap (λ (x : Salvaged). x.renumbered) a.0,
    )

-- ---- a refusal puts 0 into every lent number and leaves everything else as it was

-- A refused coil_pack.
pub coil_refused_pack : {words fcm dfcm out f' d' out' : List ℕ} {r l : ℕ} → CoilPacks words fcm dfcm out r f' d' out' l → (r ≡ 0 → ⊥) → (l ≡ 0) × (f' ≡ fcm) × (d' ≡ dfcm) × (out' ≡ out)
coil_refused_pack c h = refused_pack_changes_nothing c h

-- A refused coil_unpack.
pub coil_refused_unpack : {block fcm dfcm words f' d' w' : List ℕ} {r n : ℕ} → CoilUnpacks block fcm dfcm words r f' d' w' n → (r ≡ 0 → ⊥) → (n ≡ 0) × (f' ≡ fcm) × (d' ≡ dfcm) × (w' ≡ words)
coil_refused_unpack c h = refused_unpack_changes_nothing c h

-- A refused coil_create.
pub coil_refused_create : {b b' : List ℕ} {exam t r l : ℕ} → CoilCreates b exam t r b' l → (r ≡ 0 → ⊥) → (l ≡ 0) × (b' ≡ b)
coil_refused_create c h = refused_create_changes_nothing c h

-- A refused coil_find, which is lent numbers alone.
pub coil_refused_find : (b : List ℕ) (l exam slot : ℕ) {r offset size : ℕ} → CoilFinds b l exam slot r offset size → (r ≡ 0 → ⊥) → (offset ≡ 0) × (size ≡ 0)
coil_refused_find b l exam slot c h =
    let a = refused_locate_tells_nothing b l exam slot (λ z. h (ap (λ (x : Located). x.number) c ∙ z)) in
    (ap (λ (x : Located). x.offset) c ∙ a.0, ap (λ (x : Located). x.size) c ∙ a.1)

-- A refused coil_fetch.
pub coil_refused_fetch : {b : List ℕ} {l exam slot : ℕ} {fcm dfcm words f' d' w' : List ℕ} {r n : ℕ} → CoilFetches b l exam slot fcm dfcm words r f' d' w' n → (r ≡ 0 → ⊥)
    → (n ≡ 0) × (f' ≡ fcm) × (d' ≡ dfcm) × (w' ≡ words)
coil_refused_fetch c h = refused_fetch_changes_nothing c h

-- A refused coil_append.
pub coil_refused_append : {b : List ℕ} {l exam slot : ℕ} {words fcm dfcm bench b' f' d' bench' : List ℕ} {r m : ℕ} → CoilAppends b l exam slot words fcm dfcm bench r b' f' d' bench' m → (r ≡ 0 → ⊥)
    → (m ≡ 0) × (b' ≡ b) × (f' ≡ fcm) × (d' ≡ dfcm) × (bench' ≡ bench)
coil_refused_append c h = refused_append_changes_nothing c h

-- A refused coil_append_all with none in. (Where some went in, they stay: see `coil_refused_record_changes_nothing`.)
pub coil_refused_append_all : {b : List ℕ} {l exam : ℕ} {records : List Record} {words fcm dfcm bench b' f' d' bench' : List ℕ} {r k m : ℕ} → CoilAppendsAll b l exam records words fcm dfcm bench r b' f' d' bench' k m
    → (r ≡ 0 → ⊥) → k ≡ 0 → (m ≡ 0) × (b' ≡ b) × (f' ≡ fcm) × (d' ≡ dfcm) × (bench' ≡ bench)
coil_refused_append_all c h z = refused_append_all_changes_nothing c h z

-- A refused coil_replace.
pub coil_refused_replace : {b : List ℕ} {l exam slot : ℕ} {words fcm dfcm bench b' f' d' bench' : List ℕ} {r m : ℕ} → CoilReplaces b l exam slot words fcm dfcm bench r b' f' d' bench' m → (r ≡ 0 → ⊥)
    → (m ≡ 0) × (b' ≡ b) × (f' ≡ fcm) × (d' ≡ dfcm) × (bench' ≡ bench)
coil_refused_replace c h = refused_replace_changes_nothing c h

-- A refused coil_salvage.
pub coil_refused_salvage : {old b b' : List ℕ} {exam t r m kept left renumber : ℕ} → CoilSalvages old b exam t r b' m kept left renumber → (r ≡ 0 → ⊥)
    → (m ≡ 0) × (kept ≡ 0) × (left ≡ 0) × (renumber ≡ 0) × (b' ≡ b)
coil_refused_salvage c h = refused_salvage_changes_nothing c h

-- ---- coil_append_all is coil_append, one record after another

-- With no record it changes nothing, and answers coil_open's number, none in, and where that is 0 the length that was given.
pub coil_append_all_of_none : {b : List ℕ} {l exam : ℕ} {words fcm dfcm bench b' f' d' bench' : List ℕ} {r k m : ℕ} → CoilAppendsAll b l exam [] words fcm dfcm bench r b' f' d' bench' k m
    → (r ≡ open_in_number b l exam) × (k ≡ 0) × (m ≡ afterwards r l 0) × (b' ≡ b) × (f' ≡ fcm) × (d' ≡ dfcm) × (bench' ≡ bench)
coil_append_all_of_none {l = l} c =
    let a = append_all_of_none c in
    let n = ap (λ (x : Filled). x.number) a.0 in
    (n, ap (λ (x : Filled). x.appended) a.0, ap (λ (x : Filled). x.length) a.0 ∙ ap (λ (i : ℕ). afterwards i l 0) (sym n), a.1, a.2, a.3, a.4)

-- With one record, within the words, it is coil_append of the record's words: the same answer and length, the same left; and one in where that is 0.
pub coil_append_all_of_one : {b : List ℕ} {l exam : ℕ} {x : Record} {words fcm dfcm bench b' f' d' bench' : List ℕ} {r k m : ℕ} → x.first + x.count ≤ length words
    → CoilAppendsAll b l exam (x ∷ []) words fcm dfcm bench r b' f' d' bench' k m
    → CoilAppends b l exam x.slot (words_of x words) fcm dfcm bench r b' f' d' bench' m × (k ≡ afterwards r 1 0)
coil_append_all_of_one h c = append_all_of_one h c

-- Where the file opens, what it answers and leaves is what coil_append answers and leaves, called for one record after another up to the first refusal. (`OneAfterAnother`
-- asks each of them what CoilAppends says.)
pub coil_append_all_is_appends : {b : List ℕ} {l exam : ℕ} {records : List Record} {words fcm dfcm bench b' f' d' bench' : List ℕ} {r k m : ℕ} {n i l' : ℕ} {s' : Lent} → Bytes b → SlotsFit records → CoilOpens b l exam 0
    → OneAfterAnother exam words records l (lent b fcm dfcm bench) n i l' s' → CoilAppendsAll b l exam records words fcm dfcm bench r b' f' d' bench' k m
    → (r ≡ n) × (k ≡ i) × (m ≡ (filled n i l').length) × (b' ≡ s'.file) × (f' ≡ s'.fcm) × (d' ≡ s'.dfcm) × (bench' ≡ s'.bench)
coil_append_all_is_appends h w o g c =
    let a = append_all_is_appends h w (sym o) g c in
    (ap (λ (x : Filled). x.number) a.0, ap (λ (x : Filled). x.appended) a.0, ap (λ (x : Filled). x.length) a.0, a.1, a.2, a.3, a.4)

-- And there are such appends: with the number that it answers, and as many in.
pub coil_append_all_has_its_appends : {b : List ℕ} {l exam : ℕ} {records : List Record} {words fcm dfcm bench b' f' d' bench' : List ℕ} {r k m : ℕ} → Bytes b → SlotsFit records → CoilOpens b l exam 0
    → CoilAppendsAll b l exam records words fcm dfcm bench r b' f' d' bench' k m
    → ItsAppends exam words records l (lent b fcm dfcm bench) (record { number = r; appended = k; length = m }) (lent b' f' d' bench')
coil_append_all_has_its_appends h w o c = append_all_has_its_appends h w (sym o) c

-- Where the file opens, number, count and length are what `foretold` finds record by record from what is given alone.
pub coil_append_all_answers : {b : List ℕ} {l exam : ℕ} {records : List Record} {words fcm dfcm bench b' f' d' bench' : List ℕ} {r k m : ℕ} → Bytes b → SlotsFit records → CoilOpens b l exam 0
    → CoilAppendsAll b l exam records words fcm dfcm bench r b' f' d' bench' k m
    → record { number = r; appended = k; length = m }
    ≡ foretold words (file_in (take l b)).t (length fcm) (length dfcm) (length b) (length bench) (length (file_in (take l b)).entries) (next_slot 0 (file_in (take l b)).entries) 0 l records
coil_append_all_answers h w o c = append_all_answers h w (sym o) c

-- It answers 0 just where the file opens and each record has what it needs.
pub coil_append_all_accepts : {b : List ℕ} {l exam : ℕ} {records : List Record} {words fcm dfcm bench b' f' d' bench' : List ℕ} {r k m : ℕ} → Bytes b → SlotsFit records
    → CoilAppendsAll b l exam records words fcm dfcm bench r b' f' d' bench' k m → (r ≡ 0) ↔ AppendAllTakes b l exam records words (length fcm) (length dfcm) (length bench)
coil_append_all_accepts h w c = append_all_accepts h w c

-- No more maps go in than there are records, and all where it answers 0. Where the file opens and the call is refused there is a record at the place of the count: the
-- refused one.
pub coil_append_all_counts : {b : List ℕ} {l exam : ℕ} {records : List Record} {words fcm dfcm bench b' f' d' bench' : List ℕ} {r k m : ℕ} → CoilAppendsAll b l exam records words fcm dfcm bench r b' f' d' bench' k m
    → (k ≤ length records) × (r ≡ 0 → k ≡ length records) × (CoilOpens b l exam 0 → (r ≡ 0 → ⊥) → k < length records)
coil_append_all_counts c = let t = append_all_counts c in (t.0, t.1, λ o. t.2 (sym o))

-- Where the file does not open, it answers coil_open's number, none in and length 0, whatever the records are, and changes nothing.
pub coil_append_all_unopened : {b : List ℕ} {l exam : ℕ} {records : List Record} {words fcm dfcm bench b' f' d' bench' : List ℕ} {r k m : ℕ} {o : ℕ} → CoilAppendsAll b l exam records words fcm dfcm bench r b' f' d' bench' k m → CoilOpens b l exam o → (o ≡ 0 → ⊥)
    → (r ≡ o) × (k ≡ 0) × (m ≡ 0) × (b' ≡ b) × (f' ≡ fcm) × (d' ≡ dfcm) × (bench' ≡ bench)
coil_append_all_unopened c q h =
    let a = append_all_unopened c (λ z. h (q ∙ z)) in
    (ap (λ (x : Filled). x.number) a.0 ∙ sym q, ap (λ (x : Filled). x.appended) a.0, ap (λ (x : Filled). x.length) a.0, a.1, a.2, a.3, a.4)

-- A refused record changes nothing: where maps went in, the list of their records alone answers 0, as many in and the same length, and leaves the same.
pub coil_refused_record_changes_nothing : {b : List ℕ} {l exam : ℕ} {records : List Record} {words fcm dfcm bench b' f' d' bench' : List ℕ} {r k m : ℕ} → CoilAppendsAll b l exam records words fcm dfcm bench r b' f' d' bench' k m → 0 < k
    → CoilAppendsAll b l exam (take k records) words fcm dfcm bench 0 b' f' d' bench' k m
coil_refused_record_changes_nothing c h = refused_record_changes_nothing c h

-- Where it answers 0, or a map went in, the file that it leaves opens for the same exam number.
pub coil_append_all_opens : {b : List ℕ} {l exam : ℕ} {records : List Record} {words fcm dfcm bench b' f' d' bench' : List ℕ} {r k m : ℕ} {o : ℕ} → Bytes b → SlotsFit records → CoilAppendsAll b l exam records words fcm dfcm bench r b' f' d' bench' k m
    → (r ≡ 0) ⊎ (0 < k) → CoilOpens b' m exam o → o ≡ 0
coil_append_all_opens h w c e q = q ∙ append_all_opens h w c e

-- And every slot that coil_find found before it finds afterwards, at the same offset and with the same length and bytes.
pub coil_append_all_keeps_slots : {b : List ℕ} {l exam : ℕ} {records : List Record} {words fcm dfcm bench b' f' d' bench' : List ℕ} {r k m : ℕ} → Bytes b → SlotsFit records → CoilAppendsAll b l exam records words fcm dfcm bench r b' f' d' bench' k m → (r ≡ 0) ⊎ (0 < k)
    → (s : ℕ) {offset size : ℕ} → CoilFinds b l exam s 0 offset size → CoilFinds b' m exam s 0 offset size × (block_in b' m s ≡ block_in b l s)
unfolding located
coil_append_all_keeps_slots {b} {l} {exam} {b' = b'} {m = m} h w c e s found =
    let z = sym (ap (λ (x : Located). x.number) found) in
    let a = append_all_keeps_slots h w c e s z in
    let was = entry_of s (file_in (take l b)) in
    let o = ap (λ (x : Located). x.offset) found ∙ afterwards-new _ was.offset 0 z in
    let n = ap (λ (x : Located). x.size) found ∙ afterwards-new _ was.size 0 z in
    let is = entry_of s (file_in (take m b')) in
    (rw (o, n, afterwards-new _ is.offset 0 a.0, afterwards-new _ is.size 0 a.0, a.0, a.1) refl, a.2)

-- ---- a replace exchanges one block and keeps all else

-- coil_replace answers 0 just where it has what it needs.
pub coil_replace_accepts : {b : List ℕ} {l exam slot : ℕ} {words fcm dfcm bench b' f' d' bench' : List ℕ} {r m : ℕ} → CoilReplaces b l exam slot words fcm dfcm bench r b' f' d' bench' m
    → (r ≡ 0) ↔ ReplaceTakes b l exam slot (length words) (length fcm) (length dfcm) (length bench)
coil_replace_accepts c = replace_accepts c

-- Where coil_replace answers 0, the file that it leaves opens for the same exam number.
pub coil_replace_opens : {b : List ℕ} {l exam slot : ℕ} {words fcm dfcm bench b' f' d' bench' : List ℕ} {r m o : ℕ} → Bytes b
    → CoilReplaces b l exam slot words fcm dfcm bench r b' f' d' bench' m → r ≡ 0 → CoilOpens b' m exam o → o ≡ 0
coil_replace_opens h c e q = q ∙ (replace_exchanges h c e).1

-- With the same edition, t and number of entries.
pub coil_replace_keeps_trailer : {b : List ℕ} {l exam slot : ℕ} {words fcm dfcm bench b' f' d' bench' : List ℕ} {r m : ℕ} → Bytes b
    → CoilReplaces b l exam slot words fcm dfcm bench r b' f' d' bench' m → r ≡ 0
    → ((file_in (take m b')).edition ≡ (file_in (take l b)).edition) × ((file_in (take m b')).t ≡ (file_in (take l b)).t)
    × (length (file_in (take m b')).entries ≡ length (file_in (take l b)).entries)
coil_replace_keeps_trailer h c e = replace_keeps_trailer h c e

-- coil_find answers the same number for every slot.
pub coil_replace_keeps_slots : {b : List ℕ} {l exam slot : ℕ} {words fcm dfcm bench b' f' d' bench' : List ℕ} {r m : ℕ} → Bytes b
    → CoilReplaces b l exam slot words fcm dfcm bench r b' f' d' bench' m → r ≡ 0 → (s : ℕ) {k o n k' o' n' : ℕ} → CoilFinds b l exam s k o n → CoilFinds b' m exam s k' o' n' → k' ≡ k
unfolding located
coil_replace_keeps_slots h c e s p q = ap (λ (x : Located). x.number) q ∙ replace_keeps_slots h c e s ∙ sym (ap (λ (x : Located). x.number) p)

-- For the replaced slot it answers the same offset, and a length that differs as the file's does.
pub coil_replace_finds_own : {b : List ℕ} {l exam slot : ℕ} {words fcm dfcm bench b' f' d' bench' : List ℕ} {r m : ℕ} → Bytes b
    → CoilReplaces b l exam slot words fcm dfcm bench r b' f' d' bench' m → r ≡ 0 → {k o n k' o' n' : ℕ} → CoilFinds b l exam slot k o n → CoilFinds b' m exam slot k' o' n'
    → (o' ≡ o) × (n' + l ≡ n + m)
unfolding located
coil_replace_finds_own {b} {l} {exam} {slot} {words} {b' = b'} {m = m} h c e p q =
    let z = found-old c e in
    let was = located-entry b l exam slot z in
    let is = located-entry b' m exam slot (replace_keeps_slots h c e slot ∙ z) in
    let own = (replace_puts_block h c e).0 in
    let o-was = ap (λ (x : Located). x.offset) p ∙ was.0 in
    let n-was = ap (λ (x : Located). x.size) p ∙ was.1 in
    let n-is = ap (λ (x : Located). x.size) q ∙ is.1 ∙ ap (λ (x : Entry). x.size) own in
    (ap (λ (x : Located). x.offset) q ∙ is.0 ∙ ap (λ (x : Entry). x.offset) own ∙ sym o-was, omega (arith, n-was, n-is, replace_length c e))

-- For another slot that it finds it answers the same length; the same offset where that is before the replaced slot's, and else one that moved as the file's end did.
pub coil_replace_finds_others : {b : List ℕ} {l exam slot : ℕ} {words fcm dfcm bench b' f' d' bench' : List ℕ} {r m : ℕ} → Bytes b
    → CoilReplaces b l exam slot words fcm dfcm bench r b' f' d' bench' m → r ≡ 0 → {k₀ o₀ n₀ : ℕ} → CoilFinds b l exam slot k₀ o₀ n₀
    → (s : ℕ) → (s ≡ slot → ⊥) → {k o n k' o' n' : ℕ} → CoilFinds b l exam s k o n → k ≡ 0 → CoilFinds b' m exam s k' o' n'
    → (n' ≡ n) × (o ≤ o₀ → o' ≡ o) × (o₀ < o → o' + l ≡ o + m)
unfolding located
coil_replace_finds_others {b} {l} {exam} {slot} {words} {b' = b'} {m = m} h c e own s other p z q =
    let found = sym (ap (λ (x : Located). x.number) p) ∙ z in
    let mine = located-entry b l exam slot (found-old c e) in
    let was = located-entry b l exam s found in
    let is = located-entry b' m exam s (replace_keeps_slots h c e s ∙ found) in
    let moves = replace_moves_later h c e s other found in
    let o-own = ap (λ (x : Located). x.offset) own ∙ mine.0 in
    let o-was = ap (λ (x : Located). x.offset) p ∙ was.0 in
    let o_is = ap (λ (x : Located). x.offset) q ∙ is.0 in (
      ap (λ (x : Located). x.size) q ∙ is.1 ∙ (replace_keeps_blocks h c e s other found).1 ∙ sym (ap (λ (x : Located). x.size) p ∙ was.1),
      λ before. o_is ∙ moves.0 (omega (arith, o-own, o-was)) ∙ sym o-was,
      λ behind. omega (arith, o_is, o-was, moves.1 (omega (arith, o-own, o-was)), replace_length c e),
    )

-- Every other slot keeps the bytes of its block.
pub coil_replace_keeps_blocks : {b : List ℕ} {l exam slot : ℕ} {words fcm dfcm bench b' f' d' bench' : List ℕ} {r m : ℕ} → Bytes b
    → CoilReplaces b l exam slot words fcm dfcm bench r b' f' d' bench' m → r ≡ 0 → (s : ℕ) → (s ≡ slot → ⊥) → find_number b l exam s ≡ 0 → block_in b' m s ≡ block_in b l s
coil_replace_keeps_blocks h c e s n z = (replace_keeps_blocks h c e s n z).2

-- Freed bytes are 0: those between the new end and the old end, where the file got shorter.
pub coil_freed_bytes_are_zero : {b : List ℕ} {l exam slot : ℕ} {words fcm dfcm bench b' f' d' bench' : List ℕ} {r m : ℕ}
    → CoilReplaces b l exam slot words fcm dfcm bench r b' f' d' bench' m → r ≡ 0 → (i d : ℕ) → m ≤ i → i < l → get_or b' i d ≡ 0
coil_freed_bytes_are_zero c e i d h k = freed_bytes_are_zero c e i d h k

-- Beyond both ends the buffer is as it was.
pub coil_replace_leaves_the_rest : {b : List ℕ} {l exam slot : ℕ} {words fcm dfcm bench b' f' d' bench' : List ℕ} {r m : ℕ}
    → CoilReplaces b l exam slot words fcm dfcm bench r b' f' d' bench' m → r ≡ 0 → (i d : ℕ) → m ≤ i → l ≤ i → get_or b' i d ≡ get_or b i d
coil_replace_leaves_the_rest c e i d h k = replace_leaves_the_rest c e i d h k

-- ---- what coil_salvage makes of any bytes

-- It answers 0 just where the exam number is not 0, t is at most 16, and the new file fits the buffer and the limit.
pub coil_salvage_accepts : {old b b' : List ℕ} {exam t r m kept left renumber : ℕ} → CoilSalvages old b exam t r b' m kept left renumber
    → (r ≡ 0) ↔ SalvageTakes exam t (file_length (salvaged_file old exam t)) (length b)
coil_salvage_accepts c = salvage_accepts c

-- A buffer of COIL_SALVAGE_ROOM bytes is always enough (the old bytes, 12 for each block that they can hold, and 32), and so is one of 16,777,216: then it is refused
-- for room only where the new file is over the limit.
pub coil_salvage_room : {old b b' : List ℕ} {exam t r m kept left renumber : ℕ} → CoilSalvages old b exam t r b' m kept left renumber → 0 < exam → t ≤ 16
    → min (length old + 12 * min 1024 (length old / 8) + 32) 16777216 ≤ length b → file_length (salvaged_file old exam t) ≤ 16777216 → r ≡ 0
coil_salvage_room c named most room small = salvage_room c named most room small

-- Where it answers 0, coil_open opens the new file for the exam given. (In the file stand the t given and as many entries as blocks were kept.)
pub coil_salvage_opens : {old b b' : List ℕ} {exam t r m kept left renumber o : ℕ} → exam < 2 ^ 64 → CoilSalvages old b exam t r b' m kept left renumber → r ≡ 0 → CoilOpens b' m exam o
    → (o ≡ 0) × (opened_t (opened b' m exam) ≡ t) × (opened_entries (opened b' m exam) ≡ kept)
coil_salvage_opens w c e q = let a = salvage_opens w c e in (q ∙ a.0, a.1, a.2)

-- It is the bytes of the file of the blocks that stand whole at the start of the old bytes, with slots from 0 up.
pub coil_salvage_is_its_bytes : {old b b' : List ℕ} {exam t r m kept left renumber : ℕ} → CoilSalvages old b exam t r b' m kept left renumber → r ≡ 0
    → take m b' ≡ file_bytes (file_of_pieces exam t (numbered 0 (whole_blocks 1024 old)))
coil_salvage_is_its_bytes c e = salvage_is_its_bytes c e

-- The blocks kept are the first of the old bytes, unchanged, and stand at the new file's start.
pub coil_salvage_keeps_bytes : {old b b' : List ℕ} {exam t r m kept left renumber : ℕ} → CoilSalvages old b exam t r b' m kept left renumber → r ≡ 0
    → (left ≤ length old) × (take (length old - left) b' ≡ take (length old - left) old)
coil_salvage_keeps_bytes c e = salvage_keeps_bytes c e

-- The new length is those bytes, 12 for each block kept, and 32. At most 1,024 blocks are kept, each has at least 8 bytes, and the last lent number is 1.
pub coil_salvage_counts : {old b b' : List ℕ} {exam t r m kept left renumber : ℕ} → CoilSalvages old b exam t r b' m kept left renumber → r ≡ 0
    → (m + left ≡ length old + 12 * kept + 32) × (kept ≤ 1024) × (8 * kept + left ≤ length old) × (renumber ≡ 1)
coil_salvage_counts c e = salvage_counts c e

-- It stops only where no well-formed block stands, or where 1,024 were kept.
pub coil_salvage_stops : {old b b' : List ℕ} {exam t r m kept left renumber : ℕ} → CoilSalvages old b exam t r b' m kept left renumber → r ≡ 0
    → (kept ≡ 1024) ⊎ (block_stands (drop (length old - left) old) ≡ false)
coil_salvage_stops c e = salvage_stops c e

-- Old bytes that are blocks which pass coil_check, at most 1,024, then one that it refuses, with 13 as with any other number, and then anything: coil_salvage stops
-- there. It keeps just the blocks before it, and leaves over all else.
pub coil_salvage_stops_at_refused : (bs : List (List ℕ)) (x : List ℕ) {refusal : ℕ} → Each (λ (b : List ℕ). CoilChecks b 0) bs → length bs ≤ 1024
    → CoilChecks (take (stated_length x) x) refusal → (refusal ≡ 0 → ⊥)
    → {exam t : ℕ} {b b' : List ℕ} {r m kept left renumber : ℕ} → CoilSalvages (blocks_of (numbered 0 bs) ++ x) b exam t r b' m kept left renumber → r ≡ 0
    → (kept ≡ length bs) × (left ≡ length x)
coil_salvage_stops_at_refused bs x ws few k h c e =
    salvage_stops_at_refused bs x (each_follows (λ b z. sym (checks-number b) ∙ sym z) ws) few (λ z. h (k ∙ checks-number _ ∙ z)) c e

-- coil_find finds the slots 0, 1, 2 and so on in it, as many as blocks were kept, and no other.
pub coil_salvage_slots : {old b b' : List ℕ} {exam t r m kept left renumber : ℕ} → exam < 2 ^ 64 → CoilSalvages old b exam t r b' m kept left renumber → r ≡ 0
    → (s : ℕ) {n offset size : ℕ} → CoilFinds b' m exam s n offset size → (n ≡ 0) ↔ (s < kept)
unfolding located
coil_salvage_slots w c e s q =
    let n = ap (λ (x : Located). x.number) q in
    let i = salvage_slots w c e s in
    ((λ z. i.0 (sym n ∙ z)), (λ h. n ∙ i.1 h))

-- The block that it finds for a slot stands where it stood in the old bytes, with the same bytes, and passes coil_check. It is the one of its place among the whole ones.
pub coil_salvage_finds : {old b b' : List ℕ} {exam t r m kept left renumber : ℕ} → exam < 2 ^ 64 → CoilSalvages old b exam t r b' m kept left renumber → r ≡ 0
    → (s : ℕ) → s < kept → {n offset size : ℕ} → CoilFinds b' m exam s n offset size
    → (n ≡ 0) × (offset + size ≤ length old - left) × (take size (drop offset b') ≡ take size (drop offset old)) × (take size (drop offset old) ≡ get_or (whole_blocks 1024 old) s [])
    × CoilChecks (take size (drop offset b')) 0
unfolding located
coil_salvage_finds {old} {b' = b'} {exam = exam} {m = m} w c e s h q =
    let z = (salvage_slots w c e s).1 h in
    let places = salvage_places w c e s h in
    let o = ap (λ (x : Located). x.offset) q in
    let n = ap (λ (x : Located). x.size) q in
    let part = found_part b' m exam s z in
    let handed = salvage_finds w c e h (record { number_left = sym z; answer = sym (afterwards-new _ _ [] z) }) in
    let at = located-entry b' m exam s z in
    let here : take (located b' m exam s).size (drop (located b' m exam s).offset b') ≡ block_in b' m s = rw (at.0, at.1) (sym part) in
    rw (o, n) (
      ap (λ (x : Located). x.number) q ∙ z,
      places.0,
      here ∙ places.1,
      sym places.1 ∙ handed.1,
      sym (checks-number _ ∙ rw here handed.2),
    )

-- Where nothing is kept the new file is the empty one that coil_create makes.
pub coil_salvage_of_nothing : {old b b' : List ℕ} {exam t r m kept left renumber : ℕ} → CoilSalvages old b exam t r b' m kept left renumber → r ≡ 0 → kept ≡ 0
    → (m ≡ 32) × (take 32 b' ≡ file_bytes (empty exam t)) × (left ≡ length old)
coil_salvage_of_nothing c e z = salvage_of_nothing c e z

-- Beyond the new file the buffer is as it was.
pub coil_salvage_leaves_the_rest : {old b b' : List ℕ} {exam t r m kept left renumber : ℕ} → CoilSalvages old b exam t r b' m kept left renumber → r ≡ 0 → (i d : ℕ) → m ≤ i → get_or b' i d ≡ get_or b i d
coil_salvage_leaves_the_rest c e i d h = salvage_leaves_the_rest c e i d h

-- ---- what coil_salvage makes of a file

-- Of every file that coil_open opens, where all blocks that coil_find finds pass coil_check, it keeps all, in their order, and 12 bytes for each entry and 32 are left over.
pub coil_salvage_of_intact : (f : List ℕ) (exam : ℕ) {file file' : List ℕ} {other t r m kept left renumber : ℕ} → CoilOpens f (length f) exam 0
    → ((slot offset size : ℕ) → CoilFinds f (length f) exam slot 0 offset size → CoilChecks (take size (drop offset f)) 0) → CoilSalvages f file other t r file' m kept left renumber → r ≡ 0
    → (whole_blocks 1024 f ≡ map (block_of (file_in f)) (file_in f).entries) × (kept ≡ opened_entries (opened f (length f) exam)) × (left ≡ 12 * opened_entries (opened f (length f) exam) + 32)
coil_salvage_of_intact f exam o w c e = salvage_of_intact f exam (sym o) (all_whole f (length f) exam w) c e

-- Cut a file made by these calls to its first k bytes, and salvage what is left. A map is kept just where its block, where coil_find found it before the cut, ends within
-- the cut.
pub coil_salvage_keeps_those_within : (first : List Map) (x : Map) (rest : List Map) {exam t : ℕ} {b : List ℕ} {l : ℕ} → MadeOf exam t (first ++ x ∷ rest) b l
    → (k : ℕ) {other u r m kept left renumber : ℕ} {file file' : List ℕ} → CoilSalvages (take k (take l b)) file other u r file' m kept left renumber → r ≡ 0
    → {n offset size : ℕ} → CoilFinds b l exam x.slot n offset size → (length first < kept) ↔ (offset + size ≤ k)
coil_salvage_keeps_those_within first x rest h k c e q =
    rw (ap (λ (y : Located). y.offset) q, ap (λ (y : Located). y.size) q) (salvage_keeps_those_within first x rest h k c e)

-- And no more blocks are kept than there are maps.
pub coil_salvage_keeps_no_more : {exam t : ℕ} {ms : List Map} {b : List ℕ} {l : ℕ} → MadeOf exam t ms b l → (k : ℕ) {other u r m kept left renumber : ℕ} {file file' : List ℕ}
    → CoilSalvages (take k (take l b)) file other u r file' m kept left renumber → r ≡ 0 → kept ≤ length ms
coil_salvage_keeps_no_more h k c e = salvage_keeps_no_more h k c e

-- coil_fetch then gives back its words, with the file's t and tables of 2 ^ t words. Its slot is the number of the maps before it.
pub coil_salvage_fetches : (first : List Map) (x : Map) (rest : List Map) {exam t : ℕ} {b : List ℕ} {l : ℕ} → MadeOf exam t (first ++ x ∷ rest) b l
    → (k : ℕ) {other r m kept left renumber : ℕ} {file file' : List ℕ} → other < 2 ^ 64 → CoilSalvages (take k (take l b)) file other t r file' m kept left renumber → r ≡ 0 → length first < kept
    → {fcm dfcm room fcm' dfcm' room' : List ℕ} {s n : ℕ} → CoilFetches file' m other (length first) fcm dfcm room s fcm' dfcm' room' n
    → length fcm ≡ 2 ^ t → length dfcm ≡ 2 ^ t → length x.words ≤ length room → (s ≡ 0) × (n ≡ length x.words) × (room' ≡ over x.words room)
coil_salvage_fetches first x rest h k w c e within q lf ld enough = told (salvage_fetches first x rest h k w c e within q lf ld enough)

-- A buffer as long as the file was before the cut is enough.
pub coil_salvage_fits : {exam t : ℕ} {ms : List Map} {b : List ℕ} {l : ℕ} → MadeOf exam t ms b l → (k : ℕ) {other u r m kept left renumber : ℕ} {file file' : List ℕ}
    → CoilSalvages (take k (take l b)) file other u r file' m kept left renumber → 0 < other → u ≤ 16 → l ≤ length file → r ≡ 0
coil_salvage_fits h k c named most room = salvage_fits h k c named most room

-- Of a file with maps that were packed before request L2, too, a map is kept just where its block ends within the cut,
pub coil_earlier_salvage_keeps : (first : List Map) (x : Map) (rest : List Map) {exam t : ℕ} {b : List ℕ} {l : ℕ} → MadeBefore exam t (first ++ x ∷ rest) b l
    → (k : ℕ) {other u r m kept left renumber : ℕ} {file file' : List ℕ} → CoilSalvages (take k (take l b)) file other u r file' m kept left renumber → r ≡ 0
    → {n offset size : ℕ} → CoilFinds b l exam x.slot n offset size → (length first < kept) ↔ (offset + size ≤ k)
coil_earlier_salvage_keeps first x rest h k c e q =
    rw (ap (λ (y : Located). y.offset) q, ap (λ (y : Located). y.size) q) (earlier_salvage_keeps first x rest h k c e)

-- no more blocks are kept than there are maps,
pub coil_earlier_salvage_keeps_no_more : {exam t : ℕ} {ms : List Map} {b : List ℕ} {l : ℕ} → MadeBefore exam t ms b l → (k : ℕ) {other u r m kept left renumber : ℕ} {file file' : List ℕ}
    → CoilSalvages (take k (take l b)) file other u r file' m kept left renumber → r ≡ 0 → kept ≤ length ms
coil_earlier_salvage_keeps_no_more h k c e = earlier_salvage_keeps_no_more h k c e

-- a buffer as long as the file was is enough,
pub coil_earlier_salvage_fits : {exam t : ℕ} {ms : List Map} {b : List ℕ} {l : ℕ} → MadeBefore exam t ms b l → (k : ℕ) {other u r m kept left renumber : ℕ} {file file' : List ℕ}
    → CoilSalvages (take k (take l b)) file other u r file' m kept left renumber → 0 < other → u ≤ 16 → l ≤ length file → r ≡ 0
coil_earlier_salvage_fits h k c named most room = earlier_salvage_fits h k c named most room

-- and coil_fetch gives back the words of a map that is kept.
pub coil_earlier_salvage_fetches : (first : List Map) (x : Map) (rest : List Map) {exam t : ℕ} {b : List ℕ} {l : ℕ} → MadeBefore exam t (first ++ x ∷ rest) b l
    → (k : ℕ) {other r m kept left renumber : ℕ} {file file' : List ℕ} → other < 2 ^ 64 → CoilSalvages (take k (take l b)) file other t r file' m kept left renumber → r ≡ 0 → length first < kept
    → {fcm dfcm room fcm' dfcm' room' : List ℕ} {s n : ℕ} → CoilFetches file' m other (length first) fcm dfcm room s fcm' dfcm' room' n
    → length fcm ≡ 2 ^ t → length dfcm ≡ 2 ^ t → length x.words ≤ length room → (s ≡ 0) × (n ≡ length x.words) × (room' ≡ over x.words room)
coil_earlier_salvage_fetches first x rest h k w c e within q lf ld enough = told (earlier_salvage_fetches first x rest h k w c e within q lf ld enough)

-- ---- what the tables held before plays no part

-- Two accepted runs of coil_pack, with tables of one size: answer, tables, output and length are equal.
pub coil_pack_forgets : {words f₁ d₁ f₂ d₂ out f₁' d₁' f₂' d₂' o₁ o₂ : List ℕ} {r₁ l₁ r₂ l₂ : ℕ}
    → CoilPacks words f₁ d₁ out r₁ f₁' d₁' o₁ l₁ → CoilPacks words f₂ d₂ out r₂ f₂' d₂' o₂ l₂ → length f₁ ≡ length f₂ → length d₁ ≡ length d₂ → r₁ ≡ 0
    → (r₁ ≡ r₂) × (f₁' ≡ f₂') × (d₁' ≡ d₂') × (o₁ ≡ o₂) × (l₁ ≡ l₂)
coil_pack_forgets p q e g z =
    let a = pack_forgets p q e g z in
    (ap (λ (x : Packed). x.number) a.0, a.1, a.2, a.3, ap (λ (x : Packed). x.length) a.0)

-- Two accepted runs of coil_unpack: answer, tables, words and count are equal.
pub coil_unpack_forgets : {b f₁ d₁ f₂ d₂ words f₁' d₁' f₂' d₂' w₁ w₂ : List ℕ} {r₁ n₁ r₂ n₂ : ℕ}
    → CoilUnpacks b f₁ d₁ words r₁ f₁' d₁' w₁ n₁ → CoilUnpacks b f₂ d₂ words r₂ f₂' d₂' w₂ n₂ → length f₁ ≡ length f₂ → length d₁ ≡ length d₂ → r₁ ≡ 0
    → (r₁ ≡ r₂) × (f₁' ≡ f₂') × (d₁' ≡ d₂') × (w₁ ≡ w₂) × (n₁ ≡ n₂)
coil_unpack_forgets p q e g z =
    let a = unpack_forgets p q e g z in
    (ap (λ (x : Unpacked). x.number) a.0, a.1, a.2, a.3, ap (λ (x : Unpacked). x.count) a.0)

-- Two accepted runs of coil_fetch: answer, tables, words and count are equal.
pub coil_fetch_forgets : {b : List ℕ} {l exam slot : ℕ} {f₁ d₁ f₂ d₂ words f₁' d₁' f₂' d₂' w₁ w₂ : List ℕ} {r₁ n₁ r₂ n₂ : ℕ}
    → CoilFetches b l exam slot f₁ d₁ words r₁ f₁' d₁' w₁ n₁ → CoilFetches b l exam slot f₂ d₂ words r₂ f₂' d₂' w₂ n₂ → length f₁ ≡ length f₂ → length d₁ ≡ length d₂ → r₁ ≡ 0
    → (r₁ ≡ r₂) × (f₁' ≡ f₂') × (d₁' ≡ d₂') × (w₁ ≡ w₂) × (n₁ ≡ n₂)
coil_fetch_forgets p q e g z =
    let a = fetch_forgets p q e g z in
    (ap (λ (x : Unpacked). x.number) a.0, a.1, a.2, a.3, ap (λ (x : Unpacked). x.count) a.0)

-- Two accepted runs of coil_append: answer, buffer, tables, bench buffer and length are equal.
pub coil_append_forgets : {b : List ℕ} {l exam slot : ℕ} {words f₁ d₁ f₂ d₂ bench b₁ f₁' d₁' n₁ b₂ f₂' d₂' n₂ : List ℕ} {r₁ l₁ r₂ l₂ : ℕ}
    → CoilAppends b l exam slot words f₁ d₁ bench r₁ b₁ f₁' d₁' n₁ l₁ → CoilAppends b l exam slot words f₂ d₂ bench r₂ b₂ f₂' d₂' n₂ l₂ → length f₁ ≡ length f₂ → length d₁ ≡ length d₂ → r₁ ≡ 0
    → (r₁ ≡ r₂) × (b₁ ≡ b₂) × (f₁' ≡ f₂') × (d₁' ≡ d₂') × (n₁ ≡ n₂) × (l₁ ≡ l₂)
coil_append_forgets p q e g z =
    let a = append-forgets p q e g z in
    (ap (λ (x : Made). x.number) a.0, a.1, a.2, a.3, a.4, ap (λ (x : Made). x.length) a.0)

-- Two runs of coil_append_all, refused or not: answer, buffer, bench buffer, count and length are equal, and where a map went in the tables.
pub coil_append_all_forgets : {b : List ℕ} {l exam : ℕ} {records : List Record} {words f₁ d₁ f₂ d₂ bench b₁ f₁' d₁' n₁ b₂ f₂' d₂' n₂ : List ℕ} {r₁ k₁ l₁ r₂ k₂ l₂ : ℕ}
    → CoilAppendsAll b l exam records words f₁ d₁ bench r₁ b₁ f₁' d₁' n₁ k₁ l₁ → CoilAppendsAll b l exam records words f₂ d₂ bench r₂ b₂ f₂' d₂' n₂ k₂ l₂ → length f₁ ≡ length f₂ → length d₁ ≡ length d₂
    → (r₁ ≡ r₂) × (b₁ ≡ b₂) × (n₁ ≡ n₂) × (k₁ ≡ k₂) × (l₁ ≡ l₂) × (0 < k₁ → (f₁' ≡ f₂') × (d₁' ≡ d₂'))
coil_append_all_forgets p q e g =
    let a = append_all_forgets p q e g in
    (ap (λ (x : Filled). x.number) a.0, a.1, a.2, ap (λ (x : Filled). x.appended) a.0, ap (λ (x : Filled). x.length) a.0, a.3)

-- Two accepted runs of coil_replace: answer, buffer, tables, bench buffer and length are equal.
pub coil_replace_forgets : {b : List ℕ} {l exam slot : ℕ} {words f₁ d₁ f₂ d₂ bench b₁ f₁' d₁' n₁ b₂ f₂' d₂' n₂ : List ℕ} {r₁ l₁ r₂ l₂ : ℕ}
    → CoilReplaces b l exam slot words f₁ d₁ bench r₁ b₁ f₁' d₁' n₁ l₁ → CoilReplaces b l exam slot words f₂ d₂ bench r₂ b₂ f₂' d₂' n₂ l₂ → length f₁ ≡ length f₂ → length d₁ ≡ length d₂ → r₁ ≡ 0
    → (r₁ ≡ r₂) × (b₁ ≡ b₂) × (f₁' ≡ f₂') × (d₁' ≡ d₂') × (n₁ ≡ n₂) × (l₁ ≡ l₂)
coil_replace_forgets p q e g z =
    let a = replace_forgets p q e g z in
    (ap (λ (x : Made). x.number) a.0, a.1, a.2, a.3, a.4, ap (λ (x : Made). x.length) a.0)

-- ---- a file opens only for its own exam number

-- Where coil_open answers 0, the exam number in the file is the one asked for, and not 0.
pub coil_own_exam : (b : List ℕ) (l exam : ℕ) {r : ℕ} → CoilOpens b l exam r → r ≡ 0 → (exam_in (take l b) ≡ exam) × (0 < exam)
coil_own_exam b l exam c e = own-exam b l exam (sym c ∙ e)

-- Where coil_find answers 0, the exam number in the file is the one asked for. The block has at least 8 bytes, so a length of 0 means refused, and it lies within the file.
pub coil_find_own_exam : (b : List ℕ) (l exam slot : ℕ) {r offset size : ℕ} → CoilFinds b l exam slot r offset size → r ≡ 0
    → (exam_in (take l b) ≡ exam) × (8 ≤ size) × (offset + size ≤ l)
coil_find_own_exam b l exam slot c e =
    let k = located_has b l exam slot (sym (ap (λ (x : Located). x.number) c) ∙ e) in
    (k.0, rw (ap (λ (x : Located). x.size) c) k.1, rw (ap (λ (x : Located). x.offset) c, ap (λ (x : Located). x.size) c) k.2)

-- Where coil_fetch answers 0, the exam number in the file is the one asked for.
pub coil_fetch_own_exam : {b : List ℕ} {l exam slot : ℕ} {fcm dfcm words f' d' w' : List ℕ} {r n : ℕ} → CoilFetches b l exam slot fcm dfcm words r f' d' w' n → r ≡ 0 → exam_in (take l b) ≡ exam
coil_fetch_own_exam c e = ((fetch_accepts c).0 e).finds.opens.own

-- Where coil_append answers 0, the exam number in the file is the one asked for.
pub coil_append_own_exam : {b : List ℕ} {l exam slot : ℕ} {words fcm dfcm bench b' f' d' bench' : List ℕ} {r m : ℕ} → CoilAppends b l exam slot words fcm dfcm bench r b' f' d' bench' m → r ≡ 0
    → exam_in (take l b) ≡ exam
coil_append_own_exam c e = ((append_accepts c).0 e).opens.own

-- Where coil_append_all answers 0, or a map went in, the exam number in the file is the one asked for.
pub coil_append_all_own_exam : {b : List ℕ} {l exam : ℕ} {records : List Record} {words fcm dfcm bench b' f' d' bench' : List ℕ} {r k m : ℕ} → CoilAppendsAll b l exam records words fcm dfcm bench r b' f' d' bench' k m
    → (r ≡ 0) ⊎ (0 < k) → exam_in (take l b) ≡ exam
coil_append_all_own_exam c e = append_all_own_exam c e

-- Where coil_replace answers 0, the exam number in the file is the one asked for.
pub coil_replace_own_exam : {b : List ℕ} {l exam slot : ℕ} {words fcm dfcm bench b' f' d' bench' : List ℕ} {r m : ℕ} → CoilReplaces b l exam slot words fcm dfcm bench r b' f' d' bench' m → r ≡ 0
    → exam_in (take l b) ≡ exam
coil_replace_own_exam c e = ((replace_accepts c).0 e).finds.opens.own
