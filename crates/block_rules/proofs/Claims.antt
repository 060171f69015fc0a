-- What is promised of the rules of a block, each promise with one line of plain words.
use mathlib.Core.Path.{◌≡◌, refl, sym, ap, ap₂, ◌∙◌}
use mathlib.Core.Logic.{◌↔◌}
use mathlib.Core.Bool.{Bool, true, true≢false}
use mathlib.Core.List.{List, [], ◌∷◌, ◌++◌, map}
use Prim.Native.Nat.{ℕ, ◌*◌, ◌%◌, ◌^◌, ◌≤◌, ◌<◌}
use native.Mathlib.Omega.{arith}
use lib.Count.{count_leading_zeros}
use lib.ListN.{length, take, drop, length-drop, take-append-drop}
use Rattle.words.specs.Words.{Words, add64, sub64, shifted_left, shifted_right, low_bits, xor, zero_bytes}
use Rattle.words.specs.Bytes.{Bytes}
use Rattle.words.proofs.Tests.{either}
use Rattle.answers.specs.Answers.{unless, first_failure, afterwards}
use Rattle.block_rules.specs.Predictors.{Memory, cleared, fcm_prediction, dfcm_prediction, difference, next_fcm_hash, next_dfcm_hash, learn}
use Rattle.block_rules.specs.Codes.{Choice, fcm_residual, dfcm_residual, dfcm_chosen, dfcm_chosen_by_bytes, Thrifty, low_three, written, coded_by, chosen, coded_word, residual_bytes, top_byte, second_byte, padded, decoded_word}
use Rattle.block_rules.specs.Block.{arranged, block_by, block, body, worst, count, residuals_at, counted_codes, last_half, coded_in, words_in}
use Rattle.block_rules.specs.Forms.{HasPadded, Smaller, named, block_naming, names_by}
use Rattle.block_rules.specs.Room.{Run, joined, Cut, of_equal_words, run_cost, bound, closer_bound, Settles, BlockFor}
use Rattle.block_rules.specs.Calls.{checked}
use Rattle.block_rules.specs.Worked.{cases, made, worked}
use Rattle.block_rules.specs.declared.Coded.{Coded}
use Rattle.block_rules.specs.Numbers.{t_of, filler_stands, form_number, block_number}
use Rattle.block_rules.proofs.Tables.{t_of_power}
use Rattle.block_rules.proofs.Codes.{rule-thrifty, bytes-thrifty}
use Rattle.block_rules.proofs.Padded.{tight_low, low_tight}
use Rattle.block_rules.proofs.Lengths.{block-at_most}
use Rattle.block_rules.proofs.Accept.{thirteen_tells, form_tells, checks-number, check_done, too_short_for_codes, whole_alone}
use Rattle.block_rules.proofs.Order.{takes_form, padded_thirteen}
use Rattle.block_rules.proofs.Round.{naming_bytes, naming_count, naming_names, naming_whole, naming_words, chosen_naming, chosen-bytes, chosen-count, chosen-whole, chosen-words}
use Rattle.block_rules.proofs.Cost.{costs_no_more, blocks_alike}
use Rattle.block_rules.proofs.Shortest.{reads-count, reads-words, none_shorter}
use Rattle.block_rules.proofs.Forms.{code_fits, padded_smaller, smaller_padded, has_padded, padded_has, named_form}
use Rattle.block_rules.proofs.Settle.{update, settles}
use Rattle.block_rules.proofs.Cuts.{block-closer, closer-at_most}

-- ---- the blocks worked by hand

-- Every case of this list comes out as it was worked by hand.
pub worked_by_hand : map made cases ≡ map worked cases
unfolding block block_by arranged body residual_bytes coded_word chosen coded_by written low_three dfcm_chosen dfcm_chosen_by_bytes fcm_residual dfcm_residual learn next_fcm_hash next_dfcm_hash difference fcm_prediction dfcm_prediction cleared checked block_number form_number filler_stands last_half counted_codes coded_in padded top_byte second_byte unless first_failure afterwards add64 sub64 shifted_left shifted_right low_bits xor zero_bytes count_leading_zeros
worked_by_hand = refl

-- ---- the choice, and blocks that were packed before request L2

-- The rule's choice never takes the residual with fewer leading zero bytes.
pub rule_is_thrifty : Thrifty dfcm_chosen
rule_is_thrifty = rule-thrifty

-- Nor did the choice before, by leading zero bytes.
pub before_was_thrifty : Thrifty dfcm_chosen_by_bytes
before_was_thrifty = bytes-thrifty

-- No length hangs on such a choice: the block of words, by one and by another, has one length. Of all words, and for every t.
pub choices_cost_alike : (choice other : Choice) → Thrifty choice → Thrifty other → (t : ℕ) (ws : List ℕ) → length (block_by choice t ws) ≡ length (block_by other t ws)
choices_cost_alike choice other h k t ws = blocks_alike choice other h k t ws

-- So a block has the length that it had when it was packed before.
pub as_long_as_before : (t : ℕ) (ws : List ℕ) → length (block t ws) ≡ length (block_by dfcm_chosen_by_bytes t ws)
unfolding block
as_long_as_before t ws = choices_cost_alike dfcm_chosen dfcm_chosen_by_bytes rule_is_thrifty before_was_thrifty t ws

-- A block that was packed before is accepted, with the count of its words.
pub packed_before_checks : (t : ℕ) (ws : List ℕ) → length ws ≤ 65536 → Words ws → checked (block_by dfcm_chosen_by_bytes t ws) ≡ record { number = 0; count = length ws }
packed_before_checks t ws few h = sym (check_done _ _ (chosen-whole dfcm_chosen_by_bytes t ws few h) (sym (chosen-count dfcm_chosen_by_bytes t ws few)))

-- And it reads as its words, with tables of the same size.
pub packed_before_reads : (t : ℕ) (ws : List ℕ) → length ws ≤ 65536 → Words ws → words_in t (block_by dfcm_chosen_by_bytes t ws) ≡ ws
packed_before_reads t ws few h = chosen-words dfcm_chosen_by_bytes t ws few h

-- ---- no block is shorter

-- By a thrifty choice: of all codes that read as a word, each with a residual that fits its bytes, the one taken has no more residual bytes. That no block is
-- shorter and that a block is within its bound both rest on this law.
pub taken_costs_no_more : (choice : Choice) → Thrifty choice → (m : Memory) (v : ℕ) (c : Coded) → c.residual < 256 ^ written c.code → decoded_word m c ≡ v
    → written (coded_word choice m v).code ≤ written c.code
taken_costs_no_more choice h m v c fits reads = costs_no_more choice h m v c fits reads

-- No block of the words is shorter than the one by a choice that never takes the residual with fewer leading zero bytes. For every t and all words; that the blocks
-- count alike is not asked.
pub thrifty_is_shortest : (choice : Choice) → Thrifty choice → (t : ℕ) (ws b : List ℕ) → BlockFor t ws b → length (block_by choice t ws) ≤ length b
thrifty_is_shortest choice h t ws b k = rw (← k.reads) (none_shorter t b k.formed k.bytes choice h)

-- So none is shorter than the one by the rule's choice, which pack writes.
pub no_block_is_shorter : (t : ℕ) (ws b : List ℕ) → BlockFor t ws b → length (block t ws) ≤ length b
unfolding block
no_block_is_shorter t ws b k = thrifty_is_shortest dfcm_chosen rule_is_thrifty t ws b k

-- Nor than the one by the choice before request L2.
pub packed_before_is_shortest : (t : ℕ) (ws b : List ℕ) → BlockFor t ws b → length (block_by dfcm_chosen_by_bytes t ws) ≤ length b
packed_before_is_shortest t ws b k = thrifty_is_shortest dfcm_chosen_by_bytes before_was_thrifty t ws b k

-- The block by any choice is itself a block of its words, where they are at most 65,536 and below 2^64. So the block by a thrifty choice is a shortest.
pub block_is_for_its_words : (choice : Choice) (t : ℕ) (ws : List ℕ) → Words ws → length ws ≤ 65536 → BlockFor t ws (block_by choice t ws)
block_is_for_its_words choice t ws h few =
    record { bytes = chosen-bytes choice t ws; formed = takes_form _ (chosen-whole choice t ws few h); reads = chosen-words choice t ws few h }

-- Words that have a block are at most 65,536, each below 2^64; and every block of them counts them.
pub words_of_any_block : (t : ℕ) (ws b : List ℕ) → BlockFor t ws b → Words ws × (length ws ≤ 65536) × (count b ≡ length ws)
words_of_any_block t ws b k =
    let n = sym (reads-count t b k.formed) ∙ ap length k.reads in
    (rw k.reads at (reads-words t b k.formed k.bytes), rw n at (form_tells b k.formed).few, n)

-- ---- padded codes

-- Check answers 13 just where 4, 2, 5 and 6 do not answer and one of the counted codes is padded.
pub padded-answers : (b : List ℕ) → ((checked b).number ≡ 13) ↔ ((form_number b ≡ 0) × HasPadded (coded_in b))
padded-answers b = (
  (λ e. let k = thirteen_tells b (sym (checks-number b) ∙ e) in (k.0, has_padded (coded_in b) k.1)),
  (λ k. checks-number b ∙ sym (padded_thirteen b k.0 (padded_has (coded_in b) k.1))),
)

-- A code that is read from bytes is padded just where there is a smaller one: of the same predictor, with fewer bytes, that would have read the same residual.
pub padded_has_smaller : (b : List ℕ) → Bytes b → (first : List Coded) (c : Coded) (rest : List Coded) → first ++ c ∷ rest ≡ coded_in b → (padded c ≡ true) ↔ Smaller c
padded_has_smaller b h first c rest e =
    let fits = code_fits b h first c rest e in
    (padded_smaller c fits, smaller_padded c fits)

-- It is padded just where its low bits are not those of the residual's own leading zero bytes.
pub padded-low_bits : (b : List ℕ) → Bytes b → (first : List Coded) (c : Coded) (rest : List Coded) → first ++ c ∷ rest ≡ coded_in b
    → (padded c ≡ true) ↔ (c.code % 8 ≡ low_three (zero_bytes c.residual) → ⊥)
padded-low_bits b h first c rest e =
    let fits = code_fits b h first c rest e in (
      (λ p low. true≢false (sym p ∙ low_tight c fits low)),
      (λ other. either (padded c) (λ p. p) (λ p. absurd (other (tight_low c fits p)))),
    )

-- ---- the one form of a block

-- An accepted block is the block of its words by the predictors that it names, whoever packed it, and for every t.
pub accepted_is_named : (t : ℕ) (b : List ℕ) → Bytes b → (checked b).number ≡ 0 → b ≡ block_naming (named b) t (words_in t b)
accepted_is_named t b h e = sym (named_form t b h (sym (checks-number b) ∙ e))

-- And each such block is accepted. Take at most 65,536 words, each below 2^64, and name a predictor for each: there is a block that names them and reads as the words.
pub named_is_accepted : (ns : List Bool) (t : ℕ) (ws : List ℕ) → length ns ≡ length ws → length ws ≤ 65536 → Words ws
    → Bytes (block_naming ns t ws) × (checked (block_naming ns t ws) ≡ record { number = 0; count = length ws })
    × (named (block_naming ns t ws) ≡ ns) × (words_in t (block_naming ns t ws) ≡ ws)
named_is_accepted ns t ws each few h = (
  naming_bytes ns t ws,
  sym (check_done _ _ (naming_whole ns t ws each few h) (sym (naming_count ns t ws each few))),
  naming_names ns t ws each few,
  naming_words ns t ws each few h,
)

-- So two accepted blocks that read as the same words, with tables of the same size, and name the same predictor at each word, are the same bytes.
pub one_form : (t : ℕ) (b c : List ℕ) → Bytes b → Bytes c → (checked b).number ≡ 0 → (checked c).number ≡ 0
    → words_in t b ≡ words_in t c → named b ≡ named c → b ≡ c
one_form t b c h k e f ws ns = accepted_is_named t b h e ∙ ap₂ (λ (n : List Bool) (w : List ℕ). block_naming n t w) ns ws ∙ sym (accepted_is_named t c k f)

-- The block by a choice is the one that names what is chosen at each word.
pub chosen_is_named : (choice : Choice) (t : ℕ) (ws : List ℕ) → block_by choice t ws ≡ block_naming (names_by choice t (cleared t) ws) t ws
chosen_is_named choice t ws = chosen_naming choice t ws

-- So an accepted block is the packer's but for the choice: where it names what the rule chooses, it is the very block that pack writes.
pub accepted_is_packed : (t : ℕ) (b : List ℕ) → Bytes b → (checked b).number ≡ 0 → named b ≡ names_by dfcm_chosen t (cleared t) (words_in t b) → b ≡ block t (words_in t b)
unfolding block
accepted_is_packed t b h e ns =
    accepted_is_named t b h e ∙ ap (λ (n : List Bool). block_naming n t (words_in t b)) ns ∙ sym (chosen_is_named dfcm_chosen t (words_in t b))

-- ---- nothing cut short, nothing added

-- Where 4 and 2 do not answer, a block that is too short for the codes it counts answers 5.
pub codes_need_room : (b : List ℕ) → 8 ≤ length b → count b ≤ 65536 → length b < residuals_at (count b) → (checked b).number ≡ 5
codes_need_room b h few l = checks-number b ∙ sym (too_short_for_codes b h few l)

-- A block that can be read (none of 4, 2, 5, 6 answers) reads as many words as it counts, with tables of any size.
pub words-counted : (t : ℕ) (b : List ℕ) → form_number b ≡ 0 → length (words_in t b) ≡ count b
words-counted t b e = reads-count t b e

-- The t that is read off a table's length is its t.
pub t_read_off : (t : ℕ) → t ≤ 16 → t_of (2 ^ t) ≡ t
t_read_off t h = t_of_power t h

-- Cut short, a block that can be read cannot be read any more. So no proper first part of an accepted block is accepted.
pub no_first_part : (b : List ℕ) (k : ℕ) → form_number b ≡ 0 → k < length b → form_number (take k b) ≡ 0 → ⊥
no_first_part b k e h f =
    let z = whole_alone (take k b) (drop k b) f (rw (take-append-drop k b) e) in
    omega (arith, length-drop k b)

-- With bytes added, a block that can be read cannot be read any more. So nothing can be added to an accepted block.
pub nothing_added : (b c : List ℕ) → form_number b ≡ 0 → form_number (b ++ c) ≡ 0 → 0 < length c → ⊥
nothing_added b c e f h = omega (arith, whole_alone b c e f)

-- ---- how much room a block needs

-- Over every t, and however the words are cut into runs: a block's length is at most 8, plus n/2 rounded up, plus what each run may cost.
pub block_within_bound : (t : ℕ) (ws : List ℕ) → Words ws → (cut : Cut ws) → length (block t ws) ≤ bound t ws cut
block_within_bound t ws h cut = omega (arith, block-closer t ws cut h, closer-at_most t ws cut)

-- It never exceeds 8, plus n/2 rounded up, plus 8n.
pub block_within_worst : (t : ℕ) (ws : List ℕ) → length (block t ws) ≤ worst (length ws)
block_within_worst t ws = block-at_most t ws

-- The worst of all, for 65,536 words, is 557,064 bytes.
pub worst_of_all : worst 65536 ≡ 557064
worst_of_all = refl

-- The two join run by run: a run of few words is charged 8 bytes a word where that is less.
pub block_within_closer_bound : (t : ℕ) (ws : List ℕ) → Words ws → (cut : Cut ws) → length (block t ws) ≤ closer_bound t ws cut
block_within_closer_bound t ws h cut = block-closer t ws cut h

-- three equal words
abbrev pub three : List ℕ
three = 0x3FF0_0000_0000_0000 ∷ 0x3FF0_0000_0000_0000 ∷ 0x3FF0_0000_0000_0000 ∷ []

-- as one run
abbrev pub one_run : List Run
one_run = record { first = 0x3FF0_0000_0000_0000; difference = 0; count = 3 } ∷ []

-- The three equal words are one run.
pub one_run_is_three : joined one_run ≡ three
unfolding add64
one_run_is_three = refl

-- The bound is met exactly: three equal words at t = 6, as one run, take all the room that it gives.
pub bound_is_met : length (block 6 three) ≡ bound 6 three (record { runs = one_run; whole = one_run_is_three })
unfolding block block_by arranged body residual_bytes coded_word chosen coded_by written low_three dfcm_chosen fcm_residual dfcm_residual learn next_fcm_hash next_dfcm_hash difference fcm_prediction dfcm_prediction cleared add64 sub64 shifted_left shifted_right low_bits xor zero_bytes count_leading_zeros run_cost of_equal_words
bound_is_met = refl

-- But with another t they may take less: 18 bytes at t = 0, and 26 at t = 6.
pub another_t_may_take_less : (length (block 0 three) ≡ 18) × (length (block 6 three) ≡ 26)
unfolding block block_by arranged body residual_bytes coded_word chosen coded_by written low_three dfcm_chosen fcm_residual dfcm_residual learn next_fcm_hash next_dfcm_hash difference fcm_prediction dfcm_prediction cleared add64 sub64 shifted_left shifted_right low_bits xor zero_bytes count_leading_zeros
another_t_may_take_less = (refl, refl)

-- As many words as shift the old bits out, all equal, settle the fcm hash: it no longer depends on what it was, and stays.
pub fcm_hash_settles : (t v k : ℕ) → t ≤ 6 * k → Settles (λ h. next_fcm_hash t h v) t k
unfolding next_fcm_hash update
fcm_hash_settles t v k h = settles 6 t (shifted_right 48 v) k h

-- So do as many differences, all equal, for the dfcm hash.
pub dfcm_hash_settles : (t d k : ℕ) → t ≤ 2 * k → Settles (λ h. next_dfcm_hash t h d) t k
unfolding next_dfcm_hash update
dfcm_hash_settles t d k h = settles 2 t (shifted_right 40 d) k h
