-- Reading the input's words one a turn, and what packing them answers.
use mathlib.Core.Path.{◌≡◌, refl, sym, ap, ◌∙◌}
use mathlib.Core.List.{List, ◌++◌}
use Prim.Native.Nat.{ℕ, zero, suc, ◌+◌, ◌/◌, ◌%◌, ◌≤◌, ◌<◌}
use native.Mathlib.Omega.{arith}
use lib.ListN.{length, set, take, drop, length-append}
use Rattle.std.proofs.lemmas.List.{take_at, drop_at, take_all}
use lib.Seq.{sets, take-append_seam}
use borrow.Author.Tests.{eqb-true, leb-true}
use Rattle.words.specs.Bytes.{number, field}
use Rattle.answers.specs.Answers.{over}
use Rattle.answers.proofs.Checks.{unless_holds, none_fails, afterwards-old, sets_over, told-within}
use Rattle.block_rules.specs.Calls.{packed, packs_number, Packs, Packed}
use Rattle.block_rules.specs.Numbers.{t_of}
use Rattle.block_rules.proofs.Tables.{sized-power, t_of_power}
use Rattle.block_rules.proofs.Accept.{packable-packs}
use Rattle.packer.specs.Program.{first_words, words_of, packer_number, packer_block, Answers}
use Rattle.packer.specs.Inside.{Lent}

-- ---- words from bytes

pub length-words : (n : ℕ) (bs : List ℕ) → length (first_words n bs) ≡ n
length-words zero bs = refl
length-words (suc n) bs = ap suc (length-words n (drop 8 bs))

-- the word in the next eight bytes is put, and those in what is left are still to be put
pub words_next : (bytes left words : List ℕ) (i v : ℕ) (whole : List ℕ) → length bytes ≡ 8 → v ≡ field 8 0 bytes
    → sets words i (first_words (length (bytes ++ left) / 8) (bytes ++ left)) ≡ whole
    → sets (set words i v) (i + 1) (first_words (length left / 8) left) ≡ whole
words_next bytes left words i v whole eight e p =
    let n : length (bytes ++ left) / 8 ≡ suc (length left / 8) = omega (arith, length-append bytes left, eight) in
    let w : number (take 8 (bytes ++ left)) ≡ v = ap number (take_at bytes left 8 eight ∙ sym (take_all 8 bytes (omega (arith, eight)))) ∙ sym e in
    let f : i + 1 ≡ suc i = omega arith in
    rw f (rw (n, w, drop_at bytes left 8 eight) at p)

pub words_end : (left words : List ℕ) (i : ℕ) (whole : List ℕ) → length left < 8 → sets words i (first_words (length left / 8) left) ≡ whole → words ≡ whole
words_end left words i whole h p =
    let n : length left / 8 ≡ 0 = omega arith in
    rw n at p

-- ---- what the input allows

pub record Takes (n : ℕ) : Type 0 where
  pub few : n ≤ 32768
  pub whole : n % 8 ≡ 0

pub takes : (n : ℕ) → packer_number n ≡ 0 → Takes n
unfolding packer_number
takes n z =
    let a = none_fails _ _ z in
    record { few = leb-true _ _ (unless_holds _ _ a.0 (omega arith)); whole = eqb-true _ _ (unless_holds _ _ (none_fails _ _ a.1).0 (omega arith)) }

-- ---- the answer

pub answers-refused : (input fcm dfcm out : List ℕ) (k : ℕ) → k ≡ packer_number (length input) → (k ≡ 0 → ⊥)
    → Answers input fcm dfcm out (record { number = k; length = 0 }) fcm dfcm out
unfolding packed
answers-refused input fcm dfcm out k e h =
    let n : packer_number (length input) ≡ 0 → ⊥ = λ z. h (e ∙ z) in
    record { answer = cc (e, afterwards-old _ (length (packer_block input)) 0 n); fcm_left = sym (afterwards-old _ _ fcm n); dfcm_left = sym (afterwards-old _ _ dfcm n); out_left = sym (afterwards-old _ _ out n) }

module _ (input fcm dfcm out : List ℕ) (l : Lent fcm dfcm out) (z : packer_number (length input) ≡ 0) where
  -- the words that were put are the input's
  pub words_are : (words : List ℕ) → length words ≡ 4096 → take (length input / 8) (sets words 0 (words_of input)) ≡ words_of input
  unfolding words_of
  words_are words w =
      let ws = first_words (length input / 8) input in
      let n = length-words (length input / 8) input in
      let t = (takes (length input) z).few in
      ap (λ (x : List ℕ). take (length input / 8) x) (sets_over ws words (omega (arith, n, w, t)))
      ∙ ap (λ (k : ℕ). take k (over ws words)) (sym n)
      ∙ take-append_seam ws (drop (length ws) words)

  packs : packs_number (words_of input) fcm dfcm out ≡ 0
  unfolding words_of
  packs =
      let n = length-words (length input / 8) input in
      let t = (takes (length input) z).few in
      packable-packs _ _ _ _
      (record { sized = sized-power 10 _ _ (omega arith) l.fcm_long (l.dfcm_long ∙ sym l.fcm_long); few = omega (arith, n, t); room = omega (arith, n, t, l.out_long) })

  pub answers-done : (r : Packed) (fcm' dfcm' out' words words' : List ℕ) → length words ≡ 4096 → words' ≡ sets words 0 (words_of input)
      → Packs (take (length input / 8) words') fcm dfcm out r fcm' dfcm' out' → Answers input fcm dfcm out r fcm' dfcm' out'
  unfolding packer_block
  answers-done r fcm' dfcm' out' words words' w q packed =
      let p : Packs (words_of input) fcm dfcm out r fcm' dfcm' out' = rw (q, words_are words w) at packed in
      let t : t_of (length fcm) ≡ 10 = ap t_of l.fcm_long ∙ t_of_power 10 (omega arith) in
      let n : packs_number (words_of input) fcm dfcm out ≡ packer_number (length input) = packs ∙ sym z in
      record { answer = rw (n, t) at p.answer; fcm_left = rw (n, t) at p.fcm_left; dfcm_left = rw (n, t) at p.dfcm_left; out_left = rw (n, t) at p.out_left }

-- what is written is within the output
pub answer_fits : {input fcm dfcm out fcm' dfcm' out' : List ℕ} {r : Packed} → Answers input fcm dfcm out r fcm' dfcm' out' → r.length ≤ length out'
unfolding packed
answer_fits {input} {out = out} a =
    rw (ap (λ (x : Packed). x.length) a.answer, a.out_left) (told-within (packer_number (length input)) (packer_block input) out)
