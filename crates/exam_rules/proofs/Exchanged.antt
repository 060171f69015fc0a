-- An accepted replace exchanges one block and keeps all else, in any file that opens.
use mathlib.Core.Path.{◌≡◌, sym, ap, ◌∙◌}
use mathlib.Core.List.{List}
use Prim.Native.Nat.{ℕ, ◌+◌, ◌≤◌, ◌<◌}
use native.Mathlib.Omega.{arith}
use lib.ListN.{length, get_or, replicate, take, drop, length-replicate, get_or-replicate, get_or-append}
use Rattle.words.specs.Bytes.{Bytes}
use Rattle.words.proofs.Bytes.{bytes_take}
use Rattle.answers.specs.Answers.{over}
use Rattle.answers.proofs.Checks.{afterwards-new, over-beyond}
use Rattle.block_rules.specs.Block.{block}
use Rattle.exam_rules.specs.File.{entry, File, file_bytes, replaced}
use Rattle.exam_rules.specs.Reading.{file_in, index_of, entry_of}
use Rattle.exam_rules.specs.Numbers.{directory_number, open_in_number, slot_number, find_number, block_in}
use Rattle.exam_rules.specs.Calls.{made, replaces_number, Replaces, Made}
use Rattle.exam_rules.proofs.Opens.{OpensIn, opens_in, parts-long}
use Rattle.exam_rules.proofs.Lengths.{length-file}
use Rattle.exam_rules.proofs.Changes.{changes_number}
use Rattle.exam_rules.proofs.Accept.{find_tells, replace_tells}
use Rattle.exam_rules.proofs.Resized.{length-resized, length-replaced, index-replaced, own-entry, own_block, other-slot, other-size, other_block, offset-before, offset-behind}
use Rattle.exam_rules.proofs.Holds.{Holds, holds_parts, holds-opens, replaced-holds}
use Rattle.exam_rules.proofs.Kept.{good_read}

module _ {b : List ℕ} {l exam slot : ℕ} {words fcm dfcm bench b' fcm' dfcm' bench' : List ℕ} {r : Made}
    (c : Replaces b l exam slot words fcm dfcm bench r b' fcm' dfcm' bench') (e : r.number ≡ 0) where
  abbrev old : File
  old = file_in (take l b)

  abbrev blk : List ℕ
  blk = block old.t words

  abbrev new : File
  new = replaced old (entry_of slot old) blk

  number_is : replaces_number b l exam slot words fcm dfcm bench ≡ 0
  number_is = sym (changes_number c.file) ∙ e

  pub found-old : find_number b l exam slot ≡ 0
  found-old = (replace_tells b l exam slot (length words) (length fcm) (length dfcm) (length bench) number_is).0

  opened-old : OpensIn b l exam
  opened-old = opens_in b l exam (find_tells b l exam slot found-old).0

  rule : directory_number old ≡ 0
  rule = opened-old.is.directory

  below : index_of slot old.entries < length old.entries
  below = (find_tells b l exam slot found-old).1

  -- ---- the buffer

  abbrev zeros : List ℕ
  zeros = replicate l 0

  zeros-long : length zeros ≡ l
  zeros-long = length-replicate l _

  buffer-is : b' ≡ over (file_bytes new) (over zeros b)
  buffer-is = c.file.file_left ∙ afterwards-new _ _ _ number_is ∙ ap (λ (x : List ℕ). over (file_bytes new) x) (afterwards-new _ _ _ number_is)

  length-is : r.length ≡ length (file_bytes new)
  unfolding made
  length-is = ap (λ (x : Made). x.length) c.file.answer ∙ afterwards-new _ _ 0 number_is ∙ sym (length-file new)

  pub exchanged-length : r.length + (entry_of slot old).size ≡ l + length blk
  exchanged-length =
      omega (arith, length-is, length-file new, length-replaced old slot blk rule below, parts-long (take l b) opened-old.is.trailer, opened-old.long)

  -- beyond the file stands what the old file's zeros and then the old content have there
  beyond : (i : ℕ) (d : ℕ) → r.length ≤ i → get_or b' i d ≡ get_or (over zeros b) i d
  beyond i d h = ap (λ (y : List ℕ). get_or y i d) buffer-is ∙ over-beyond (file_bytes new) (over zeros b) i d (omega (arith, length-is))

  pub freed_zero : (i : ℕ) (d : ℕ) → r.length ≤ i → i < l → get_or b' i d ≡ 0
  freed_zero i d h k =
      beyond i d h ∙ get_or-append zeros (drop (length zeros) b) d i (omega (arith, zeros-long)) ∙ get_or-replicate l i 0 d k

  pub beyond-stays : (i : ℕ) (d : ℕ) → r.length ≤ i → l ≤ i → get_or b' i d ≡ get_or b i d
  beyond-stays i d h k = beyond i d h ∙ over-beyond zeros b i d (omega (arith, zeros-long))

  -- ---- the file

  module _ (bytes : Bytes b) where
    -- the buffer holds the file with the block of the words in the slot's place
    pub exchanged-holds : Holds b' r.length new
    exchanged-holds = replaced-holds (good_read (take l b) exam (bytes_take l b bytes) opened-old.is) c e

    -- and it opens for the same exam number
    pub exchanged-opens : open_in_number b' r.length exam ≡ 0
    unfolding file_in
    exchanged-opens = rw opened-old.is.own at (holds-opens exchanged-holds)

    -- it has the same slots
    pub same_slots : (s : ℕ) → find_number b' r.length exam s ≡ find_number b l exam s
    unfolding find_number slot_number
    same_slots s =
        rw (
          exchanged-opens,
          (find_tells b l exam slot found-old).0,
          holds_parts exchanged-holds,
          index-replaced old slot blk rule below s,
          length-resized (entry_of slot old).slot (length blk) old.entries,
        )

    -- the slot keeps its offset, and has the new block
    pub slot-entry : entry_of slot (file_in (take r.length b')) ≡ entry slot (entry_of slot old).offset (length blk)
    slot-entry = rw (holds_parts exchanged-holds) (own-entry old slot blk rule below)

    pub slot-exchanged : (find_number b' r.length exam slot ≡ 0) × (block_in b' r.length slot ≡ blk)
    unfolding block_in
    slot-exchanged = (same_slots slot ∙ found-old, rw (holds_parts exchanged-holds) (own_block old slot blk rule below))

    -- another keeps its size and its block, and its place or the distance from what stands before it
    module _ (s : ℕ) (other : s ≡ slot → ⊥) (found : find_number b l exam s ≡ 0) where
      pub kept_beside : ((entry_of s (file_in (take r.length b'))).slot ≡ (entry_of s old).slot) × ((entry_of s (file_in (take r.length b'))).size ≡ (entry_of s old).size)
          × (block_in b' r.length s ≡ block_in b l s)
      unfolding block_in
      kept_beside =
          let k = (find_tells b l exam s found).1 in
          rw (holds_parts exchanged-holds) (other-slot old slot blk rule below s k other, other-size old slot blk rule below s k other, other_block old slot blk rule below s k other)

      pub place-before : (entry_of s old).offset ≤ (entry_of slot old).offset → (entry_of s (file_in (take r.length b'))).offset ≡ (entry_of s old).offset
      place-before q =
          rw (holds_parts exchanged-holds)
          (offset-before old slot blk rule below s (find_tells b l exam s found).1 other q)

      pub place-behind : (entry_of slot old).offset < (entry_of s old).offset
          → (entry_of s (file_in (take r.length b'))).offset + (entry_of slot old).size ≡ (entry_of s old).offset + length blk
      place-behind q =
          rw (holds_parts exchanged-holds)
          (offset-behind old slot blk rule below s (find_tells b l exam s found).1 other q)
