-- The blocks that stand whole at the start of bytes, and the file that salvage makes of them.
use mathlib.Core.Path.{◌≡◌, refl, sym, ap, ◌∙◌}
use mathlib.Core.Logic.{◌⊎◌, inl, inr}
use mathlib.Core.List.{List, [], ◌∷◌, ◌++◌, append_assoc}
use mathlib.Core.Bool.{true, false}
use Prim.Native.Nat.{ℕ, zero, suc, min, ◌+◌, ◌-◌, ◌*◌, ◌/◌, ◌^◌, ◌≤◌, ◌<◌}
use native.Mathlib.Omega.{arith}
use native.Mathlib.Nat.{zero-add}
use lib.ListN.{length, get_or, take, drop, length-append, length-take, take-append-drop}
use lib.Seq.{length-take-le, take-take, take-append-add, take-append_seam, drop-drop, split_at}
use borrow.Author.Tests.{leb-true, le-leb, eqb-true, eq-eqb}
use Rattle.words.proofs.Each.{Each, none, more}
use Rattle.words.proofs.Tests.{either}
use Rattle.answers.specs.Answers.{over}
use Rattle.answers.proofs.Checks.{both_hold, afterwards-new, over-beyond}
use Rattle.block_rules.specs.Block.{stated_length}
use Rattle.block_rules.specs.Numbers.{block_number}
use Rattle.block_rules.proofs.Accept.{whole}
use Rattle.exam_rules.specs.File.{Entry, entry, directory_bytes, File, file_length, file_bytes, empty}
use Rattle.exam_rules.specs.Reading.{file_in, entry_of}
use Rattle.exam_rules.specs.Numbers.{most_bytes, find_number, block_in}
use Rattle.exam_rules.specs.Calls.{made, Changes, salvaged, salvages_number, Salvages, Salvaged}
use Rattle.exam_rules.specs.Pieces.{Piece, blocks_of, entries_of, file_of_pieces}
use Rattle.exam_rules.specs.Salvage.{block_stands, whole_blocks, numbered, salvaged_file}
use Rattle.exam_rules.proofs.Directory.{edition-one}
use Rattle.exam_rules.proofs.Accept.{Follows, follows-directory, find_takes, salvage_takes}
use Rattle.exam_rules.proofs.Accept as Accept
use Rattle.exam_rules.proofs.Back.{Small, Good}
use Rattle.exam_rules.proofs.Lengths.{length-file}
use Rattle.exam_rules.proofs.Changes.{changes_number}
use Rattle.exam_rules.proofs.Holds.{Holds, changed-holds, holds_parts}
use Rattle.exam_rules.proofs.Pieces.{length-pieces, HoldsPiece, piece_found}
use Rattle.exam_rules.proofs.Opens.{body-long}
use Rattle.exam_rules.proofs.Parts.{part_of_first}
use Rattle.exam_rules.proofs.Kept.{found-ends, found_part}

-- ---- a block that stands at the start of bytes

pub record StandsWhole (bs : List ℕ) : Type 0 where
  pub within : stated_length bs ≤ length bs
  pub checks : block_number (take (stated_length bs) bs) ≡ 0

pub stands-whole : (bs : List ℕ) → block_stands bs ≡ true → StandsWhole bs
unfolding block_stands
stands-whole bs e = let h = both_hold _ _ e in record { within = leb-true _ _ h.0; checks = eqb-true _ _ h.1 }

pub whole-stands : (bs : List ℕ) → StandsWhole bs → block_stands bs ≡ true
unfolding block_stands
whole-stands bs s = rw (le-leb (stated_length bs) (length bs) s.within, eq-eqb (block_number (take (stated_length bs) bs)) 0 s.checks) refl

-- it has at least 8 bytes
pub stands-long : (bs : List ℕ) → StandsWhole bs → 8 ≤ stated_length bs
stands-long bs s = omega (arith, (whole (take (stated_length bs) bs) s.checks).long, length-take-le (stated_length bs) bs s.within)

-- ---- blocks, numbered

pub length-numbered : (slot : ℕ) (bs : List (List ℕ)) → length (numbered slot bs) ≡ length bs
length-numbered slot [] = refl
length-numbered slot (b ∷ bs) = ap suc (length-numbered (slot + 1) bs)

numbered-append : (slot : ℕ) (xs ys : List (List ℕ)) → numbered slot (xs ++ ys) ≡ numbered slot xs ++ numbered (slot + length xs) ys
numbered-append slot [] ys =
    let e : slot + 0 ≡ slot = omega arith in
    rw e
numbered-append slot (x ∷ xs) ys =
    let e : slot + suc (length xs) ≡ slot + 1 + length xs = omega arith in
    rw e (ap (λ (ps : List Piece). record { slot = slot; block = x } ∷ ps) (numbered-append (slot + 1) xs ys))

-- ---- whole blocks from the start of bytes on

-- one after another they are the first of the bytes
blocks-first : (n slot : ℕ) (bs : List ℕ) → take (length (blocks_of (numbered slot (whole_blocks n bs)))) bs ≡ blocks_of (numbered slot (whole_blocks n bs))
unfolding whole_blocks
blocks-first zero slot bs = refl
blocks-first (suc n) slot bs =
    let x = take (stated_length bs) bs in
    let y = drop (stated_length bs) bs in
    let more = blocks_of (numbered (slot + 1) (whole_blocks n y)) in
    either (block_stands bs)
    (λ q.
    rw q
    (ap (λ (k : ℕ). take k bs) (length-append x more)
    ∙ ap (λ (l : List ℕ). take (length x + length more) l) (sym (take-append-drop (stated_length bs) bs))
    ∙ take-append-add x y (length more)
    ∙ ap (λ (l : List ℕ). x ++ l) (blocks-first n (slot + 1) y)))
    (λ q. rw q refl)

-- they are not more than asked for
pub blocks-few : (n : ℕ) (bs : List ℕ) → length (whole_blocks n bs) ≤ n
unfolding whole_blocks
blocks-few zero bs = omega arith
blocks-few (suc n) bs = either (block_stands bs) (λ q. rw q (omega (arith, blocks-few n (drop (stated_length bs) bs)))) (λ q. rw q (omega arith))

-- each is whole
pub blocks-whole : (n : ℕ) (bs : List ℕ) → Each (λ (b : List ℕ). block_number b ≡ 0) (whole_blocks n bs)
unfolding whole_blocks
blocks-whole zero bs = none
blocks-whole (suc n) bs = either (block_stands bs) (λ q. rw q (more (stands-whole bs q).checks (blocks-whole n (drop (stated_length bs) bs)))) (λ q. rw q none)

pub blocks-within : (n slot : ℕ) (bs : List ℕ) → length (blocks_of (numbered slot (whole_blocks n bs))) ≤ length bs
blocks-within n slot bs =
    let k = length (blocks_of (numbered slot (whole_blocks n bs))) in
    omega (arith, ap length (blocks-first n slot bs), length-take k bs)

-- each has at least 8 bytes
blocks-long : (n slot : ℕ) (bs : List ℕ) → 8 * length (whole_blocks n bs) ≤ length (blocks_of (numbered slot (whole_blocks n bs)))
unfolding whole_blocks
blocks-long zero slot bs = omega arith
blocks-long (suc n) slot bs =
    let s = stated_length bs in
    let more = blocks_of (numbered (slot + 1) (whole_blocks n (drop s bs))) in
    either (block_stands bs)
    (λ q.
    let w = stands-whole bs q in
    rw q (omega (arith, blocks-long n (slot + 1) (drop s bs), length-append (take s bs) more, length-take-le s bs w.within, stands-long bs w)))
    (λ q. rw q (omega arith))

-- where they are fewer than asked for, no block stands behind them
blocks_stop : (n slot : ℕ) (bs : List ℕ) → (length (whole_blocks n bs) ≡ n) ⊎ (block_stands (drop (length (blocks_of (numbered slot (whole_blocks n bs)))) bs) ≡ false)
unfolding whole_blocks
blocks_stop zero slot bs = inl refl
blocks_stop (suc n) slot bs =
    let s = stated_length bs in
    let x = take s bs in
    let y = drop s bs in
    let more = blocks_of (numbered (slot + 1) (whole_blocks n y)) in
    either (block_stands bs)
    (λ q.
    let lx : length x ≡ s = length-take-le s bs (stands-whole bs q).within in
    let behind : drop (length (x ++ more)) bs ≡ drop (length more) y =
    ap (λ (k : ℕ). drop k bs) (length-append x more ∙ ap (λ (k : ℕ). k + length more) lx) ∙ sym (drop-drop (length more) s bs) in
    rw (q, behind) (next (blocks_stop n (slot + 1) y)))
    (λ q. rw q (inr q))
  where
    next : {A : Type 0} {k : ℕ} → (k ≡ n) ⊎ A → (suc k ≡ suc n) ⊎ A
    next (inl e) = inl (ap suc e)
    next (inr a) = inr a

length_zero : (bs : List (List ℕ)) → length bs ≡ 0 → bs ≡ []
length_zero [] e = refl
length_zero (b ∷ bs) e = absurd (omega arith)

-- ---- the file of blocks that are whole, with slots from a number up

numbered-follows : (slot at : ℕ) (bs : List (List ℕ)) → Each (λ (b : List ℕ). block_number b ≡ 0) bs → Follows slot at (entries_of at (numbered slot bs)) (at + length (blocks_of (numbered slot bs)))
numbered-follows slot at [] ws =
    let e : at ≡ at + 0 = omega arith in
    Accept.none e
numbered-follows slot at (b ∷ bs) (more w ws) =
    let more = blocks_of (numbered (slot + 1) bs) in
    let end : at + length (b ++ more) ≡ at + length b + length more = omega (arith, length-append b more) in
    rw end (Accept.more {lowest = slot} {e = entry slot at (length b)} (omega arith) refl (whole b w).long (numbered-follows (slot + 1) (at + length b) bs ws))

numbered-small : (slot at : ℕ) (bs : List (List ℕ)) → slot + length bs < 2 ^ 32 → at + length (blocks_of (numbered slot bs)) < 2 ^ 32 → Each Small (entries_of at (numbered slot bs))
numbered-small slot at [] few small = none
numbered-small slot at (b ∷ bs) few small =
    let la = length-append b (blocks_of (numbered (slot + 1) bs)) in
    let fits : Small (entry slot at (length b)) = record { slot = omega arith; offset = omega (arith, la); size = omega (arith, la) } in
    more fits (numbered-small (slot + 1) (at + length b) bs (omega arith) (omega (arith, la)))

-- ---- the file that salvage makes

module _ (old : List ℕ) (exam t : ℕ) where
  abbrev file : File
  file = salvaged_file old exam t

  pub salvaged-is : file ≡ file_of_pieces exam t (numbered 0 (whole_blocks 1024 old))
  unfolding salvaged_file
  salvaged-is = refl

  pub salvaged-many : length file.entries ≡ length (whole_blocks 1024 old)
  unfolding salvaged_file
  salvaged-many = length-pieces 0 (numbered 0 (whole_blocks 1024 old)) ∙ length-numbered 0 (whole_blocks 1024 old)

  pub salvaged-few : length file.entries ≤ 1024
  salvaged-few = omega (arith, salvaged-many, blocks-few 1024 old)

  -- its blocks are the first of the old bytes
  pub salvaged-first : take (length file.body) old ≡ file.body
  unfolding salvaged_file
  salvaged-first = blocks-first 1024 0 old

  pub salvaged-within : length file.body ≤ length old
  unfolding salvaged_file
  salvaged-within = blocks-within 1024 0 old

  pub salvaged_stop : (length file.entries ≡ 1024) ⊎ (block_stands (drop (length file.body) old) ≡ false)
  unfolding salvaged_file
  salvaged_stop = rw salvaged-many (blocks_stop 1024 0 old)

  pub salvaged-ends : length file.body ≡ length (blocks_of (numbered 0 (whole_blocks 1024 old)))
  unfolding salvaged_file
  salvaged-ends = refl

  pub salvaged-long : 8 * length file.entries ≤ length file.body
  salvaged-long = omega (arith, salvaged-many, salvaged-ends, blocks-long 1024 0 old)

  -- so it is never longer than this
  pub salvaged-most : file_length file ≤ length old + 12 * min 1024 (length old / 8) + 32
  salvaged-most = omega (arith, salvaged-few, salvaged-within, salvaged-long)

  -- it keeps the rules and fits its fields
  salvaged-good : t ≤ 16 → 0 < exam → exam < 2 ^ 64 → file_length file ≤ most_bytes → Good file
  unfolding salvaged_file
  salvaged-good most named fits small =
      record {
        edition = edition-one;
        t = most;
        named = named;
        exam = fits;
        few = salvaged-few;
        size = small;
        smalls = numbered-small 0 0 (whole_blocks 1024 old) (omega (arith, blocks-few 1024 old)) (omega arith);
        directory = follows-directory _ (rw zero-add at (numbered-follows 0 0 (whole_blocks 1024 old) (blocks-whole 1024 old)));
      }

-- ---- the slots of the file

numbered-slot : (slot at : ℕ) (bs : List (List ℕ)) (i : ℕ) (d : Entry) → i < length bs → (get_or (entries_of at (numbered slot bs)) i d).slot ≡ slot + i
numbered-slot slot at [] i d h = absurd (omega arith)
numbered-slot slot at (b ∷ bs) zero d h = omega arith
numbered-slot slot at (b ∷ bs) (suc i) d h = numbered-slot (slot + 1) (at + length b) bs i d (omega arith) ∙ omega arith

-- ---- the call

-- of its answer, the number and the length are those of a call that makes a file
salvage_changes : {old b b' : List ℕ} {exam t : ℕ} {r : Salvaged} → Salvages old b exam t r b'
    → Changes (salvages_number old b exam t) (salvaged_file old exam t) b (record { number = r.number; length = r.length }) b'
unfolding salvaged made
salvage_changes c = record { answer = ap (λ (x : Salvaged). record { number = x.number; length = x.length }) c.answer; file_left = c.file_left }

pub salvage_number_lem : {old b b' : List ℕ} {exam t : ℕ} {r : Salvaged} → Salvages old b exam t r b' → r.number ≡ salvages_number old b exam t
salvage_number_lem c = changes_number (salvage_changes c)

-- ---- where it is not refused

module _ {old b b' : List ℕ} {exam t : ℕ} {r : Salvaged} (c : Salvages old b exam t r b') (e : r.number ≡ 0) where
  abbrev bs : List (List ℕ)
  bs = whole_blocks 1024 old

  done : salvages_number old b exam t ≡ 0
  done = sym (salvage_number_lem c) ∙ e

  pub salvage_kept : r.kept ≡ length bs
  unfolding salvaged
  salvage_kept = ap (λ (x : Salvaged). x.kept) c.answer ∙ afterwards-new _ _ 0 done ∙ salvaged-many old exam t

  pub salvage_left_over : r.left_over ≡ length old - length (salvaged_file old exam t).body
  unfolding salvaged
  salvage_left_over = ap (λ (x : Salvaged). x.left_over) c.answer ∙ afterwards-new _ _ 0 done

  -- so many of the old bytes were kept
  pub salvage_body : length old - r.left_over ≡ length (salvaged_file old exam t).body
  salvage_body = omega (arith, salvage_left_over, salvaged-within old exam t)

  pub salvage_length : r.length ≡ file_length (salvaged_file old exam t)
  unfolding salvaged
  salvage_length = ap (λ (x : Salvaged). x.length) c.answer ∙ afterwards-new _ _ 0 done

  left : b' ≡ over (file_bytes (salvaged_file old exam t)) b
  left = c.file_left ∙ afterwards-new _ _ b done

  -- the buffer begins with the file's bytes
  pub salvage_bytes : take r.length b' ≡ file_bytes (salvaged_file old exam t)
  salvage_bytes =
      let f = salvaged_file old exam t in
      rw (left, salvage_length, ← (length-file f)) (take-append_seam (file_bytes f) (drop (length (file_bytes f)) b))

  -- and so with the first of the old bytes
  pub salvage_first : take (length (salvaged_file old exam t).body) b' ≡ take (length (salvaged_file old exam t).body) old
  unfolding file_bytes
  salvage_first =
      let f = salvaged_file old exam t in
      let n = length f.body in
      sym (take-take n r.length b' (omega (arith, salvage_length)))
      ∙ ap (λ (x : List ℕ). take n x) (salvage_bytes ∙ append_assoc f.body (directory_bytes f.entries) _)
      ∙ take-append_seam f.body _
      ∙ sym (salvaged-first old exam t)

  pub salvage_beyond : (i d : ℕ) → r.length ≤ i → get_or b' i d ≡ get_or b i d
  salvage_beyond i d h = rw left (over-beyond (file_bytes (salvaged_file old exam t)) b i d (omega (arith, salvage_length, length-file (salvaged_file old exam t))))

  pub salvage_renumbers : r.renumbered ≡ 1
  unfolding salvaged
  salvage_renumbers = ap (λ (x : Salvaged). x.renumbered) c.answer ∙ afterwards-new _ _ 0 done

  -- where nothing was kept it is the empty file
  pub salvage_empty : r.kept ≡ 0 → (r.length ≡ 32) × (take 32 b' ≡ file_bytes (empty exam t)) × (r.left_over ≡ length old)
  salvage_empty z =
      let nothing : bs ≡ [] = length_zero bs (sym salvage_kept ∙ z) in
      let is : salvaged_file old exam t ≡ empty exam t = salvaged-is old exam t ∙ ap (λ (x : List (List ℕ)). file_of_pieces exam t (numbered 0 x)) nothing in
      let long : r.length ≡ 32 = salvage_length ∙ ap file_length is in
      (long, rw (← long) (salvage_bytes ∙ ap file_bytes is), salvage_left_over ∙ ap (λ (f : File). length old - length f.body) is ∙ omega arith)

  module _ (fits : exam < 2 ^ 64) where
    pub salvage_holds : Holds b' r.length (salvaged_file old exam t)
    salvage_holds =
        let k = salvage_takes exam t _ (length b) done in
        changed-holds (salvage_changes c) e (salvaged-good old exam t k.most k.named fits k.file_room)

    -- the block that is kept as a slot
    pub salvage_piece : (i : ℕ) → i < length bs → HoldsPiece b' r.length exam t (record { slot = i; block = get_or bs i [] })
    salvage_piece i h =
        let li : length (take i bs) ≡ i = length-take-le i bs (omega arith) in
        let parts : numbered 0 bs ≡ numbered 0 (take i bs) ++ record { slot = i; block = get_or bs i [] } ∷ numbered (i + 1) (drop (suc i) bs) =
        ap (λ (x : List (List ℕ)). numbered 0 x) (split_at bs i [] h) ∙ numbered-append 0 (take i bs) _ ∙ rw (li, zero-add i) in
        record { first = numbered 0 (take i bs); rest = numbered (i + 1) (drop (suc i) bs); holds = rw (salvaged-is old exam t, parts) at salvage_holds }

    pub salvage_slot : (i : ℕ) → find_number b' r.length exam i ≡ 0 → i < length bs
    salvage_slot i z =
        let there = (find_takes b' r.length exam i z).there in
        let is = holds_parts salvage_holds in
        let es = ap (λ (f : File). f.entries) (is ∙ salvaged-is old exam t) in
        let below : there.i < length bs = omega (arith, there.below, ap length es, length-pieces 0 (numbered 0 bs), length-numbered 0 bs) in
        omega (arith, below, rw es at there.is, numbered-slot 0 0 bs there.i (entry i 0 0) below)

    -- its block stands where it stood in the old bytes
    pub salvage_place : (i : ℕ) → i < length bs
        → ((entry_of i (file_in (take r.length b'))).offset + (entry_of i (file_in (take r.length b'))).size ≤ length (salvaged_file old exam t).body)
        × (block_in b' r.length i ≡ take (entry_of i (file_in (take r.length b'))).size (drop (entry_of i (file_in (take r.length b'))).offset old))
    salvage_place i h =
        let l = r.length in
        let n = length (salvaged_file old exam t).body in
        let x = entry_of i (file_in (take l b')) in
        let z = piece_found (salvage_piece i h) in
        let is : length (file_in (take l b')).body ≡ n = ap (λ (f : File). length f.body) (holds_parts salvage_holds) in
        let ends : x.offset + x.size ≤ n = omega (arith, found-ends b' l exam i z, body-long (take l b'), is) in
        (ends, found_part b' l exam i z ∙ sym (part_of_first x.size x.offset n b' ends) ∙ rw salvage_first (part_of_first x.size x.offset n old ends))
