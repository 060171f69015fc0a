-- A proper first part of a file of pieces whose blocks are whole never opens with all its own blocks whole. Where whole blocks are walked from the start,
-- each is a block of the file; then the part's own directory would start at a block of the file, whose length field would have to be the first offset, 0,
-- or whose count would have to be the mark.
use mathlib.Core.Path.{◌≡◌, refl, sym, ap, ◌∙◌}
use mathlib.Core.List.{List, [], ◌∷◌, ◌++◌, append_assoc}
use Prim.Native.Nat.{ℕ, zero, suc, ◌+◌, ◌-◌, ◌*◌, ◌≤◌, ◌<◌}
use native.Mathlib.Omega.{arith}
use lib.ListN.{length, get_or, take, drop, length-append, length-drop, take-append-drop}
use lib.Seq.{drop-drop, drop-append_seam, length-take-le, take-append-le}
use Rattle.words.specs.Bytes.{number, field}
use Rattle.words.proofs.Each.{more}
use Rattle.words.proofs.Alike.{same_equal}
use Rattle.answers.proofs.Checks.{unless_holds}
use Rattle.block_rules.specs.Block.{count, stated_length}
use Rattle.block_rules.specs.Numbers.{form_number, block_number}
use Rattle.block_rules.proofs.Accept.{form_tells, whole, stated-first}
use Rattle.exam_rules.specs.File.{Entry, entry, entry_bytes, directory_bytes, mark, trailer_bytes, file_length, file_bytes, block_of}
use Rattle.exam_rules.specs.Reading.{mark_in, directory_at, entries_in, entry_at, entries_at, file_in, entry_of}
use Rattle.exam_rules.specs.Numbers.{joins, entries_number, open_in_number, find_number, block_in}
use Rattle.exam_rules.specs.Pieces.{Piece, blocks_of, entries_of, file_of_pieces}
use Rattle.exam_rules.proofs.Directory.{heads, joins_equal, joins_forward, ends-before, length-entries, index_of_entry}
use Rattle.exam_rules.proofs.Opens.{OpensIn, opens_in, opens_in_keep, trails-ends, directory-is}
use Rattle.exam_rules.proofs.Parts.{no_default, part_of_first}
use Rattle.exam_rules.proofs.Accept.{find_passes}
use Rattle.exam_rules.proofs.Holds.{Holds, holds-length}
use Rattle.exam_rules.proofs.Pieces.{Wholes, length-pieces}

-- ---- the two fields at the head of what stands at a place

pub block_states : (b x : List ℕ) → block_number b ≡ 0 → stated_length (b ++ x) ≡ length b
block_states b x z = let w = whole b z in stated-first b x w.long ∙ w.stated

block_counts : (b x : List ℕ) → block_number b ≡ 0 → count (b ++ x) ≤ 65536
block_counts b x z = let w = whole b z in rw (ap number (take-append-le 4 b x (omega (arith, w.long)))) w.few

-- the directory of pieces starts with the entry of the first block, whose offset is 0
pub entries-state : (p : Piece) (ps : List Piece) (x : List ℕ) → stated_length (directory_bytes (entries_of 0 (p ∷ ps)) ++ x) ≡ 0
unfolding entry_bytes
entries-state p ps x = refl

-- a file of pieces longer than a trailer has a piece
tail_states : (exam t : ℕ) (ps : List Piece) (x : List ℕ) → 32 < file_length (file_of_pieces exam t ps) → stated_length (directory_bytes (entries_of 0 ps) ++ x) ≡ 0
tail_states exam t [] x h = absurd (omega arith)
tail_states exam t (p ∷ ps) x h = entries-state p ps x

-- ---- the walk over the blocks of a first part

module _ (b tail : List ℕ) (k to : ℕ) (long : k ≤ length b) (inside : to ≤ k) (none-there : stated_length tail ≡ 0) where
  -- what is left of the pieces where the walk over entries ends
  record Rest (ps : List Piece) (es : List Entry) : Type 0 where
    pub pieces : List Piece
    pub wholes : Wholes pieces
    pub there : drop to b ≡ blocks_of pieces ++ tail
    pub many : length es + length pieces ≡ length ps

  -- a whole block of the part states its size in the file's own bytes
  states_size : (offset size : ℕ) → offset + size ≤ to → 8 ≤ size → form_number (take size (drop offset (take to (take k b)))) ≡ 0 → stated_length (drop offset b) ≡ size
  states_size offset size end h w =
      let x = take size (drop offset (take to (take k b))) in
      let x-is : x ≡ take size (drop offset b) = part_of_first size offset to (take k b) end ∙ part_of_first size offset k b (omega arith) in
      let lx : length (take size (drop offset b)) ≡ size = length-take-le size (drop offset b) (simp length-drop (omega arith)) in
      sym (ap number (part_of_first 4 4 size (drop offset b) (omega arith))) ∙ (rw x-is at (form_tells x w).stated) ∙ lx

  walk : (es : List Entry) (ps : List Piece) (lowest from : ℕ) → Wholes ps → entries_number joins lowest from es to ≡ 0
      → ((i : ℕ) → i < length es → form_number (take (get_or es i (entry 0 0 0)).size (drop (get_or es i (entry 0 0 0)).offset (take to (take k b)))) ≡ 0)
      → drop from b ≡ blocks_of ps ++ tail → Rest ps es
  walk [] ps lowest from ws z w e =
      let q : from ≡ to = joins_equal from to (unless_holds _ _ z (omega arith)) in
      record { pieces = ps; wholes = ws; there = rw (← q) e; many = omega arith }
  walk (x ∷ es) [] lowest from ws z w e =
      let h = heads joins lowest from x es to z in
      let q : from ≡ x.offset = joins_equal from x.offset h.joined in
      let s = states_size x.offset x.size (ends-before joins_forward _ _ es to h.rest) h.size (w 0 (omega arith)) in
      absurd (omega (arith, h.size, s, none-there, ap stated_length (rw q at e)))
  walk (x ∷ es) (p ∷ ps) lowest from (more v ws) z w e =
      let h = heads joins lowest from x es to z in
      let after = blocks_of ps ++ tail in
      let q : from ≡ x.offset = joins_equal from x.offset h.joined in
      let s = states_size x.offset x.size (ends-before joins_forward _ _ es to h.rest) h.size (w 0 (omega arith)) in
      let e1 : drop x.offset b ≡ p.block ++ after = (rw q at e) ∙ append_assoc p.block (blocks_of ps) tail in
      let n : x.size ≡ length p.block = sym s ∙ ap stated_length e1 ∙ block_states p.block after v in
      let e2 : drop (x.offset + x.size) b ≡ after = sym (drop-drop x.size x.offset b) ∙ rw (e1, n) (drop-append_seam p.block after) in
      let r = walk es ps (x.slot + 1) (x.offset + x.size) ws h.rest (λ i l. w (suc i) (omega arith)) e2 in
      record { pieces = r.pieces; wholes = r.wholes; there = r.there; many = omega (arith, r.many) }

-- ---- what stands where the directory of a file starts

module _ (b : List ℕ) (k asked : ℕ) (z : open_in_number b k asked ≡ 0) where
  abbrev part : List ℕ
  part = take k b

  o : OpensIn b k asked
  o = opens_in b k asked z

  abbrev s : ℕ
  s = directory_at part

  ends : s + 12 * entries_in part + 32 ≡ k
  ends = trails-ends part o.is.trailer ∙ o.long

  keeps : entries_number joins 0 0 (entries_at part s (entries_in part)) s ≡ 0
  keeps = sym (directory-is part) ∙ o.is.directory

  first-offset : (n : ℕ) → entries_number joins 0 0 (entries_at part s (suc n)) s ≡ 0 → field 4 (s + 4) part ≡ 0
  unfolding entry_at
  first-offset n z = sym (joins_equal _ _ (heads joins 0 0 (entry_at part s) (entries_at part (s + 12) n) s z).joined)

  -- with entries, the first offset is read as the length of a block, which is 0
  pub directory_states : (n : ℕ) → entries_in part ≡ suc n → stated_length (drop s b) ≡ 0
  directory_states n e =
      ap (λ (x : List ℕ). number (take 4 x)) (drop-drop 4 s b)
      ∙ sym (ap number (part_of_first 4 (s + 4) k b (omega (arith, ends, e))))
      ∙ first-offset n (rw e at keeps)

  -- with none, the file's first bytes are the mark, which is read as the count of a block
  pub directory_counts : entries_in part ≡ 0 → (s ≡ 0) × (count b ≡ number mark)
  directory_counts e =
      let y : 0 ≡ s = joins_equal 0 s (unless_holds _ _ (rw e at keeps) (omega arith)) in
      let a : length part - 32 ≡ 0 = omega (arith, ends, o.long) in
      (sym y, sym (ap number (part_of_first 4 0 k b (omega (arith, ends)))) ∙ ap number (rw a at (same_equal (mark_in part) mark o.is.trailer.marked)))

-- ---- a proper first part of a file of pieces, in a buffer that holds the file

module _ (exam t : ℕ) (ps : List Piece) {b : List ℕ} {l : ℕ} (h : Holds b l (file_of_pieces exam t ps)) (ws : Wholes ps) (k asked : ℕ) (short : k < l)
    (z : open_in_number b k asked ≡ 0) where
  -- what stands behind the blocks
  abbrev tail : List ℕ
  tail = directory_bytes (entries_of 0 ps) ++ (trailer_bytes 1 t exam (length (entries_of 0 ps)) (file_length (file_of_pieces exam t ps)) ++ drop l b)

  starts : b ≡ blocks_of ps ++ tail
  unfolding file_bytes
  starts = sym (take-append-drop l b) ∙ rw h.bytes (simp append_assoc)

  length-tail : length tail + l ≡ 12 * length ps + 32 + length b
  length-tail = omega (arith, ap length starts, length-append (blocks_of ps) tail, holds-length h, length-pieces 0 ps)

  abbrev first : List ℕ
  first = take k b

  abbrev at : ℕ
  at = directory_at first

  -- no block of the file can stand where the part's directory starts
  finish : (n : ℕ) → n ≡ entries_in first → (left : List Piece) → Wholes left → drop at b ≡ blocks_of left ++ tail → n + length left ≡ length ps → ⊥
  finish n q [] ws e m = omega (arith, ap length e, length-drop at b, length-tail, ends b k asked z, (o b k asked z).within)
  finish zero q (p ∷ left) (more v ws) e m =
      let y = directory_counts b k asked z (sym q) in
      let c : count b ≤ 65536 = rw (ap count (rw y.0 at e) ∙ ap count (append_assoc p.block (blocks_of left) tail)) (block_counts p.block (blocks_of left ++ tail) v) in
      omega (arith, y.1)
  finish (suc n) q (p ∷ left) (more v ws) e m =
      let c = ap stated_length (e ∙ append_assoc p.block (blocks_of left) tail) ∙ block_states p.block (blocks_of left ++ tail) v in
      omega (arith, c, directory_states b k asked z n (sym q), (whole p.block v).long)

  never : ((i : ℕ) → i < length (file_in first).entries → form_number (block_of (file_in first) (get_or (file_in first).entries i (entry 0 0 0))) ≡ 0) → ⊥
  unfolding file_in block_of
  never w =
      let i = o b k asked z in
      let x : 32 < file_length (file_of_pieces exam t ps) = omega (arith, i.is.trailer.long, i.long, holds-length h) in
      let r =
      walk b tail k at i.within (omega (arith, ends b k asked z)) (tail_states exam t ps _ x) (entries_at first at (entries_in first)) ps 0 0 ws (keeps b k asked z) w starts in
      finish (entries_in first) refl r.pieces r.wholes r.there (omega (arith, r.many, length-entries first (entries_in first) at))

-- ---- the same of a copy, slot by slot

-- what holds of the blocks of all slots that are found holds of the block of each entry
pub each_found : (P : List ℕ → Type 0) (b : List ℕ) (l exam : ℕ) → open_in_number b l exam ≡ 0 → ((s : ℕ) → find_number b l exam s ≡ 0 → P (block_in b l s))
    → (i : ℕ) → i < length (file_in (take l b)).entries → P (block_of (file_in (take l b)) (get_or (file_in (take l b)).entries i (entry 0 0 0)))
unfolding block_in entry_of
each_found P b l exam z w i below =
    let f = file_in (take l b) in
    let e = get_or f.entries i (entry 0 0 0) in
    let index = index_of_entry f i (entry 0 0 0) (opens_in b l exam z).is.directory below in
    let its = no_default f.entries i (entry e.slot 0 0) (entry 0 0 0) below in
    rw (index, its) at (w e.slot (find_passes b l exam e.slot z (rw index below)))

module _ (exam t : ℕ) (ps : List Piece) {b : List ℕ} {l : ℕ} (h : Holds b l (file_of_pieces exam t ps)) (ws : Wholes ps) (k asked : ℕ) (short : k < l) (c : List ℕ)
    (same : take k c ≡ take k b) (z : open_in_number c k asked ≡ 0) where
  -- so the part opens in the buffer that holds the file, too
  opens-there : open_in_number b k asked ≡ 0
  opens-there = opens_in_keep b k asked (omega (arith, h.within)) (rw (← same) (opens_in c k asked z).is)

  pub never-all_whole : ((s : ℕ) → find_number c k asked s ≡ 0 → form_number (block_in c k s) ≡ 0) → ⊥
  never-all_whole w = never exam t ps h ws k asked short opens-there (rw (← same) (each_found (λ (x : List ℕ). form_number x ≡ 0) c k asked z w))
