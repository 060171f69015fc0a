-- What salvage finds of files that it knows nothing of: of an intact one, and of one that was cut.
use mathlib.Core.Path.{◌≡◌, refl, sym, ap, ◌∙◌}
use mathlib.Core.Logic.{◌↔◌, ◌⊎◌, inl, inr}
use mathlib.Core.List.{List, [], ◌∷◌, ◌++◌, map, map-append, append_assoc}
use mathlib.Core.Bool.{true, false, cond}
use Prim.Native.Nat.{ℕ, zero, suc, ◌+◌, ◌-◌, ◌^◌, ◌≤◌, ◌<◌}
use native.Mathlib.Omega.{arith}
use lib.Dec.{leb}
use lib.ListN.{length, get_or, take, drop, length-append, length-take, length-map, take-append-drop}
use lib.Seq.{take_all, take-length, take-take, take-add, take-append-add, take-append_seam, drop-append_seam, drop-drop, get_or-take, get_or_at, length-take-le}
use borrow.Author.Tests.{leb-true, leb-false, le-leb}
use Rattle.words.specs.Bytes.{number}
use Rattle.words.proofs.Each.{Each, none, more}
use Rattle.words.proofs.Tests.{either}
use Rattle.answers.proofs.Checks.{unless_holds, afterwards-new}
use Rattle.block_rules.specs.Block.{block, count, stated_length}
use Rattle.block_rules.specs.Numbers.{block_number}
use Rattle.block_rules.proofs.Accept.{whole}
use Rattle.exam_rules.specs.File.{Entry, entry, directory_bytes, trailer_bytes, File, file_length, file_bytes, block_of}
use Rattle.exam_rules.specs.Reading.{directory_at, entries_in, file_in, entry_of}
use Rattle.exam_rules.specs.Numbers.{joins, entries_number, directory_number, open_in_number, find_number, block_in}
use Rattle.exam_rules.specs.Pieces.{Piece, blocks_of, entries_of, file_of_pieces}
use Rattle.exam_rules.specs.Calls.{located, Salvages, Salvaged}
use Rattle.exam_rules.specs.Maps.{Map, piece_of, file_of, renumbered_from}
use Rattle.exam_rules.specs.Salvage.{block_stands, whole_blocks, numbered, salvaged_file}
use Rattle.exam_rules.proofs.Directory.{heads, joins_equal, joins_forward, ends-before}
use Rattle.exam_rules.proofs.Opens.{OpensIn, opens_in, body-long, entries-many}
use Rattle.exam_rules.proofs.Parts.{part_of_first}
use Rattle.exam_rules.proofs.Pieces.{Wholes, length-pieces, HoldsPiece, piece_found, piece_entry}
use Rattle.exam_rules.proofs.Holds.{Holds, holds-length}
use Rattle.exam_rules.proofs.Cut.{block_states, entries-state, directory_states, directory_counts, each_found}
use Rattle.exam_rules.proofs.Salvage.{StandsWhole, stands-whole, whole-stands, stands-long, length-numbered, salvaged-ends, salvage_kept, salvage_left_over, salvage_holds, salvage_piece}

-- ---- what stands at the start of a first part of bytes

module _ (x : List ℕ) (k : ℕ) where
  -- a block that stands there states what the bytes state
  states_same : StandsWhole (take k x) → (8 ≤ k) × (stated_length (take k x) ≡ stated_length x)
  states_same s =
      let enough : 8 ≤ k = omega (arith, stands-long (take k x) s, s.within, length-take k x) in
      (enough, ap number (part_of_first 4 4 k x enough))

  -- and counts what they count
  counts_few : StandsWhole (take k x) → count x ≤ 65536
  counts_few s =
      let n = stated_length (take k x) in
      let enough = (states_same s).0 in
      let e : count (take n (take k x)) ≡ count x =
      ap number (take-take 4 n (take k x) (omega (arith, stands-long (take k x) s))) ∙ ap number (take-take 4 k x (omega arith)) in
      rw e at (whole (take n (take k x)) s.checks).few

-- Where bytes state a length of 0, or count more than 65,536 words, no block stands, however they are cut.
no_block_stands : (x : List ℕ) → (stated_length x ≡ 0) ⊎ (65536 < count x) → (k : ℕ) → block_stands (take k x) ≡ false
no_block_stands x (inl z) k =
    either (block_stands (take k x)) (λ q. let s = stands-whole (take k x) q in absurd (omega (arith, z, stands-long (take k x) s, (states_same x k s).1))) (λ q. q)
no_block_stands x (inr h) k = either (block_stands (take k x)) (λ q. absurd (omega (arith, h, counts_few x k (stands-whole (take k x) q)))) (λ q. q)

module _ (p y : List ℕ) (w : block_number p ≡ 0) (k : ℕ) where
  -- a block that was cut does not stand
  cut_falls : k < length p → block_stands (take k (p ++ y)) ≡ false
  cut_falls h =
      either (block_stands (take k (p ++ y)))
      (λ q.
      let s = stands-whole (take k (p ++ y)) q in
      absurd (omega (arith, s.within, (states_same (p ++ y) k s).1, block_states p y w, length-take k (p ++ y))))
      (λ q. q)

  -- a block that was not cut does
  first_block : length p ≤ k → (stated_length (take k (p ++ y)) ≡ length p) × (take (length p) (take k (p ++ y)) ≡ p) × (drop (length p) (take k (p ++ y)) ≡ take (k - length p) y)
  first_block h =
      let split : take k (p ++ y) ≡ p ++ take (k - length p) y =
      ap (λ (i : ℕ). take i (p ++ y)) {x = k} {y = length p + (k - length p)} (omega arith) ∙ take-append-add p y (k - length p) in
      rw split (block_states p _ w, take-append_seam p _, drop-append_seam p _)

  stays : length p ≤ k → block_stands (take k (p ++ y)) ≡ true
  stays h =
      let f = first_block h in
      whole-stands (take k (p ++ y))
      (record { within = omega (arith, f.0, length-take k (p ++ y), length-append p y); checks = rw (f.0, f.1) w })

-- ---- the walk up to a block that is refused

-- whole blocks, and then bytes at whose start no block stands: the blocks are found
found_before : (slot : ℕ) (bs : List (List ℕ)) (x : List ℕ) → Each (λ (b : List ℕ). block_number b ≡ 0) bs → block_stands x ≡ false → (n : ℕ) → length bs ≤ n
    → whole_blocks n (blocks_of (numbered slot bs) ++ x) ≡ bs
unfolding whole_blocks
found_before slot [] x ws falls zero h = refl
found_before slot [] x ws falls (suc n) h = rw falls
found_before slot (b ∷ bs) x ws falls zero h = absurd (omega arith)
found_before slot (b ∷ bs) x (more w ws) falls (suc n) h =
    let y = blocks_of (numbered (slot + 1) bs) ++ x in
    let e : blocks_of (numbered slot (b ∷ bs)) ++ x ≡ b ++ y = append_assoc b (blocks_of (numbered (slot + 1) bs)) x in
    let states = block_states b y w in
    let stands = whole-stands (b ++ y) (record { within = omega (arith, states, length-append b y); checks = rw (states, take-append_seam b y) w }) in
    rw (e, stands, states, take-append_seam b y, drop-append_seam b y) (ap (λ (l : List (List ℕ)). b ∷ l) (found_before (slot + 1) bs x ws falls n (omega arith)))

-- so salvage keeps them, and leaves over what is behind them
pub stops_at_refused : (bs : List (List ℕ)) (x : List ℕ) → Each (λ (b : List ℕ). block_number b ≡ 0) bs → length bs ≤ 1024 → (block_number (take (stated_length x) x) ≡ 0 → ⊥)
    → {exam t : ℕ} {file file' : List ℕ} {r : Salvaged} → Salvages (blocks_of (numbered 0 bs) ++ x) file exam t r file' → r.number ≡ 0
    → (r.kept ≡ length bs) × (r.left_over ≡ length x)
stops_at_refused bs x ws few refused {exam} {t} c e =
    let old = blocks_of (numbered 0 bs) ++ x in
    let falls : block_stands x ≡ false = either (block_stands x) (λ q. absurd (refused (stands-whole x q).checks)) (λ q. q) in
    let found = found_before 0 bs x ws falls 1024 few in
    let body : length (salvaged_file old exam t).body ≡ length (blocks_of (numbered 0 bs)) =
    salvaged-ends old exam t ∙ ap (λ (l : List (List ℕ)). length (blocks_of (numbered 0 l))) found in
    (salvage_kept c e ∙ ap length found, salvage_left_over c e ∙ omega (arith, body, length-append (blocks_of (numbered 0 bs)) x))

-- ---- the walk over pieces that were cut

-- how many pieces end within k bytes
abbrev within : ℕ → List Piece → ℕ
within k [] = 0
within k (p ∷ ps) = cond (leb (length p.block) k) (suc (within (k - length p.block) ps)) 0

-- the blocks of pieces, as a list
abbrev blocks : List Piece → List (List ℕ)
blocks ps = map (λ (p : Piece). p.block) ps

-- Of whole blocks with no block behind them, however they are cut, those are found that end within the cut.
cut_blocks : (ps : List Piece) (tail : List ℕ) → Wholes ps → ((k : ℕ) → block_stands (take k tail) ≡ false) → (n k : ℕ) → length ps ≤ n
    → whole_blocks n (take k (blocks_of ps ++ tail)) ≡ take (within k ps) (blocks ps)
unfolding whole_blocks
cut_blocks [] tail ws behind zero k h = refl
cut_blocks [] tail ws behind (suc n) k h = rw (behind k)
cut_blocks (p ∷ ps) tail ws behind zero k h = absurd (omega arith)
cut_blocks (p ∷ ps) tail (more w ws) behind (suc n) k h =
    let b = p.block in
    let y = blocks_of ps ++ tail in
    let e : blocks_of (p ∷ ps) ++ tail ≡ b ++ y = append_assoc b (blocks_of ps) tail in
    either (leb (length b) k)
    (λ q.
    let f = first_block b y w k (leb-true _ _ q) in
    rw (q, e, stays b y w k (leb-true _ _ q), f.0, f.1, f.2) (ap (λ (l : List (List ℕ)). b ∷ l) (cut_blocks ps tail ws behind n (k - length b) (omega arith))))
    (λ q. rw (q, e, cut_falls b y w k (leb-false _ _ q)))

-- a piece ends within k bytes just where it is among those that do
ends-within : (first : List Piece) (p : Piece) (rest : List Piece) (k : ℕ) → (length first < within k (first ++ p ∷ rest)) ↔ (length (blocks_of first) + length p.block ≤ k)
ends-within [] p rest k =
    let n = length p.block in
    either (leb n k)
    (λ q.
    let l = leb-true n k q in
    rw q ((λ h. omega arith), λ h. omega arith))
    (λ q.
    let l = leb-false n k q in
    rw q ((λ h. absurd (omega arith)), λ h. absurd (omega arith)))
ends-within (x ∷ first) p rest k =
    let n = length x.block in
    let la = length-append x.block (blocks_of first) in
    let i = ends-within first p rest (k - n) in
    either (leb n k)
    (λ q.
    let l = leb-true n k q in
    rw q ((λ h. let j = i.0 (omega arith) in omega (arith, j, la)), λ h. let j = i.1 (omega (arith, la)) in omega (arith, j)))
    (λ q.
    let l = leb-false n k q in
    rw q ((λ h. absurd (omega arith)), λ h. absurd (omega (arith, la))))

within-most : (k : ℕ) (ps : List Piece) → within k ps ≤ length ps
within-most k [] = omega arith
within-most k (p ∷ ps) = either (leb (length p.block) k) (λ q. rw q (omega (arith, within-most (k - length p.block) ps))) (λ q. rw q (omega arith))

all-within : (k : ℕ) (ps : List Piece) → length (blocks_of ps) ≤ k → within k ps ≡ length ps
all-within k [] h = refl
all-within k (p ∷ ps) h =
    let la = length-append p.block (blocks_of ps) in
    rw (le-leb (length p.block) k (omega (arith, la))) (ap suc (all-within (k - length p.block) ps (omega (arith, la))))

-- numbering blocks anew leaves their bytes as they are
same_bytes : (slot : ℕ) (ps : List Piece) → blocks_of (numbered slot (blocks ps)) ≡ blocks_of ps
same_bytes slot [] = refl
same_bytes slot (p ∷ ps) = ap (λ (l : List ℕ). p.block ++ l) (same_bytes (slot + 1) ps)

-- the first of them are no more bytes than all
first-bytes : (slot j : ℕ) (ps : List Piece) → length (blocks_of (numbered slot (take j (blocks ps)))) ≤ length (blocks_of ps)
first-bytes slot zero ps = omega arith
first-bytes slot (suc j) [] = omega arith
first-bytes slot (suc j) (p ∷ ps) =
    omega (arith, length-append p.block (blocks_of (numbered (slot + 1) (take j (blocks ps)))), length-append p.block (blocks_of ps), first-bytes (slot + 1) j ps)

-- ---- an intact file

-- the pieces of entries whose blocks stand in these bytes
abbrev pieces_in : List ℕ → List Entry → List Piece
pieces_in body es = map (λ (e : Entry). record { slot = e.slot; block = take e.size (drop e.offset body) }) es

entries-blocks : (body : List ℕ) (lowest from : ℕ) (es : List Entry) (to : ℕ) → entries_number joins lowest from es to ≡ 0 → to ≤ length body
    → blocks_of (pieces_in body es) ≡ take (to - from) (drop from body)
entries-blocks body lowest from [] to z h =
    let none_left : to - from ≡ 0 = omega (arith, joins_equal from to (unless_holds _ _ z (omega arith))) in
    rw none_left
entries-blocks body lowest from (e ∷ es) to z h =
    let k = heads joins lowest from e es to z in
    let at : from ≡ e.offset = joins_equal from e.offset k.joined in
    let end = ends-before joins_forward _ _ es to k.rest in
    let rest = to - (e.offset + e.size) in
    let both : to - e.offset ≡ e.size + rest = omega (arith, end) in
    rw (at, both)
    (ap (λ (l : List ℕ). take e.size (drop e.offset body) ++ l) (entries-blocks body (e.slot + 1) (e.offset + e.size) es to k.rest h ∙ ap (λ (l : List ℕ). take rest l) (sym (drop-drop e.size e.offset body)))
    ∙ sym (take-add e.size rest (drop e.offset body)))

wholes_of : (body : List ℕ) (es : List Entry) → ((i : ℕ) → i < length es → block_number (take (get_or es i (entry 0 0 0)).size (drop (get_or es i (entry 0 0 0)).offset body)) ≡ 0)
    → Wholes (pieces_in body es)
wholes_of body [] w = none
wholes_of body (e ∷ es) w = more (w 0 (omega arith)) (wholes_of body es (λ i h. w (suc i) (omega arith)))

blocks_in : (f : File) (es : List Entry) → blocks (pieces_in f.body es) ≡ map (block_of f) es
unfolding block_of
blocks_in f [] = refl
blocks_in f (e ∷ es) = ap (λ (l : List (List ℕ)). take e.size (drop e.offset f.body) ∷ l) (blocks_in f es)

module _ (b : List ℕ) (l exam : ℕ) (z : open_in_number b l exam ≡ 0) where
  abbrev file : File
  file = file_in (take l b)

  abbrev start : ℕ
  start = directory_at (take l b)

  at-directory : (n : ℕ) → entries_in (take l b) ≡ n → (stated_length (drop start b) ≡ 0) ⊎ (65536 < count (drop start b))
  at-directory zero e = let y = directory_counts b l exam z e in inr (rw y.0 (omega (arith, y.1)))
  at-directory (suc n) e = inl (directory_states b l exam z n e)

  -- where the directory of a file starts no block stands, however it is cut there
  pub directory_no_block : (k : ℕ) → block_stands (take k (drop start b)) ≡ false
  directory_no_block k = no_block_stands (drop start b) (at-directory (entries_in (take l b)) refl) k

  module _ (w : (s : ℕ) → find_number b l exam s ≡ 0 → block_number (block_in b l s) ≡ 0) where
    opens_it : OpensIn b l exam
    opens_it = opens_in b l exam z

    abbrev pieces : List Piece
    pieces = pieces_in file.body file.entries

    body_is : blocks_of pieces ≡ file.body
    unfolding directory_number
    body_is = entries-blocks file.body 0 0 file.entries (length file.body) opens_it.is.directory (omega arith) ∙ take_all (length file.body - 0) file.body (omega arith)

    split : blocks_of pieces ++ drop start b ≡ b
    unfolding file_in
    split =
        ap (λ (x : List ℕ). x ++ drop start b) (body_is ∙ take-take start l b (omega (arith, opens_it.long))) ∙ take-append-drop start b

    -- the whole blocks from its start on are its blocks, in their order
    pub intact_blocks : whole_blocks 1024 b ≡ map (block_of file) file.entries
    unfolding block_of
    intact_blocks =
        let ws = wholes_of file.body file.entries (each_found (λ (x : List ℕ). block_number x ≡ 0) b l exam z w) in
        let lp : length pieces ≡ length file.entries = length-map file.entries _ in
        let few : length pieces ≤ 1024 = omega (arith, lp, entries-many (take l b), opens_it.is.trailer.few) in
        let all : within (length b) pieces ≡ length pieces = all-within (length b) pieces (omega (arith, ap length split, length-append (blocks_of pieces) (drop start b))) in
        ap (λ (x : List ℕ). whole_blocks 1024 x) (sym (take-length b) ∙ ap (λ (x : List ℕ). take (length b) x) (sym split))
        ∙ cut_blocks pieces (drop start b) ws directory_no_block 1024 (length b) few
        ∙ take_all (within (length b) pieces) (blocks pieces) (omega (arith, all, length-map pieces (λ (p : Piece). p.block)))
        ∙ blocks_in file file.entries

    -- and they end where its directory starts
    pub intact_ends : length (blocks_of (numbered 0 (whole_blocks 1024 b))) ≡ start
    intact_ends =
        ap (λ (x : List (List ℕ)). length (blocks_of (numbered 0 x))) (intact_blocks ∙ sym (blocks_in file file.entries))
        ∙ ap length (same_bytes 0 pieces ∙ body_is)
        ∙ body-long (take l b)

-- ---- a file of pieces that was cut

-- what stands behind the blocks of pieces
tail-is : (exam t l : ℕ) (ps : List Piece)
    → (stated_length (directory_bytes (entries_of 0 ps) ++ trailer_bytes 1 t exam (length (entries_of 0 ps)) l) ≡ 0)
    ⊎ (65536 < count (directory_bytes (entries_of 0 ps) ++ trailer_bytes 1 t exam (length (entries_of 0 ps)) l))
unfolding trailer_bytes
tail-is exam t l [] = inr (omega arith)
tail-is exam t l (p ∷ ps) = inl (entries-state p ps _)

module _ (exam t : ℕ) (ps : List Piece) {b : List ℕ} {l : ℕ} (h : Holds b l (file_of_pieces exam t ps)) (ws : Wholes ps) (k : ℕ) where
  -- the whole blocks from the start of what is left on are those that end within the cut
  cut_pieces : whole_blocks 1024 (take k (take l b)) ≡ take (within k ps) (blocks ps)
  unfolding file_bytes
  cut_pieces =
      let n = length (entries_of 0 ps) in
      let tail = directory_bytes (entries_of 0 ps) ++ trailer_bytes 1 t exam n (file_length (file_of_pieces exam t ps)) in
      rw (h.bytes ∙ append_assoc (blocks_of ps) (directory_bytes (entries_of 0 ps)) _)
      (cut_blocks ps tail ws (no_block_stands tail (tail-is exam t _ ps)) 1024 k (omega (arith, h.good.few, length-pieces 0 ps)))

  cut_many : length (whole_blocks 1024 (take k (take l b))) ≡ within k ps
  cut_many =
      ap length cut_pieces ∙ length-take-le (within k ps) (blocks ps) (omega (arith, within-most k ps, length-map ps (λ (p : Piece). p.block)))

  -- so the file is no longer than the one that was cut
  pub cut_shorter : (other u : ℕ) → file_length (salvaged_file (take k (take l b)) other u) ≤ l
  unfolding salvaged_file
  cut_shorter other u =
      let bs = whole_blocks 1024 (take k (take l b)) in
      let body : length (blocks_of (numbered 0 bs)) ≤ length (blocks_of ps) = rw cut_pieces (first-bytes 0 (within k ps) ps) in
      omega (arith, body, length-pieces 0 (numbered 0 bs), length-numbered 0 bs, cut_many, within-most k ps, holds-length h, length-pieces 0 ps)

-- ---- what salvage keeps of it

-- no more blocks than there are pieces
pub kept-most : (exam t : ℕ) (ps : List Piece) {b : List ℕ} {l : ℕ} → Holds b l (file_of_pieces exam t ps) → Wholes ps → (k : ℕ) {other u : ℕ} {file file' : List ℕ} {r : Salvaged}
    → Salvages (take k (take l b)) file other u r file' → r.number ≡ 0 → r.kept ≤ length ps
kept-most exam t ps h ws k c e = omega (arith, salvage_kept c e, cut_many exam t ps h ws k, within-most k ps)

module _ (exam t : ℕ) (first : List Piece) (p : Piece) (rest : List Piece) {b : List ℕ} {l : ℕ} (h : Holds b l (file_of_pieces exam t (first ++ p ∷ rest)))
    (ws : Wholes (first ++ p ∷ rest)) (k : ℕ) {other u : ℕ} {file file' : List ℕ} {r : Salvaged} (c : Salvages (take k (take l b)) file other u r file') (e : r.number ≡ 0) where
  abbrev ps : List Piece
  ps = first ++ p ∷ rest

  many : r.kept ≡ within k ps
  many = salvage_kept c e ∙ cut_many exam t ps h ws k

  -- a piece is kept just where its block ends within the cut
  kept-within : (length first < r.kept) ↔ (length (blocks_of first) + length p.block ≤ k)
  kept-within = rw many (ends-within first p rest k)

  -- then its block is in the new file, as the slot of its place
  kept_piece : other < 2 ^ 64 → length first < r.kept → HoldsPiece file' r.length other u (record { slot = length first; block = p.block })
  kept_piece fits h' =
      let n = length first in
      let bs : whole_blocks 1024 (take k (take l b)) ≡ take (within k ps) (blocks ps) = cut_pieces exam t ps h ws k in
      let its : get_or (whole_blocks 1024 (take k (take l b))) n [] ≡ p.block =
      ap (λ (x : List (List ℕ)). get_or x n []) bs
      ∙ get_or-take (within k ps) (blocks ps) n [] (omega (arith, many))
      ∙ ap (λ (x : List (List ℕ)). get_or x n []) (map-append (λ (q : Piece). q.block) first (p ∷ rest))
      ∙ get_or_at (blocks first) p.block (blocks rest) [] n (length-map first (λ (q : Piece). q.block)) in
      rw its at (salvage_piece c e fits n (omega (arith, salvage_kept c e)))

-- ---- a file of maps that was cut

take-map : {A B : Type 0} (f : A → B) (n : ℕ) (xs : List A) → take n (map f xs) ≡ map f (take n xs)
take-map f zero xs = refl
take-map f (suc n) [] = refl
take-map f (suc n) (x ∷ xs) = ap (λ (l : List _). f x ∷ l) (take-map f n xs)

numbered_maps : (t slot : ℕ) (ms : List Map) → numbered slot (blocks (map (piece_of t) ms)) ≡ map (piece_of t) (renumbered_from slot ms)
numbered_maps t slot [] = refl
numbered_maps t slot (m ∷ ms) = ap (λ (l : List Piece). record { slot = slot; block = block t m.words } ∷ l) (numbered_maps t (slot + 1) ms)

-- what salvage makes of it is the file of the maps whose blocks end within the cut, renumbered
cut_maps : (exam t : ℕ) (ms : List Map) {b : List ℕ} {l : ℕ} → Holds b l (file_of exam t ms) → Wholes (map (piece_of t) ms) → (k other : ℕ)
    → salvaged_file (take k (take l b)) other t ≡ file_of other t (renumbered_from 0 (take (within k (map (piece_of t) ms)) ms))
unfolding salvaged_file
cut_maps exam t ms h ws k other =
    let j = within k (map (piece_of t) ms) in
    ap (λ (ps : List Piece). file_of_pieces other t ps)
    (ap (λ (x : List (List ℕ)). numbered 0 x) (cut_pieces exam t (map (piece_of t) ms) h ws k ∙ take-map _ j (map (piece_of t) ms) ∙ ap blocks (take-map (piece_of t) j ms))
    ∙ numbered_maps t 0 (take j ms))

-- and the buffer then holds it
pub cut_salvaged : (exam t : ℕ) (ms : List Map) {b : List ℕ} {l : ℕ} → Holds b l (file_of exam t ms) → Wholes (map (piece_of t) ms) → (k : ℕ) {other : ℕ} {file file' : List ℕ} {r : Salvaged}
    → other < 2 ^ 64 → Salvages (take k (take l b)) file other t r file' → r.number ≡ 0 → Holds file' r.length (file_of other t (renumbered_from 0 (take r.kept ms)))
cut_salvaged exam t ms h ws k {other} fits c e =
    rw (salvage_kept c e ∙ cut_many exam t (map (piece_of t) ms) h ws k) (rw (cut_maps exam t ms h ws k other) at (salvage_holds c e fits))

-- ---- what salvage keeps of it, however a map becomes a piece

module _ (piece : Map → Piece) (exam t : ℕ) (first : List Map) (m : Map) (rest : List Map) {b : List ℕ} {l : ℕ} (h : Holds b l (file_of_pieces exam t (map piece (first ++ m ∷ rest))))
    (ws : Wholes (map piece (first ++ m ∷ rest))) (k : ℕ) {other u : ℕ} {file file' : List ℕ} {r : Salvaged} (c : Salvages (take k (take l b)) file other u r file') (e : r.number ≡ 0) where
  -- a map is kept just where its block ends within the cut
  pub those_within : (length first < r.kept) ↔ ((located b l exam (piece m).slot).offset + (located b l exam (piece m).slot).size ≤ k)
  unfolding located
  those_within =
      let hp : HoldsPiece b l exam t (piece m) = record { first = map piece first; rest = map piece rest; holds = rw map-append at h } in
      let x = piece_entry hp in
      let z = piece_found hp in
      let o = afterwards-new _ (entry_of (piece m).slot (file_in (take l b))).offset 0 z ∙ ap (λ (y : Entry). y.offset) x in
      let n = afterwards-new _ (entry_of (piece m).slot (file_in (take l b))).size 0 z ∙ ap (λ (y : Entry). y.size) x in
      rw (o, n, ← (length-map first piece)) (kept-within exam t (map piece first) (piece m) (map piece rest) (rw map-append at h) (rw map-append at ws) k c e)

  pub those_kept : other < 2 ^ 64 → length first < r.kept → HoldsPiece file' r.length other u (record { slot = length first; block = (piece m).block })
  those_kept fits within =
      let lm = length-map first piece in
      rw lm at (kept_piece exam t (map piece first) (piece m) (map piece rest) (rw map-append at h) (rw map-append at ws) k c e fits (rw lm within))
