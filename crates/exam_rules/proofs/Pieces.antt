-- Files of pieces: made by create and appends, and each piece found and fetched in a buffer that holds its file.
use mathlib.Core.Path.{◌≡◌, refl, sym, ap, ◌∙◌}
use mathlib.Core.List.{List, [], ◌∷◌, ◌++◌, append_assoc, append-nil}
use Prim.Native.Nat.{ℕ, suc, ◌+◌, ◌^◌, ◌≤◌, ◌<◌}
use native.Mathlib.Omega.{arith}
use native.Mathlib.Nat.{add-zero, zero-add}
use lib.ListN.{length, get_or, take, length-append}
use lib.Seq.{get_or_at, take-append_seam, drop-append_seam}
use Rattle.words.proofs.Each.{Each}
use Rattle.answers.specs.Answers.{over}
use Rattle.answers.proofs.Checks.{afterwards-new}
use Rattle.block_rules.specs.Block.{block, count, words_in}
use Rattle.block_rules.specs.Numbers.{block_number}
use Rattle.block_rules.specs.Calls.{Unpacked}
use Rattle.block_rules.proofs.Accept.{unpacked_of, where_all}
use Rattle.exam_rules.specs.File.{Entry, entry, File, block_of, appended}
use Rattle.exam_rules.specs.Reading.{file_in, index_of, entry_of}
use Rattle.exam_rules.specs.Numbers.{find_number, block_in}
use Rattle.exam_rules.specs.Calls.{trailer_of, opened, opened_t, opened_entries, Finds, Fetches, Creates, Appends, Made, Done}
use Rattle.exam_rules.specs.Pieces.{Piece, blocks_of, entries_of, file_of_pieces}
use Rattle.exam_rules.proofs.Directory.{index_of_entry}
use Rattle.exam_rules.proofs.Changes.{changes_number}
use Rattle.exam_rules.proofs.Accept.{find_passes, find_takes, takes_fetch, create_takes, opened-done, fetches_number_lem}
use Rattle.exam_rules.proofs.Holds.{good-empty, Holds, changed-holds, holds_parts, holds-opens, appended-holds}

-- ---- pieces and then pieces

blocks-append : (ps qs : List Piece) → blocks_of (ps ++ qs) ≡ blocks_of ps ++ blocks_of qs
blocks-append [] qs = refl
blocks-append (p ∷ ps) qs = ap (λ (l : List ℕ). p.block ++ l) (blocks-append ps qs) ∙ sym (append_assoc p.block (blocks_of ps) (blocks_of qs))

entries-append : (at : ℕ) (ps qs : List Piece) → entries_of at (ps ++ qs) ≡ entries_of at ps ++ entries_of (at + length (blocks_of ps)) qs
entries-append at [] qs = rw (add-zero at)
entries-append at (p ∷ ps) qs =
    let e : at + length p.block + length (blocks_of ps) ≡ at + length (p.block ++ blocks_of ps) = rw length-append (omega arith) in
    ap (λ (l : List Entry). entry p.slot at (length p.block) ∷ l) (entries-append (at + length p.block) ps qs ∙ rw e)

pub length-pieces : (at : ℕ) (ps : List Piece) → length (entries_of at ps) ≡ length ps
length-pieces at [] = refl
length-pieces at (p ∷ ps) = ap suc (length-pieces (at + length p.block) ps)

-- pieces whose blocks are all whole
abbrev pub Wholes : List Piece → Type 0
Wholes ps = Each (λ (p : Piece). block_number p.block ≡ 0) ps

-- ---- create and append

-- an accepted create leaves the file of no pieces
pub created-pieces : {exam t : ℕ} {b b' : List ℕ} {r : Made} → exam < 2 ^ 64 → Creates b exam t r b' → r.number ≡ 0 → Holds b' r.length (file_of_pieces exam t [])
created-pieces {exam} {t} {b} w c e =
    let k = create_takes exam t (length b) (sym (changes_number c) ∙ e) in
    changed-holds c e (good-empty exam t k.most k.named w)

-- such a file with a block more is the file of one piece more
pub one_piece_more : (exam t : ℕ) (ps : List Piece) (p : Piece) → appended (file_of_pieces exam t ps) p.slot p.block ≡ file_of_pieces exam t (ps ++ (p ∷ []))
one_piece_more exam t ps p = rw (blocks-append ps (p ∷ []), append-nil, entries-append 0 ps (p ∷ []), zero-add)

-- an accepted append leaves the file of one piece more
pub appended-pieces : (exam t : ℕ) (ps : List Piece) {b : List ℕ} {l slot : ℕ} {words fcm dfcm bench b' fcm' dfcm' bench' : List ℕ} {r : Made} → Holds b l (file_of_pieces exam t ps)
    → slot < 2 ^ 32 → Appends b l exam slot words fcm dfcm bench r b' fcm' dfcm' bench' → r.number ≡ 0
    → Holds b' r.length (file_of_pieces exam t (ps ++ (record { slot = slot; block = block t words } ∷ [])))
appended-pieces exam t ps h w c e = rw (← one_piece_more exam t ps _) (rw (holds_parts h) at (appended-holds (rw (holds_parts h) h.good) w c e))

-- ---- a piece in a buffer that holds its file

-- the buffer holds a file of pieces, and p is one of them
pub record HoldsPiece (b : List ℕ) (l exam t : ℕ) (p : Piece) : Type 0 where
  pub first : List Piece
  pub rest : List Piece
  pub holds : Holds b l (file_of_pieces exam t (first ++ p ∷ rest))

-- a block that is whole and reads as words
pub record ReadsAs (t : ℕ) (b words : List ℕ) : Type 0 where
  pub whole : block_number b ≡ 0
  pub many : count b ≡ length words
  pub reads : words_in t b ≡ words

-- fetching a slot whose block reads as words answers their count and leaves them
pub block_fetched : {b : List ℕ} {l exam slot : ℕ} (t : ℕ) (blk : List ℕ) {words fcm dfcm room fcm' dfcm' room' : List ℕ} {r : Unpacked}
    → find_number b l exam slot ≡ 0 → block_in b l slot ≡ blk → (file_in (take l b)).t ≡ t → ReadsAs t blk words → Fetches b l exam slot fcm dfcm room r fcm' dfcm' room'
    → length fcm ≡ 2 ^ t → length dfcm ≡ 2 ^ t → length words ≤ length room → (r ≡ record { number = 0; count = length words }) × (room' ≡ over words room)
block_fetched {b} {l} {exam} {slot} t blk {room = room} found is t-is s c lf ld enough =
    let z =
    takes_fetch b l exam slot _ _ (length room)
    (record {
      finds = find_takes b l exam slot found;
      fcm_long = rw t-is lf;
      dfcm_long = ld ∙ sym lf;
      whole = rw is s.whole;
      enough = rw (is, s.many) enough;
    }) in
    let u = where_all c.unpacks (fetches_number_lem c ∙ z) in
    (unpacked_of _ _ _ (fetches_number_lem c ∙ z) (u.count ∙ rw is s.many), u.words ∙ rw (is, t-is, s.reads))

module _ {b : List ℕ} {l exam t : ℕ} {p : Piece} (h : HoldsPiece b l exam t p) where
  abbrev file : File
  file = file_of_pieces exam t (h.first ++ p ∷ h.rest)

  -- its entry
  abbrev its : Entry
  its = entry p.slot (length (blocks_of h.first)) (length p.block)

  entry_at : (d : Entry) → get_or file.entries (length h.first) d ≡ its
  entry_at d = rw (entries-append 0 h.first (p ∷ h.rest), zero-add (length (blocks_of h.first))) (get_or_at (entries_of 0 h.first) its _ d _ (length-pieces 0 h.first))

  below : length h.first < length file.entries
  below = omega (arith, length-pieces 0 (h.first ++ p ∷ h.rest), length-append h.first (p ∷ h.rest))

  pub slot-index : index_of p.slot file.entries ≡ length h.first
  slot-index = rw (entry_at its) at (index_of_entry file (length h.first) its h.holds.good.directory below)

  -- its slot is found
  pub piece_found : find_number b l exam p.slot ≡ 0
  piece_found = find_passes b l exam p.slot (holds-opens h.holds) (rw (holds_parts h.holds, slot-index) below)

  -- its entry tells where its block stands
  pub piece_entry : entry_of p.slot (file_in (take l b)) ≡ its
  unfolding entry_of
  piece_entry = rw (holds_parts h.holds, slot-index, entry_at _)

  -- its block is the piece's
  piece_block : block_in b l p.slot ≡ p.block
  unfolding block_in block_of entry_of
  piece_block = rw (holds_parts h.holds, slot-index, entry_at _, blocks-append h.first (p ∷ h.rest), drop-append_seam) (take-append_seam p.block (blocks_of h.rest))

  -- the file's t
  piece_t : (file_in (take l b)).t ≡ t
  piece_t = ap (λ (x : File). x.t) (holds_parts h.holds)

  -- finding its slot hands back its block
  pub piece_handed : {part : List ℕ} {number : ℕ} → Finds b l exam p.slot part number → (number ≡ 0) × (part ≡ p.block)
  piece_handed c = (c.number_left ∙ piece_found, c.answer ∙ afterwards-new _ _ [] piece_found ∙ piece_block)

  -- fetching its slot gives the words that its block reads as
  pub piece_fetched : {words fcm dfcm room fcm' dfcm' room' : List ℕ} {r : Unpacked} → ReadsAs t p.block words → Fetches b l exam p.slot fcm dfcm room r fcm' dfcm' room'
      → length fcm ≡ 2 ^ t → length dfcm ≡ 2 ^ t → length words ≤ length room → (r ≡ record { number = 0; count = length words }) × (room' ≡ over words room)
  piece_fetched s c lf ld enough = block_fetched t p.block piece_found piece_block piece_t s c lf ld enough

-- opening the file of pieces tells its t and their number
pub pieces_tell : (exam t : ℕ) (ps : List Piece) {b : List ℕ} {l : ℕ} → Holds b l (file_of_pieces exam t ps) → (opened_t (opened b l exam) ≡ t) × (opened_entries (opened b l exam) ≡ length ps)
pieces_tell exam t ps {b} {l} h =
    let d = opened-done b l exam (holds-opens h) ∙ ap (λ (f : File). Done (trailer_of f)) (holds_parts h) in
    (ap opened_t d, ap opened_entries d ∙ length-pieces 0 ps)
