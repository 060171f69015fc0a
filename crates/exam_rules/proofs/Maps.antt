-- The pieces of maps, and the file of the changed list.
use mathlib.Core.Path.{◌≡◌, refl, sym, ap, ap₂, ◌∙◌}
use mathlib.Core.List.{List, [], ◌∷◌, ◌++◌, map, map-append, append_assoc}
use Prim.Native.Nat.{ℕ, ◌+◌, ◌-◌, ◌≤◌, ◌<◌}
use native.Mathlib.Omega.{arith}
use native.Mathlib.Nat.{zero-add}
use lib.Dec.{eqb}
use lib.ListN.{length, get_or, take, drop, length-map, length-append, length-take}
use lib.Seq.{take-append-add, drop-append-add, drop-append_seam}
use borrow.Author.Tests.{eq-eqb}
use Rattle.words.specs.Words.{Words}
use Rattle.words.proofs.Each.{Each, none, more, each_map}
use Rattle.words.proofs.Tests.{either}
use Rattle.block_rules.specs.Codes.{Choice, dfcm_chosen, Thrifty}
use Rattle.block_rules.specs.Block.{block_by, block}
use Rattle.block_rules.proofs.Codes.{rule-thrifty}
use Rattle.block_rules.proofs.Cost.{blocks_alike}
use Rattle.block_rules.proofs.Round.{chosen-count, chosen-whole, chosen-words}
use Rattle.exam_rules.specs.File.{Entry, entry, file_bytes, moved, resized, replaced}
use Rattle.exam_rules.specs.Reading.{index_of, entry_of}
use Rattle.exam_rules.specs.Numbers.{directory_number}
use Rattle.exam_rules.specs.Calls.{Replaces, Made}
use Rattle.exam_rules.specs.Pieces.{Piece, blocks_of, entries_of, file_of_pieces}
use Rattle.exam_rules.specs.Maps.{Map, piece_of, file_of, piece_by, file_by, changed, renumbered_from}
use Rattle.exam_rules.proofs.Lengths.{length-file}
use Rattle.exam_rules.proofs.Accept.{find_tells}
use Rattle.exam_rules.proofs.Back.{Good}
use Rattle.exam_rules.proofs.Resized.{found-slot}
use Rattle.exam_rules.proofs.Holds.{Holds, holds-length, holds_parts, replaced-holds}
use Rattle.exam_rules.proofs.Exchanged.{found-old}
use Rattle.exam_rules.proofs.Pieces.{Wholes, HoldsPiece, ReadsAs, slot-index}

-- a map of at most 65,536 words, each of 64 bits
pub record Fit (m : Map) : Type 0 where
  pub few : length m.words ≤ 65536
  pub wide : Words m.words

-- its block by any choice reads as its words
pub reads_by : (choice : Choice) (t : ℕ) (m : Map) → Fit m → ReadsAs t (block_by choice t m.words) m.words
reads_by choice t m f =
    record {
      whole = chosen-whole choice t m.words f.few f.wide;
      many = chosen-count choice t m.words f.few;
      reads = chosen-words choice t m.words f.few f.wide;
    }

pub map-reads : (t : ℕ) (m : Map) → Fit m → ReadsAs t (block t m.words) m.words
unfolding block
map-reads t m f = reads_by dfcm_chosen t m f

-- a file of maps has the piece of each, however a map becomes a piece
pub maps_piece : (piece : Map → Piece) (exam t : ℕ) (first : List Map) (m : Map) (rest : List Map) {b : List ℕ} {l : ℕ} → Holds b l (file_of_pieces exam t (map piece (first ++ m ∷ rest)))
    → HoldsPiece b l exam t (piece m)
maps_piece piece exam t first m rest h = record { first = map piece first; rest = map piece rest; holds = rw map-append at h }

-- ---- maps that were packed by choices of their own

pub maps_whole : (choice : Map → Choice) (t : ℕ) {ms : List Map} → Each Fit ms → Wholes (map (piece_by choice t) ms)
maps_whole choice t f = each_map (piece_by choice t) (λ m h. (reads_by (choice m) t m h).whole) f

module _ (choice : Map → Choice) (thrifty : (m : Map) → Thrifty (choice m)) (t : ℕ) where
  as_long : (m : Map) → length (block_by (choice m) t m.words) ≡ length (block t m.words)
  unfolding block
  as_long m = blocks_alike (choice m) dfcm_chosen (thrifty m) rule-thrifty t m.words

  entries_alike : (at : ℕ) (ms : List Map) → entries_of at (map (piece_by choice t) ms) ≡ entries_of at (map (piece_of t) ms)
  entries_alike at [] = refl
  entries_alike at (m ∷ ms) = rw (as_long m, entries_alike (at + length (block t m.words)) ms)

  body_alike : (ms : List Map) → length (blocks_of (map (piece_by choice t) ms)) ≡ length (blocks_of (map (piece_of t) ms))
  body_alike [] = refl
  body_alike (m ∷ ms) = simp length-append (omega (arith, as_long m, body_alike ms))

  good_alike : (exam : ℕ) (ms : List Map) → Good (file_of exam t ms) → Good (file_by choice exam t ms)
  unfolding directory_number
  good_alike exam ms g =
      let es = entries_alike 0 ms in
      let body = body_alike ms in
      record {
        edition = g.edition;
        t = g.t;
        named = g.named;
        exam = g.exam;
        few = rw es g.few;
        size = rw (es, body) g.size;
        smalls = rw es g.smalls;
        directory = rw (es, body) g.directory;
      }

  -- where the rule makes a file of maps, a buffer with the file of these holds it
  pub alike_holds : (exam : ℕ) (ms : List Map) {b c : List ℕ} {l : ℕ} → Holds b l (file_of exam t ms) → take l c ≡ file_bytes (file_by choice exam t ms) → Holds c l (file_by choice exam t ms)
  alike_holds exam ms {b} {c} {l} h e =
      record {
        within = omega (arith, ap length e, length-file (file_by choice exam t ms), holds-length h, length-take l c, ap length (entries_alike 0 ms), body_alike ms);
        bytes = e;
        good = good_alike exam ms h.good;
      }

-- ---- the changed list

-- pieces behind a place that moves
pieces-moved : (old n at : ℕ) (ps : List Piece) → map (moved old n) (entries_of (at + old) ps) ≡ entries_of (at + n) ps
pieces-moved old n at [] = refl
pieces-moved old n at (p ∷ ps) =
    let k = length p.block in
    let here : at + old + n - old ≡ at + n = omega arith in
    let on : at + old + k ≡ at + k + old = omega arith in
    let then : at + n + k ≡ at + k + n = omega arith in
    rw (here, on, then, pieces-moved old n (at + k) ps)

module _ (t slot : ℕ) (words : List ℕ) where
  abbrev pieces_of : List Map → List Piece
  pieces_of ms = map (piece_of t) ms

  entries-changed : (at : ℕ) (ms : List Map) → entries_of at (pieces_of (changed slot words ms)) ≡ resized slot (length (block t words)) (entries_of at (pieces_of ms))
  entries-changed at [] = refl
  entries-changed at (m ∷ ms) =
      let n = length (block t m.words) in
      either (eqb m.slot slot) (λ q. rw (q, pieces-moved n (length (block t words)) at (pieces_of ms))) (λ q. rw (q, entries-changed (at + n) ms))

  -- the entry of the slot, among the entries of maps whose first block starts at a place
  abbrev its : ℕ → List Map → Entry
  its at ms = get_or (entries_of at (pieces_of ms)) (index_of slot (entries_of at (pieces_of ms))) (entry slot 0 0)

  starts_from : (at : ℕ) (ms : List Map) → index_of slot (entries_of at (pieces_of ms)) < length (entries_of at (pieces_of ms)) → at ≤ (its at ms).offset
  starts_from at [] = λ h. absurd (omega arith)
  starts_from at (m ∷ ms) =
      either (eqb m.slot slot) (λ q. rw q (λ h. omega arith)) (λ q. rw q (λ h. omega (arith, starts_from (at + length (block t m.words)) ms (omega arith))))

  blocks-changed : (at o : ℕ) (ms : List Map) → index_of slot (entries_of at (pieces_of ms)) < length (entries_of at (pieces_of ms)) → at + o ≡ (its at ms).offset
      → blocks_of (pieces_of (changed slot words ms)) ≡ take o (blocks_of (pieces_of ms)) ++ block t words ++ drop (o + (its at ms).size) (blocks_of (pieces_of ms))
  blocks-changed at o [] = λ h e. absurd (omega arith)
  blocks-changed at o (m ∷ ms) =
      let x = block t m.words in
      let y = blocks_of (pieces_of ms) in
      either (eqb m.slot slot)
      (λ q.
      rw q
      (λ h e.
      let none_before : o ≡ 0 = omega arith in
      rw (none_before, zero-add (length x)) (ap (λ (l : List ℕ). block t words ++ l) (sym (drop-append_seam x y)))))
      (λ q.
      rw q
      (λ h e.
      let on = o - length x in
      let f = starts_from (at + length x) ms (omega arith) in
      let s = (its (at + length x) ms).size in
      let o_is : o ≡ length x + on = omega arith in
      let end_is : o + s ≡ length x + (on + s) = omega arith in
      let glue : x ++ (take on y ++ block t words ++ drop (on + s) y) ≡ x ++ take on y ++ block t words ++ drop (on + s) y = simp append_assoc in
      ap (λ (l : List ℕ). x ++ l) (blocks-changed (at + length x) on ms (omega arith) (omega arith))
      ∙ glue
      ∙ sym
      (ap₂ (λ (a c : List ℕ). a ++ block t words ++ c)
      (ap (λ (k : ℕ). take k (x ++ y)) o_is ∙ take-append-add x y on)
      (ap (λ (k : ℕ). drop k (x ++ y)) end_is ∙ drop-append-add x y (on + s)))))

  -- a file of maps with another block in a slot's place is the file of the changed list
  maps_changed : (exam : ℕ) (ms : List Map) → index_of slot (file_of exam t ms).entries < length (file_of exam t ms).entries
      → replaced (file_of exam t ms) (entry_of slot (file_of exam t ms)) (block t words) ≡ file_of exam t (changed slot words ms)
  unfolding entry_of
  maps_changed exam ms h =
      rw (found-slot slot (entries_of 0 (pieces_of ms)) (entry slot 0 0) h, entries-changed 0 ms, blocks-changed 0 (its 0 ms).offset ms h (omega arith))

-- where no map before has its slot, changing a map changes that one
changed-one : (t at : ℕ) (first : List Map) (m : Map) (rest : List Map) (words : List ℕ) → index_of m.slot (entries_of at (map (piece_of t) (first ++ m ∷ rest))) ≡ length first
    → changed m.slot words (first ++ m ∷ rest) ≡ first ++ record { slot = m.slot; words = words } ∷ rest
changed-one t at [] m rest words = λ h. rw (eq-eqb m.slot m.slot refl)
changed-one t at (x ∷ first) m rest words =
    either (eqb x.slot m.slot) (λ q. rw q (λ h. absurd (omega arith)))
    (λ q. rw q (λ h. ap (λ (ms : List Map). x ∷ ms) (changed-one t (at + length (block t x.words)) first m rest words (omega arith))))

-- so it is in a file of maps
pub changed-at : (exam t : ℕ) (first : List Map) (m : Map) (rest : List Map) (words : List ℕ) {b : List ℕ} {l : ℕ} → Holds b l (file_of exam t (first ++ m ∷ rest))
    → changed m.slot words (first ++ m ∷ rest) ≡ first ++ record { slot = m.slot; words = words } ∷ rest
unfolding maps_piece
changed-at exam t first m rest words h =
    changed-one t 0 first m rest words (rw map-append (slot-index (maps_piece (piece_of t) exam t first m rest h) ∙ length-map first (piece_of t)))

-- an accepted replace in the file of maps leaves the file of the changed list
pub changed_maps : (exam t : ℕ) (ms : List Map) {b : List ℕ} {l slot : ℕ} {words fcm dfcm bench b' fcm' dfcm' bench' : List ℕ} {r : Made} → Holds b l (file_of exam t ms)
    → Replaces b l exam slot words fcm dfcm bench r b' fcm' dfcm' bench' → r.number ≡ 0 → Holds b' r.length (file_of exam t (changed slot words ms))
changed_maps exam t ms {b} {l} {slot} {words} h c e =
    let p = holds_parts h in
    let i = (find_tells b l exam slot (found-old c e)).1 in
    rw (← (maps_changed t slot words exam ms (rw p at i))) (rw p at (replaced-holds (rw p h.good) c e))

pub changed-fit : (slot : ℕ) (words : List ℕ) {ms : List Map} → length words ≤ 65536 → Words words → Each Fit ms → Each Fit (changed slot words ms)
changed-fit slot words few wide none = none
changed-fit slot words few wide (more {x = m} f r) =
    let fits : Fit (record { slot = m.slot; words = words }) = record { few = few; wide = wide } in
    either (eqb m.slot slot) (λ q. rw q (more fits r)) (λ q. rw q (more f (changed-fit slot words few wide r)))

pub renumbered_fit : (slot : ℕ) {ms : List Map} → Each Fit ms → Each Fit (renumbered_from slot ms)
renumbered_fit slot none = none
renumbered_fit slot (more {x = m} f r) =
    let fits : Fit (record { slot = slot; words = m.words }) = record { few = f.few; wide = f.wide } in
    more fits (renumbered_fit (slot + 1) r)
