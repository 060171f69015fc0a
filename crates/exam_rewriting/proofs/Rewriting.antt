-- The file that putting a block in the place of a slot's makes.
use mathlib.Core.Path.{◌≡◌, sym, ap, ap₂, ◌∙◌}
use mathlib.Core.List.{List, ◌++◌, append_assoc}
use Prim.Native.Nat.{ℕ, ◌+◌, ◌-◌, ◌*◌, ◌≤◌, ◌<◌}
use native.Mathlib.Omega.{arith}
use lib.ListN.{length, get_or, replicate, take, drop, length-append, length-drop}
use lib.Seq.{sets, length-sets, sets-eq, length-take-le, take-take, take-add, take_at, drop-append-le}
use borrow.Author.Tests.{ltb-true}
use Rattle.words.specs.Bytes.{Bytes}
use Rattle.words.proofs.Stores.{kept-below, kept_above, join}
use Rattle.answers.specs.Answers.{over}
use Rattle.answers.proofs.Checks.{unless_holds}
use Rattle.exam_rules.specs.File.{Entry, entry, entry_bytes, directory_bytes, trailer_bytes, File, file_length, file_bytes, resized}
use Rattle.exam_rules.specs.Reading.{entry_at, entries_at, file_in, index_of, entry_of}
use Rattle.exam_rules.specs.Numbers.{most_bytes, slot_number}
use Rattle.exam_rules.specs.Inside.{Entries, Standing}
use Rattle.exam_rules.specs.declared.Trailer.{Trailer}
use Rattle.exam_rules.proofs.Directory.{block_within, blocks-in_order}
use Rattle.exam_rules.proofs.Opens.{OpensIn, opens_in, done-tells, standing}
use Rattle.exam_rules.proofs.Parts.{no_default, entry-there, tells-edition, tells-t, tells-entries, tells-start, entries_are, entries-stand}
use Rattle.exam_rules.proofs.Lengths.{length-entry, length-file}
use Rattle.exam_rules.proofs.Changes.{makes, wipes}
use Rattle.exam_rules.proofs.Entries.{directory_back, entry_in_first, entries_in_first, resized_back}
use Rattle.exam_rules.proofs.Stands.{stands-ends, stands-body, stands-exam}
use Rattle.exam_rules.proofs.Resized.{found-slot, length-resized, length-replaced}
use Rattle.exam_opening.specs.declared.Part.{Part}
use Rattle.exam_writing.specs.Inside.{Trails}
use Rattle.exam_rewriting.specs.Inside.{Behind, resized_bytes, Exchanging, Replacing, rewritten, Rewrites}
use Rattle.exam_rewriting.proofs.Offsets.{length_moved}

-- how the parts of the file lie in the buffer
pub record Lies (b blk : List ℕ) (l : ℕ) (tr : Trailer) (p : Part) : Type 0 where
  pub spans : tr.start + 12 * tr.entries + 32 ≡ l
  pub within : l ≤ length b
  pub small : l ≤ most_bytes
  pub few : tr.entries ≤ 1024
  pub below : p.index < tr.entries
  pub order : p.start ≤ p.end
  pub ends : p.end ≤ tr.start
  pub room : l - (p.end - p.start) + length blk ≤ length b
  pub limit : l - (p.end - p.start) + length blk ≤ most_bytes

module _ (b blk : List ℕ) (l exam : ℕ) (tr : Trailer) (p : Part) (w : Replacing b blk l exam tr p) where
  abbrev file : File
  file = file_in (take l b)

  abbrev its : Entry
  its = entry_of w.slot file

  abbrev old : ℕ
  old = p.end - p.start

  abbrev behind : ℕ
  behind = tr.entries - p.index - 1

  abbrev place : ℕ
  place = tr.start + 12 * p.index

  st : Standing (take l b) tr
  st = standing b l exam tr w.opens

  open_in : OpensIn b l exam
  open_in = opens_in b l exam (done-tells b l exam tr w.opens).0

  spans : tr.start + 12 * tr.entries + 32 ≡ l
  spans = stands-ends b l exam tr w.opens

  in_buffer : l ≤ length b
  in_buffer = open_in.within

  -- the slot's entry is among the entries, and tells where the part stands
  slot-below : index_of w.slot file.entries < length file.entries
  unfolding slot_number
  slot-below = ltb-true _ _ (unless_holds _ _ (sym w.part.there) (omega arith))

  index_below : p.index < tr.entries
  index_below = omega (arith, slot-below, w.part.index, tells-entries (take l b) tr st)

  start_is : p.start ≡ its.offset
  start_is = w.part.offset

  old-is : old ≡ its.size
  old-is = w.part.size

  part-ends : p.start + old ≤ tr.start
  unfolding entry_of
  part-ends = omega (arith, start_is, old-is, block_within file (index_of w.slot file.entries) (entry w.slot 0 0) open_in.is.directory slot-below, tells-start (take l b) tr st)

  pub lies : Lies b blk l tr p
  lies =
      record {
        spans = spans;
        within = in_buffer;
        small = omega (arith, open_in.is.trailer.small, open_in.long);
        few = (entries-stand (take l b) tr st).few;
        below = index_below;
        order = w.part.order;
        ends = omega (arith, part-ends, w.part.order);
        room = w.room;
        limit = w.small;
      }

  -- an entry, read from the buffer
  entry_read : (i : ℕ) (d : Entry) → i < tr.entries → get_or file.entries i d ≡ entry_at b (tr.start + 12 * i)
  entry_read i d h =
      rw (← (entries_are (take l b) tr st))
      (entry-there (take l b) tr.entries tr.start i d h ∙ entry_in_first b (tr.start + 12 * i) l (omega (arith, spans)))

  its_read : its ≡ entry_at b place
  unfolding entry_of
  its_read = rw (← w.part.index) (entry_read p.index (entry w.slot 0 0) index_below)

  -- every entry behind it has an offset of at least its size
  pub stands-behind : Behind b (place + 12) behind old (length blk)
  stands-behind =
      record {
        stand = record { room = omega (arith, spans, in_buffer, index_below); few = omega (arith, lies.few) };
        behind =
            λ j h.
            let k = p.index + 1 + j in
            let d = entry w.slot 0 0 in
            let e : place + 12 + 12 * j ≡ tr.start + 12 * k = omega arith in
            let lower = entry_read p.index d index_below in
            let upper = entry_read k d (omega (arith, index_below)) in
            let order = blocks-in_order file p.index k d open_in.is.directory (omega arith) (omega (arith, index_below, tells-entries (take l b) tr st)) in
            rw e (omega (arith, rw (lower, upper) at order, old-is, ap (λ (x : Entry). x.size) its_read));
        small = omega (arith, w.small);
      }

  pub stands_with : Entries b place (behind + 1)
  stands_with = record { room = omega (arith, spans, in_buffer, index_below); few = omega (arith, lies.few, index_below) }

  -- ---- the directory

  abbrev dir : List ℕ
  dir = resized_bytes b place behind old (length blk)

  length-dir : length dir ≡ 12 + 12 * behind
  length-dir =
      let own = entry (entry_at b place).slot (entry_at b place).offset (length blk) in
      length-append (entry_bytes own) _ ∙ ap₂ (λ (m n : ℕ). m + n) (length-entry own) (length_moved b (place + 12) behind old (length blk))

  entries_read : file.entries ≡ entries_at b tr.start tr.entries
  entries_read = sym (entries_are (take l b) tr st) ∙ entries_in_first b tr.entries tr.start l (omega (arith, spans))

  directory-is : Bytes b → directory_bytes (resized its.slot (length blk) file.entries) ≡ take (12 * p.index) (drop tr.start b) ++ dir
  unfolding entry_of
  directory-is bytes =
      let slot_is = found-slot w.slot file.entries (entry w.slot 0 0) slot-below in
      let i-is : p.index ≡ index_of w.slot (entries_at b tr.start tr.entries) = w.part.index ∙ ap (λ (es : List Entry). index_of w.slot es) entries_read in
      let size_is : old ≡ (entry_at b place).size = old-is ∙ ap (λ (x : Entry). x.size) its_read in
      rw (slot_is, entries_read, size_is, ← (directory_back b p.index tr.start bytes (omega (arith, spans, in_buffer, index_below))), i-is)
      (resized_back b tr.entries tr.start w.slot (length blk) (omega (arith, i-is, index_below)))

  -- ---- what moves

  abbrev from : ℕ
  from = p.start + old

  abbrev end : ℕ
  end = tr.start + 12 * tr.entries

  -- the bytes behind the part as far as the directory's end, once the directory is changed: the later blocks and the new directory
  moves : Bytes b → take (end - from) (drop from (sets b place dir)) ≡ drop from file.body ++ directory_bytes (resized its.slot (length blk) file.entries)
  moves bytes =
      let body = take tr.start b in
      let before = take (12 * p.index) (drop tr.start b) in
      let after = drop (place + length dir) b in
      let front : take place b ≡ body ++ before = take-add tr.start (12 * p.index) b in
      let lb : length body ≡ tr.start = length-take-le tr.start b (omega (arith, spans, in_buffer)) in
      let lf : length (take place b) ≡ place = length-take-le place b (omega (arith, spans, in_buffer, index_below)) in
      let cut : drop from (take place b) ≡ drop from body ++ before = ap (λ (x : List ℕ). drop from x) front ∙ drop-append-le from body before (omega (arith, lb, part-ends)) in
      let whole : drop from (sets b place dir) ≡ drop from (take place b) ++ dir ++ after =
      ap (λ (x : List ℕ). drop from x) (sets-eq dir b place (omega (arith, length-dir, spans, in_buffer, index_below)) ∙ append_assoc (take place b) dir after)
      ∙ drop-append-le from (take place b) (dir ++ after) (omega (arith, lf, part-ends))
      ∙ sym (append_assoc (drop from (take place b)) dir after) in
      let lm : length (drop from (take place b) ++ dir) ≡ end - from =
      omega (arith, length-append (drop from (take place b)) dir, length-drop from (take place b), lf, length-dir, index_below, part-ends) in
      ap (λ (x : List ℕ). take (end - from) x) whole
      ∙ take_at (drop from (take place b) ++ dir) after (end - from) lm
      ∙ rw (cut, directory-is bytes, stands-body b l exam tr w.opens) (append_assoc (drop from body) before dir)

  pub exchanging : (b1 : List ℕ) → b1 ≡ sets b place dir → Exchanging b1 blk p.start old end
  exchanging b1 e =
      let long : length b1 ≡ length b = ap length e ∙ length-sets b place dir in
      record { order = omega (arith, part-ends); within = omega (arith, spans, in_buffer); room = omega (arith, w.room, spans, part-ends) }

  -- ---- the file

  abbrev new : File
  new = rewritten b blk l p.index

  its-is : its ≡ get_or file.entries p.index (entry 0 0 0)
  unfolding entry_of
  its-is = rw (← w.part.index) (no_default file.entries p.index (entry w.slot 0 0) (entry 0 0 0) (omega (arith, index_below, tells-entries (take l b) tr st)))

  new-long : file_length new ≡ end - old + length blk + 32
  new-long =
      rw (← its-is)
      (omega (
        arith,
        length-replaced file w.slot blk open_in.is.directory slot-below,
        old-is,
        tells-start (take l b) tr st,
        tells-entries (take l b) tr st,
        part-ends,
      ))

  -- the length that is answered and where the freed bytes start are numbers of their own, so that a wrong one is refused as such
  pub rewrites : Bytes b → (b1 b2 b3 b4 : List ℕ) (size freed : ℕ) → b1 ≡ sets b place dir → b2 ≡ sets b1 p.start (blk ++ take (end - from) (drop from b1))
      → Trails b2 (record { edition = tr.edition; t = tr.t; entries = tr.entries; start = tr.start - old + length blk }) exam b3 size
      → b4 ≡ sets b3 freed (replicate (l - freed) 0) → freed ≡ size → Rewrites b blk l p.index b4 size
  rewrites bytes b1 b2 b3 b4 size freed p1 p2 q3 q4 e =
      let size_is : size ≡ end - old + length blk + 32 = omega (arith, q3.end, part-ends) in
      let new-end : tr.start - old + length blk + 12 * tr.entries ≡ end - old + length blk = omega (arith, part-ends) in
      let p3 = rw (size_is, new-end) at q3.bytes in
      let p4 = rw (e, size_is) at q4 in
      let later = drop from file.body in
      let es = resized its.slot (length blk) file.entries in
      let tra = trailer_bytes tr.edition tr.t exam tr.entries (end - old + length blk + 32) in
      let long : length b1 ≡ length b = ap length p1 ∙ length-sets b place dir in
      let moved : take (end - from) (drop from b1) ≡ later ++ directory_bytes es = rw p1 (moves bytes) in
      let ll : length (later ++ directory_bytes es) ≡ end - from =
      sym (ap length moved) ∙ length-take-le (end - from) (drop from b1) (omega (arith, length-drop from b1, long, spans, in_buffer)) in
      let put : b3 ≡ sets b1 p.start (blk ++ (later ++ directory_bytes es) ++ tra) =
      join b1 b2 b3 (blk ++ (later ++ directory_bytes es)) tra p.start _ (rw moved at p2) p3 (omega (arith, length-append blk (later ++ directory_bytes es), ll, part-ends)) in
      let many : length es ≡ tr.entries = length-resized its.slot (length blk) file.entries ∙ tells-entries (take l b) tr st in
      let head : take p.start file.body ≡ take p.start b1 =
      rw (stands-body b l exam tr w.opens, p1)
      (take-take p.start tr.start b (omega (arith, part-ends)) ∙ sym (kept-below b place dir 0 p.start (omega (arith, part-ends)))) in
      let body_is : new.body ≡ take p.start b1 ++ (blk ++ later) =
      rw (← its-is, ← start_is, ← old-is) (append_assoc (take p.start file.body) blk later ∙ ap (λ (x : List ℕ). x ++ (blk ++ later)) head) in
      let x-is : blk ++ (later ++ directory_bytes es) ++ tra
      ≡ blk ++ later ++ (directory_bytes new.entries ++ trailer_bytes new.edition new.t new.exam (length new.entries) (file_length new)) =
      rw (new-long, ← its-is, many, tells-edition (take l b) tr st, tells-t (take l b) tr st, stands-exam b l exam tr w.opens) (simp append_assoc) in
      let holds : b3 ≡ over (file_bytes new) b1 =
      makes b1 b3 _ new p.start (blk ++ later) (omega (arith, long, spans, in_buffer, part-ends)) body_is (omega (arith, new-long, long, w.room, spans, part-ends)) x-is put in
      let ends : end - old + length blk + 32 ≡ length (file_bytes new) = sym (length-file new ∙ new-long) in
      record {
        end = size_is ∙ sym new-long;
        bytes =
            wipes b b1 b4 (file_bytes new) l (omega (arith, ends, w.room, spans, part-ends)) in_buffer long
            (rw p1 (kept_above b place dir l (omega (arith, length-dir, spans, index_below))))
            (rw (holds, ends) at p4);
      }
