-- The number that listing answers, the whole text and how long it gets. Nothing else but the claims opens `list_number`, `listing`, `most_text` and `listed`.
use mathlib.Core.Path.{◌≡◌, refl, sym, ap, ◌∙◌}
use mathlib.Core.List.{List, [], ◌∷◌, ◌++◌, append_assoc}
use Prim.Native.Nat.{ℕ, zero, suc, ◌+◌, ◌*◌, ◌^◌, ◌≤◌, ◌<◌}
use native.Mathlib.Omega.{arith}
use lib.Dec.{leb}
use lib.ListN.{length, length-append}
use lib.Pow.{pow_mono}
use lib.Seq.{sets, take-length}
use borrow.Author.Tests.{le-leb, lt-leb, leb-true}
use Rattle.words.specs.Bytes.{Bytes}
use Rattle.words.proofs.Bytes.{field_below}
use Rattle.answers.specs.Answers.{unless, first_failure}
use Rattle.answers.proofs.Checks.{unless_holds, fails_here, fails_later, none_fails, last_decides, passes, stops, all_pass, afterwards-new, afterwards-old, sets_over}
use Rattle.block_rules.specs.Block.{count}
use Rattle.block_rules.proofs.Accept.{whole}
use Rattle.exam_rules.specs.File.{File, block_of}
use Rattle.exam_rules.specs.Reading.{trailer_at, exam_in, t_in, entries_in, directory_at, entry_at, entries_at, file_in}
use Rattle.exam_rules.specs.Numbers.{trailer_number, open_number, open_in_number}
use Rattle.exam_rules.specs.Calls.{opened, opened_number, Done, Refused}
use Rattle.exam_rules.specs.Inside.{Standing}
use Rattle.exam_rules.specs.declared.Trailer.{Trailer}
use Rattle.exam_rules.proofs.Directory.{length-entries}
use Rattle.exam_rules.proofs.Opens.{t_in_lem, entries-many, opens, refused-tells, done-tells, standing}
use Rattle.exam_rules.proofs.Parts.{tells-t, tells-entries, many_is, rules_are}
use Rattle.exam_rules.proofs.Accept.{opened-number}
use Rattle.exam_opening.proofs.Finding.{directory, lists}
use Rattle.listing.specs.Text.{exam_line, heading, slot_line, slot_lines, listing, most_text}
use Rattle.listing.specs.Numbers.{most_listed, blocks_number, list_number}
use Rattle.listing.specs.Calls.{listed, lists_number, Lists, Listed}
use Rattle.listing.specs.Inside.{HasRoom, Extends, Directory, Listable}
use Rattle.listing.specs.declared.text.Text.{Text}
use Rattle.listing.proofs.Decimals.{decimal-at_most}
use Rattle.listing.proofs.Lines.{room_first, room_on, extends_on, length-exam_line, length-slot_line}
use Rattle.listing.proofs.Walks.{Blocks, directory-blocks, first-within, blocks-after}

-- ---- the number

-- opening a buffer that is the file alone
whole-number : (f : List ℕ) (exam : ℕ) → open_in_number f (length f) exam ≡ open_number f exam
unfolding open_in_number
whole-number f exam = sym (passes _ _ _ _ (le-leb (length f) (length f) (omega arith)) (rw (take-length f) (last_decides _)))

pub opened-whole : (f : List ℕ) (exam : ℕ) → opened_number (opened f (length f) exam) ≡ open_number f exam
opened-whole f exam = opened-number f (length f) exam ∙ whole-number f exam

short_number : (f : List ℕ) (exam : ℕ) → length f < 32 → 4 ≡ open_number f exam
unfolding open_number trailer_number
short_number f exam h = fails_here _ _ _ (stops _ _ _ (lt-leb _ _ h) (omega arith)) (λ z. omega arith)

module _ (f : List ℕ) (exam : ℕ) (x : exam ≡ exam_in f) (tr : Trailer) (e : Done tr ≡ opened f (length f) exam) where
  opens-own : open_number f (exam_in f) ≡ 0
  opens-own = rw (← x) (sym (whole-number f exam) ∙ (done-tells f (length f) exam tr (sym e)).0)

  pub opened-stands : Standing f tr
  opened-stands = rw (take-length f) at (standing f (length f) exam tr (sym e))

  room-is : most_text (length (file_in f).entries) ≡ 66 + 23 * tr.entries
  unfolding most_text
  room-is = omega (arith, tells-entries f tr opened-stands)

-- what stands in a file that is open
module _ (f : List ℕ) (tr : Trailer) (st : Standing f tr) where
  pub trailer_few : tr.entries ≤ 1024
  trailer_few = omega (arith, many_is f tr st, (rules_are f tr st).few)

  pub trailer_t : tr.t ≤ 16
  trailer_t = omega (arith, tells-t f tr st, t_in_lem f, (rules_are f tr st).t)

  pub directory_stands : Directory f (directory f tr st)
  directory_stands = record { lists = lists f tr st; rule = st.directory }

module _ (f : List ℕ) (room : ℕ) where
  pub number-long : most_listed < length f → 3 ≡ list_number f room
  unfolding list_number
  number-long h = stops _ _ _ (lt-leb _ _ h) (omega arith)

  module _ (h : length f ≤ most_listed) where
    pub number_short : length f < 32 → 4 ≡ list_number f room
    unfolding list_number
    number_short l = passes _ _ _ _ (le-leb _ _ h) (fails_here _ _ _ (short_number f (exam_in f) l) (λ z. omega arith))

    module _ (exam : ℕ) (x : exam ≡ exam_in f) where
      pub number-refused : (k : ℕ) → Refused k ≡ opened f (length f) exam → k ≡ list_number f room
      unfolding list_number
      number-refused k e =
          let t = refused-tells f (length f) exam k (sym e) in
          passes _ _ _ _ (le-leb _ _ h) (fails_here _ _ _ (t.0 ∙ whole-number f exam ∙ rw x) t.1)

      module _ (tr : Trailer) (e : Done tr ≡ opened f (length f) exam) (k : ℕ) (q : k ≡ blocks_number (file_in f) (file_in f).entries) where
        pub number-blocks : (k ≡ 0 → ⊥) → k ≡ list_number f room
        unfolding list_number
        number-blocks m = passes _ _ _ _ (le-leb _ _ h) (fails_later _ _ _ (opens-own f exam x tr e) (fails_here _ _ _ q m))

        -- only the room is left to check
        number-room : (n : ℕ) → k ≡ 0 → n ≡ first_failure (unless (leb (most_text (length (file_in f).entries)) room) 3 ∷ []) → n ≡ list_number f room
        unfolding list_number
        number-room n z r = passes _ _ _ _ (le-leb _ _ h) (fails_later _ _ _ (opens-own f exam x tr e) (fails_later _ _ _ (sym q ∙ z) r))

        pub number_cramped : k ≡ 0 → room < 66 + 23 * tr.entries → 3 ≡ list_number f room
        number_cramped z l = number-room 3 z (stops _ _ _ (lt-leb _ _ (rw (← (room-is f exam x tr e)) at l)) (omega arith))

        pub number-fine : k ≡ 0 → 66 + 23 * tr.entries ≤ room → 0 ≡ list_number f room
        number-fine z l = number-room 0 z (passes _ _ _ _ (le-leb _ _ (rw (← (room-is f exam x tr e)) at l)) all_pass)

-- what listing needs
pub record Takes (f : List ℕ) (room : ℕ) : Type 0 where
  pub small : length f ≤ most_listed
  pub opens : open_number f (exam_in f) ≡ 0
  pub blocks : blocks_number (file_in f) (file_in f).entries ≡ 0
  pub enough : most_text (length (file_in f).entries) ≤ room

pub takes : (f : List ℕ) (room : ℕ) → list_number f room ≡ 0 → Takes f room
unfolding list_number
takes f room z =
    let a = none_fails _ _ z in
    let b = none_fails _ _ a.1 in
    let c = none_fails _ _ b.1 in
    record {
      small = leb-true _ _ (unless_holds _ _ a.0 (omega arith));
      opens = b.0;
      blocks = c.0;
      enough = leb-true _ _ (unless_holds _ _ (none_fails _ _ c.1).0 (omega arith));
    }

pub takes_keep : (f : List ℕ) (room : ℕ) → Takes f room → list_number f room ≡ 0
unfolding list_number
takes_keep f room t =
    sym (passes _ _ _ _ (le-leb _ _ t.small) (fails_later _ _ _ t.opens (fails_later _ _ _ t.blocks (passes _ _ _ _ (le-leb _ _ t.enough) all_pass))))

-- ---- how long the text gets

power_small : (t : ℕ) → t ≤ 16 → 2 ^ t < 10 ^ 5
power_small t h = omega (arith, pow_mono {i = t} {j = 16} h)

exam_line_within : (exam t slots : ℕ) → exam < 2 ^ 64 → t ≤ 16 → slots ≤ 1024 → length (exam_line exam t slots) ≤ 49
exam_line_within exam t slots a b c =
    omega (arith, length-exam_line exam t slots, decimal-at_most 20 exam (omega arith) (omega arith) (omega arith), decimal-at_most 5 (2 ^ t) (omega arith) (power_small t b) (omega (arith, power_small t b)), decimal-at_most 4 slots (omega arith) (omega arith) (omega arith))

slot_line_within : (slot words bytes : ℕ) → slot < 2 ^ 32 → words ≤ 65536 → bytes ≤ 65536 → length (slot_line slot words bytes) ≤ 23
slot_line_within slot words bytes a b c =
    omega (arith, length-slot_line slot words bytes, decimal-at_most 10 slot (omega arith) (omega arith) (omega arith), decimal-at_most 5 words (omega arith) (omega arith) (omega arith), decimal-at_most 5 bytes (omega arith) (omega arith) (omega arith))

slot_small : (f : List ℕ) (at : ℕ) → Bytes f → (entry_at f at).slot < 2 ^ 32
unfolding entry_at
slot_small f at b = field_below 4 at f b

lines_within : (f : List ℕ) → Bytes f → directory_at f ≤ 65536 → (n at : ℕ) → Blocks (directory_at f) (entries_at f at n) → blocks_number (file_in f) (entries_at f at n) ≡ 0
    → length (slot_lines (file_in f) (entries_at f at n)) ≤ 23 * n
lines_within f b h zero at w z = omega arith
lines_within f b h (suc n) at w z =
    let e = entry_at f at in
    let k = none_fails _ _ z in
    let line = slot_line_within e.slot (count (block_of (file_in f) e)) e.size (slot_small f at b) (whole _ k.0).few (omega (arith, first-within w)) in
    omega (
      arith,
      line,
      length-append (slot_line e.slot (count (block_of (file_in f) e)) e.size) (slot_lines (file_in f) (entries_at f (at + 12) n)),
      lines_within f b h n (at + 12) (blocks-after w) (none_fails _ _ k.1).0,
    )

length-listing : (f : File) → length (listing f) ≡ length (exam_line f.exam f.t (length f.entries)) + 17 + length (slot_lines f f.entries)
unfolding listing
length-listing f = simp length-append

-- the text of a file that is not refused has room
pub listing-within : (f : List ℕ) (room : ℕ) → Bytes f → Takes f room → length (listing (file_in f)) ≤ most_text (length (file_in f).entries)
unfolding file_in most_text
listing-within f room b t =
    let o = opens f (exam_in f) t.opens in
    let r = o.trailer in
    let n = length-entries f (entries_in f) (directory_at f) in
    omega (
      arith,
      n,
      length-listing (file_in f),
      exam_line_within (exam_in f) (t_in f) (length (file_in f).entries) (field_below 8 (trailer_at f + 8) f b) r.t (omega (arith, n, r.few)),
      lines_within f b (omega (arith, t.small)) (entries_in f) (directory_at f) (directory-blocks f o.directory) t.blocks,
    )

exam_told : (f : List ℕ) → (file_in f).exam ≡ exam_in f
unfolding file_in
exam_told f = refl

pub most_text_lem : (f : List ℕ) → open_number f (exam_in f) ≡ 0 → most_text (length (file_in f).entries) ≤ 23618
unfolding most_text
most_text_lem f z = omega (arith, entries-many f, (opens f (exam_in f) z).trailer.few)

-- ---- the whole text

-- the three parts of the text of a file that is open, one put after another
module _ (f : List ℕ) (r : Trailer) (s : Text) (l : Listable f r s) (exam : ℕ) (x : exam ≡ exam_in f) where
  abbrev line : List ℕ
  line = exam_line exam r.t r.entries

  abbrev lines : List ℕ
  lines = slot_lines (file_in f) (file_in f).entries

  listing-is : listing (file_in f) ≡ line ++ (heading ++ lines)
  unfolding listing
  listing-is =
      let told : exam_line (file_in f).exam (file_in f).t (length (file_in f).entries) ≡ line = cc (exam_told f, x, tells-t f r l.stands, tells-entries f r l.stands) in
      ap (λ (k : List ℕ). k ++ heading ++ lines) told ∙ append_assoc line heading lines

  whole_room : HasRoom s (line ++ (heading ++ lines))
  whole_room = rw listing-is at l.room

  pub line-room : HasRoom s line
  line-room = room_first line (heading ++ lines) whole_room

  module _ (s₁ : Text) (p : Extends s line s₁) where
    pub heading-room : HasRoom s₁ heading
    heading-room = room_first heading lines (room_on line (heading ++ lines) whole_room p)

    module _ (s₂ : Text) (q : Extends s₁ heading s₂) where
      pub lines-room : HasRoom s₂ lines
      lines-room = room_on heading lines (room_on line (heading ++ lines) whole_room p) q

      pub listing_put : (s₃ : Text) → Extends s₂ lines s₃ → Extends s (listing (file_in f)) s₃
      listing_put s₃ u = rw listing-is (extends_on line (heading ++ lines) p (extends_on heading lines q u))

-- ---- the answer

pub list_refused : (f text : List ℕ) (k : ℕ) → k ≡ lists_number f text → (k ≡ 0 → ⊥) → Lists f text (record { number = k; length = 0 }) text
unfolding listed
list_refused f text k e h =
    let r : lists_number f text ≡ 0 → ⊥ = λ z. h (e ∙ z) in
    record { answer = cc (afterwards-old _ (length (listing (file_in f))) 0 r); text_left = sym (afterwards-old _ _ text r) }

module _ (f text : List ℕ) (b : Bytes f) (z : list_number f (length text) ≡ 0) where
  pub listing-room : length (listing (file_in f)) ≤ length text
  listing-room =
      let t = takes f (length text) z in
      omega (arith, listing-within f (length text) b t, t.enough)

  pub list_done : (text' : List ℕ) (r : ℕ) → r ≡ length (listing (file_in f)) → text' ≡ sets text 0 (listing (file_in f)) → Lists f text (record { number = 0; length = r }) text'
  unfolding listed
  list_done text' r e p =
      record {
        answer = cc (e, afterwards-new (list_number f (length text)) (length (listing (file_in f))) 0 z);
        text_left = p ∙ sets_over (listing (file_in f)) text listing-room ∙ sym (afterwards-new _ _ text z);
      }

pub lists_number_lem : {f text text' : List ℕ} {r : Listed} → Lists f text r text' → r.number ≡ lists_number f text
unfolding listed
lists_number_lem p = ap (λ (x : Listed). x.number) p.answer
