-- Reading a file's bytes gives its parts back.
use mathlib.Core.Path.{◌≡◌, refl, sym, ap, ap₂, ◌∙◌}
use mathlib.Core.List.{List, [], ◌∷◌, ◌++◌, append_assoc}
use mathlib.Core.Bool.{true}
use Prim.Native.Nat.{ℕ, ◌+◌, ◌*◌, ◌^◌, ◌≤◌, ◌<◌}
use native.Mathlib.Omega.{arith}
use native.Mathlib.Nat.{add-zero}
use lib.ListN.{length, take, drop, length-append}
use lib.Seq.{take_at, drop_at, drop-append-add}
use Rattle.words.specs.Bytes.{number, field}
use Rattle.words.proofs.Each.{Each, more}
use Rattle.words.proofs.Bytes.{number_low}
use Rattle.words.proofs.Alike.{equal_same}
use Rattle.exam_rules.specs.File.{Entry, entry_bytes, directory_bytes, mark, trailer_bytes, File, file_length, file_bytes}
use Rattle.exam_rules.specs.Reading.{trailer_at, mark_in, edition_in, t_in, exam_in, distance_in, entries_in, length_in, directory_at, entry_at, entries_at, file_in}
use Rattle.exam_rules.specs.Numbers.{most_bytes, edition_known, directory_number, open_in_number}
use Rattle.exam_rules.proofs.Directory.{edition-small}
use Rattle.exam_rules.proofs.Opens.{Trails, Opens, opens_in_keep}
use Rattle.exam_rules.proofs.Lengths.{length-entry, length-directory, length-file}

-- an entry that fits its fields
pub record Small (e : Entry) : Type 0 where
  pub slot : e.slot < 2 ^ 32
  pub offset : e.offset < 2 ^ 32
  pub size : e.size < 2 ^ 32

-- a file that keeps every rule and fits its fields
pub record Good (f : File) : Type 0 where
  pub edition : edition_known f.edition ≡ true
  pub t : f.t ≤ 16
  pub named : 0 < f.exam
  pub exam : f.exam < 2 ^ 64
  pub few : length f.entries ≤ 1024
  pub size : file_length f ≤ most_bytes
  pub smalls : Each Small f.entries
  pub directory : directory_number f ≡ 0

-- a field of what comes after p
field_in : (p q : List ℕ) (at j k : ℕ) → length p ≡ at → field k (at + j) (p ++ q) ≡ field k j q
field_in p q at j k e = ap (λ (l : List ℕ). number (take k l)) (ap (λ (n : ℕ). drop (n + j) (p ++ q)) (sym e) ∙ drop-append-add p q j)

field-first : (p q : List ℕ) (at k : ℕ) → length p ≡ at → field k at (p ++ q) ≡ field k 0 q
field-first p q at k e = ap (λ (n : ℕ). field k n (p ++ q)) (sym (add-zero at)) ∙ field_in p q at 0 k e

entry_read : (p q : List ℕ) (at : ℕ) (e : Entry) → length p ≡ at → Small e → entry_at (p ++ (entry_bytes e ++ q)) at ≡ e
unfolding entry_at entry_bytes
entry_read p q at e h s =
    let r = entry_bytes e ++ q in
    let a : field 4 at (p ++ r) ≡ e.slot = field-first p r at 4 h ∙ number_low 4 e.slot s.slot in
    let b : field 4 (at + 4) (p ++ r) ≡ e.offset = field_in p r at 4 4 h ∙ number_low 4 e.offset s.offset in
    let c : field 4 (at + 8) (p ++ r) ≡ e.size = field_in p r at 8 4 h ∙ number_low 4 e.size s.size in
    rw (a, b, c)

entries_read : (es : List Entry) (p q : List ℕ) (at : ℕ) → length p ≡ at → Each Small es → entries_at (p ++ (directory_bytes es ++ q)) at (length es) ≡ es
entries_read [] p q at h s = refl
entries_read (e ∷ es) p q at h (more x s) =
    let r = directory_bytes es ++ q in
    let f : p ++ (directory_bytes (e ∷ es) ++ q) ≡ p ++ (entry_bytes e ++ r) = ap (λ (l : List ℕ). p ++ l) (append_assoc (entry_bytes e) (directory_bytes es) q) in
    let g : p ++ (entry_bytes e ++ r) ≡ (p ++ entry_bytes e) ++ r = sym (append_assoc p (entry_bytes e) r) in
    ap₂ (λ (a : Entry) (b : List Entry). a ∷ b)
    (ap (λ (l : List ℕ). entry_at l at) f ∙ entry_read p r at e h x)
    (ap (λ (l : List ℕ). entries_at l (at + 12) (length es)) (f ∙ g)
    ∙ entries_read es (p ++ entry_bytes e) q (at + 12) (length-append p (entry_bytes e) ∙ ap₂ (λ (m n : ℕ). m + n) h (length-entry e)) s)

-- ---- the whole file

module _ (f : File) (g : Good f) where
  abbrev n : ℕ
  n = length f.entries

  abbrev tail : List ℕ
  tail = trailer_bytes f.edition f.t f.exam n (file_length f)

  at-trailer : trailer_at (file_bytes f) ≡ length (f.body ++ directory_bytes f.entries)
  at-trailer = omega (arith, length-file f, length-append f.body (directory_bytes f.entries), length-directory f.entries)

  split : file_bytes f ≡ f.body ++ (directory_bytes f.entries ++ tail)
  unfolding file_bytes
  split = append_assoc f.body (directory_bytes f.entries) tail

  -- the field at a place of the trailer
  trailer-field : (k j : ℕ) → field k (trailer_at (file_bytes f) + j) (file_bytes f) ≡ field k j tail
  unfolding file_bytes
  trailer-field k j = field_in (f.body ++ directory_bytes f.entries) tail _ j k (sym at-trailer)

  pub mark_back : mark_in (file_bytes f) ≡ mark
  unfolding file_bytes trailer_bytes
  mark_back = ap (λ (l : List ℕ). take 4 l) (drop_at (f.body ++ directory_bytes f.entries) tail (trailer_at (file_bytes f)) (sym at-trailer))

  pub edition_back : edition_in (file_bytes f) ≡ f.edition
  unfolding trailer_bytes
  edition_back = trailer-field 2 4 ∙ number_low 2 f.edition (edition-small f.edition g.edition)

  pub t_back : t_in (file_bytes f) ≡ f.t
  unfolding trailer_bytes
  t_back = trailer-field 2 6 ∙ number_low 2 f.t (omega (arith, g.t))

  pub exam_back : exam_in (file_bytes f) ≡ f.exam
  unfolding trailer_bytes
  exam_back = trailer-field 8 8 ∙ number_low 8 f.exam g.exam

  pub distance_back : distance_in (file_bytes f) ≡ 32 + 12 * n
  unfolding trailer_bytes
  distance_back = trailer-field 4 16 ∙ number_low 4 (32 + 12 * n) (omega (arith, g.few))

  pub entries_back : entries_in (file_bytes f) ≡ n
  unfolding trailer_bytes
  entries_back = trailer-field 4 20 ∙ number_low 4 n (omega (arith, g.few))

  pub length_back : length_in (file_bytes f) ≡ file_length f
  unfolding trailer_bytes
  length_back = trailer-field 8 24 ∙ number_low 8 (file_length f) (omega (arith, g.size))

  pub directory-starts : directory_at (file_bytes f) ≡ length f.body
  directory-starts = rw distance_back (omega (arith, length-file f))

  body_back : take (length f.body) (file_bytes f) ≡ f.body
  body_back = ap (λ (l : List ℕ). take (length f.body) l) split ∙ take_at f.body (directory_bytes f.entries ++ tail) (length f.body) refl

  pub parts_back : file_in (file_bytes f) ≡ f
  unfolding file_in
  parts_back =
      let es : entries_at (file_bytes f) (length f.body) n ≡ f.entries =
      ap (λ (l : List ℕ). entries_at l (length f.body) n) split ∙ entries_read f.entries f.body tail (length f.body) refl g.smalls in
      rw (directory-starts, entries_back, edition_back, t_back, exam_back, body_back, es)

  trailer_back : Trails (file_bytes f)
  trailer_back =
      record {
        long = omega (arith, length-file f);
        small = rw (length-file f) g.size;
        marked = rw mark_back (equal_same mark);
        edition = rw edition_back g.edition;
        t = rw t_back g.t;
        few = rw entries_back g.few;
        distance = rw (distance_back, entries_back);
        within = rw distance_back (omega (arith, length-file f));
        stated = length_back ∙ sym (length-file f);
      }

  -- such a file opens for its own exam number
  pub opens_back : Opens (file_bytes f) f.exam
  opens_back = record { trailer = trailer_back; named = g.named; own = exam_back; directory = rw parts_back g.directory }

  -- also as the first bytes of a buffer
  pub opens_in_back : (b : List ℕ) (l : ℕ) → l ≤ length b → take l b ≡ file_bytes f → open_in_number b l f.exam ≡ 0
  opens_in_back b l h e = opens_in_keep b l f.exam h (rw e opens_back)
