-- Moving the offsets of entries, one a turn, and giving an entry another size.
use mathlib.Core.Path.{◌≡◌, refl, sym, ap, ◌∙◌}
use mathlib.Core.List.{List, ◌++◌, map, map-append}
use Prim.Native.Nat.{ℕ, ◌+◌, ◌-◌, ◌*◌, ◌^◌, ◌≤◌, ◌<◌}
use native.Mathlib.Omega.{arith}
use lib.ListN.{length, take, drop, length-map}
use lib.Seq.{sets, length-sets}
use Rattle.words.specs.Bytes.{Bytes, low_bytes, number, field}
use Rattle.words.proofs.Bytes.{field_below}
use Rattle.words.proofs.Stores.{sets-sets, kept_above, join}
use Rattle.exam_rules.specs.File.{entry, entry_bytes, moved}
use Rattle.exam_rules.specs.Reading.{entry_at, entries_at}
use Rattle.exam_rules.proofs.Directory.{length-entries}
use Rattle.exam_rules.proofs.Lengths.{length-entry, length-directory}
use Rattle.exam_rules.proofs.Entries.{directory_snoc, entries_snoc, put_offset, put_size}
use Rattle.exam_rewriting.specs.Inside.{Behind, moved_bytes, resized_bytes}

pub length_moved : (f : List ℕ) (at n old new : ℕ) → length (moved_bytes f at n old new) ≡ 12 * n
length_moved f at n old new = length-directory (map (moved old new) (entries_at f at n)) ∙ ap (λ (k : ℕ). 12 * k) (length-map (entries_at f at n) (moved old new) ∙ length-entries f n at)

moved_snoc : (f : List ℕ) (at n old new : ℕ) → moved_bytes f at (n + 1) old new ≡ moved_bytes f at n old new ++ entry_bytes (moved old new (entry_at f (at + 12 * n)))
moved_snoc f at n old new = rw (entries_snoc f n at, map-append) (directory_snoc (map (moved old new) (entries_at f at n)) (moved old new (entry_at f (at + 12 * n))))

-- of n entries at a place, the first i have their offsets moved
pub record Moving (b₀ : List ℕ) (at n old new : ℕ) (b : List ℕ) (i : ℕ) : Type 0 where
  pub upto : i ≤ n
  pub long : length b ≡ length b₀
  pub is : b ≡ sets b₀ at (moved_bytes b₀ at i old new)

pub moving_starts : (b : List ℕ) (at n old new : ℕ) → Moving b at n old new b 0
moving_starts b at n old new = record { upto = omega arith; long = refl; is = refl }

module _ (b₀ : List ℕ) (at n old new : ℕ) (h : Behind b₀ at n old new) (bytes : Bytes b₀) (b : List ℕ) (i : ℕ) (below : i < n) (g : Moving b₀ at n old new b i)
    (x : ℕ) (x-is : x ≡ field 4 (at + 12 * i + 4) b) where
  abbrev place : ℕ
  place = at + 12 * i

  abbrev done : List ℕ
  done = moved_bytes b₀ at i old new

  done-ends : at + length done ≡ place
  done-ends = omega (arith, length_moved b₀ at i old new)

  -- the offset that is read is the one that stood there
  offset-is : x ≡ (entry_at b₀ place).offset
  unfolding entry_at
  offset-is =
      let above : drop (place + 4) b ≡ drop (place + 4) b₀ = ap (λ (y : List ℕ). drop (place + 4) y) g.is ∙ kept_above b₀ at done (place + 4) (omega (arith, done-ends)) in
      x-is ∙ ap (λ (y : List ℕ). number (take 4 y)) above

  pub offset_fits : (old ≤ x) × (x < 2 ^ 32)
  unfolding entry_at
  offset_fits =
      let low : old ≤ (entry_at b₀ place).offset = h.behind i below in
      (omega (arith, low, offset-is), omega (arith, offset-is, field_below 4 (place + 4) b₀ bytes))

  pub moving_on : (b' : List ℕ) → b' ≡ sets b (place + 4) (low_bytes 4 (x + new - old)) → Moving b₀ at n old new b' (i + 1)
  moving_on b' q =
      let e = entry_at b₀ place in
      let o = low_bytes 4 (e.offset + new - old) in
      let one = entry_bytes (moved old new e) in
      let room : place + 12 ≤ length b₀ = omega (arith, h.stand.room) in
      let here : b' ≡ sets (sets b₀ at done) (place + 4) o = q ∙ rw (offset-is, ← g.is) in
      let under : sets (sets b₀ (place + 4) o) at done ≡ sets (sets b₀ place one) at done = ap (λ (y : List ℕ). sets y at done) (sym (put_offset b₀ bytes place room (e.offset + new - old))) in
      let now : b' ≡ sets (sets b₀ at done) place one =
      here ∙ sym (sets-sets b₀ at done (place + 4) o (omega (arith, done-ends))) ∙ under ∙ sets-sets b₀ at done place one (omega (arith, done-ends)) in
      record {
        upto = omega arith;
        long = rw (now, length-sets, length-sets) refl;
        is = rw (moved_snoc b₀ at i old new) (join b₀ (sets b₀ at done) b' done one at place refl now (sym done-ends));
      }

pub moving_ends : (b₀ : List ℕ) (at n old new : ℕ) (b : List ℕ) (i : ℕ) → n ≤ i → Moving b₀ at n old new b i → b ≡ sets b₀ at (moved_bytes b₀ at n old new)
moving_ends b₀ at n old new b i h g =
    let e : i ≡ n = omega (arith, g.upto) in
    rw e at g.is

-- the entries behind, then the entry itself
pub resizes : (b b1 b2 : List ℕ) (place n old new : ℕ) → Bytes b → place + 12 ≤ length b → b1 ≡ sets b (place + 12) (moved_bytes b (place + 12) n old new)
    → b2 ≡ sets b1 (place + 8) (low_bytes 4 new) → b2 ≡ sets b place (resized_bytes b place n old new)
resizes b b1 b2 place n old new bytes room p q =
    let m = moved_bytes b (place + 12) n old new in
    let own = entry_bytes (entry (entry_at b place).slot (entry_at b place).offset new) in
    let below : b2 ≡ sets (sets b place own) (place + 12) m =
    q
    ∙ ap (λ (y : List ℕ). sets y (place + 8) (low_bytes 4 new)) p
    ∙ sets-sets b (place + 8) (low_bytes 4 new) (place + 12) m (omega arith)
    ∙ ap (λ (y : List ℕ). sets y (place + 12) m) (sym (put_size b bytes place room new)) in
    join b (sets b place own) b2 own m place (place + 12) refl below (omega (arith, length-entry (entry (entry_at b place).slot (entry_at b place).offset new)))
