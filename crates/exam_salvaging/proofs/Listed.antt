-- The entries of the blocks that stand whole, written one a turn.
use mathlib.Core.Path.{◌≡◌, refl, sym, ap, ◌∙◌}
use mathlib.Core.List.{List, [], ◌∷◌}
use Prim.Native.Nat.{ℕ, ◌+◌, ◌-◌, ◌*◌, ◌≤◌, ◌<◌}
use native.Mathlib.Omega.{arith}
use lib.ListN.{length, take, drop, length-drop}
use lib.Seq.{sets, length-sets, drop-drop, length-take-le}
use Rattle.words.specs.Bytes.{number, field}
use Rattle.words.proofs.Stores.{sets-append}
use Rattle.words.proofs.Tests.{either}
use Rattle.block_rules.specs.Block.{stated_length}
use Rattle.exam_rules.specs.File.{entry, entry_bytes, directory_bytes}
use Rattle.exam_rules.specs.Pieces.{entries_of}
use Rattle.exam_rules.specs.Salvage.{block_stands, whole_blocks, numbered}
use Rattle.exam_rules.proofs.Lengths.{length-entry}
use Rattle.exam_rules.proofs.Salvage.{StandsWhole, stands-whole, whole-stands, stands-long, blocks-few}
use Rattle.exam_salvaging.specs.Inside.{Listing}
use Rattle.exam_salvaging.proofs.Standing.{next-block, no_next_block}

-- the bytes of the entries from a slot and a place on
abbrev entries_from : List ℕ → ℕ → ℕ → List ℕ
entries_from old i offset = directory_bytes (entries_of offset (numbered i (whole_blocks (1024 - i) (drop offset old))))

-- i entries are written, and with the rest they are all
pub record Listed (file₀ old : List ℕ) (at n : ℕ) (file : List ℕ) (offset i : ℕ) : Type 0 where
  pub upto : i ≤ n
  pub few : n ≤ 1024
  pub long : length file ≡ length file₀
  pub left : length (whole_blocks (1024 - i) (drop offset old)) + i ≡ n
  pub same : sets file (at + 12 * i) (entries_from old i offset) ≡ sets file₀ at (entries_from old 0 0)

pub list_starts : (file old : List ℕ) (at n : ℕ) → Listing file old at n → Listed file old at n file 0 0
list_starts file old at n h =
    let at-0 : at + 12 * 0 ≡ at = omega arith in
    record { upto = omega arith; few = omega (arith, h.many, blocks-few 1024 old); long = refl; left = omega (arith, h.many); same = ap (λ (k : ℕ). sets file k (entries_from old 0 0)) at-0 }

module _ (file₀ old : List ℕ) (at n : ℕ) (file : List ℕ) (offset i : ℕ) (h : i < n) (g : Listed file₀ old at n file offset i) where
  -- while entries are left, a block stands
  list_stands : StandsWhole (drop offset old)
  list_stands =
      let bs = drop offset old in
      either (block_stands bs) (λ q. stands-whole bs q) (λ q. absurd (omega (arith, g.left, ap length (no_next_block bs i (omega (arith, g.few)) q))))

  pub list_room : offset + 8 ≤ length old
  list_room = omega (arith, list_stands.within, stands-long (drop offset old) list_stands, length-drop offset old)

  module _ (size : ℕ) (e : size ≡ field 4 (offset + 4) old) where
    is : size ≡ stated_length (drop offset old)
    is = e ∙ ap (λ (x : List ℕ). number (take 4 x)) (sym (drop-drop 4 offset old))

    pub list_within : offset + size ≤ length old
    list_within = omega (arith, is, list_stands.within, length-drop offset old, list_room)

    pub list_on : (file' : List ℕ) → file' ≡ sets file (at + 12 * i) (entry_bytes (entry i offset size)) → Listed file₀ old at n file' (offset + size) (i + 1)
    list_on file' q =
        let place = at + 12 * i in
        let next-place : at + 12 * (i + 1) ≡ place + length (entry_bytes (entry i offset size)) = omega (arith, length-entry (entry i offset size)) in
        let bs = drop offset old in
        let x = take (stated_length bs) bs in
        let lx : length x ≡ size = length-take-le _ bs list_stands.within ∙ sym is in
        let behind : drop (stated_length bs) bs ≡ drop (offset + size) old = rw (← is) (drop-drop size offset old) in
        let next = rw behind at (next-block bs i (omega (arith, g.few)) (whole-stands bs list_stands)) in
        let ent = entry_bytes (entry i offset size) in
        let rest = entries_from old (i + 1) (offset + size) in
        record {
          upto = omega arith;
          few = g.few;
          long = ap length q ∙ length-sets file place ent ∙ g.long;
          left = omega (arith, g.left, ap length next);
          same = rw (q, next-place)
              (sym (sets-append file place ent rest)
              ∙ sym (ap (λ (l : List (List ℕ)). sets file place (directory_bytes (entries_of offset (numbered i l)))) next ∙ rw lx refl)
              ∙ g.same);
        }

pub list_ends : (file₀ old : List ℕ) (at n : ℕ) (file : List ℕ) (offset i : ℕ) → n ≤ i → Listed file₀ old at n file offset i → file ≡ sets file₀ at (entries_from old 0 0)
list_ends file₀ old at n file offset i h g = finish (whole_blocks (1024 - i) (drop offset old)) g.left g.same
  where
    finish : (bs : List (List ℕ)) → length bs + i ≡ n → sets file (at + 12 * i) (directory_bytes (entries_of offset (numbered i bs))) ≡ sets file₀ at (entries_from old 0 0) → file ≡ sets file₀ at (entries_from old 0 0)
    finish [] e q = q
    finish (b ∷ bs) e q = absurd (omega arith)
