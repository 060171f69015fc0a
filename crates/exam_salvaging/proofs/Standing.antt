-- The walk over the blocks that stand whole, one a turn.
use mathlib.Core.Path.{◌≡◌, refl, sym, ap, ◌∙◌}
use mathlib.Core.List.{List, [], ◌∷◌}
use mathlib.Core.Bool.{true, false}
use Prim.Native.Nat.{ℕ, suc, ◌+◌, ◌-◌, ◌≤◌, ◌<◌}
use native.Mathlib.Omega.{arith}
use lib.Dec.{leb}
use lib.ListN.{length, take, drop, length-append, length-drop}
use lib.Seq.{drop-drop, length-take-le}
use borrow.Author.Tests.{leb-true, leb-false}
use Rattle.words.proofs.Tests.{either}
use Rattle.block_rules.specs.Block.{stated_length}
use Rattle.block_rules.specs.Numbers.{block_number}
use Rattle.exam_rules.specs.Pieces.{blocks_of}
use Rattle.exam_rules.specs.Salvage.{block_stands, whole_blocks, numbered}
use Rattle.exam_rules.proofs.Salvage.{StandsWhole, stands-whole, whole-stands, stands-long}
use Rattle.std.specs.Result.{is_err}
use Rattle.std.proofs.Common.{None, Some, Result, Ok, Err}
use Rattle.answers.specs.Refusals.{number_told}
use Rattle.answers.specs.declared.Refusal.{Refusal}
use Rattle.answers.proofs.Told.{refuses}
use Rattle.block_rules.specs.Calls.{checked, checked_told, Checked}
use Rattle.block_rules.proofs.Accept.{checks-number}
use Rattle.exam_salvaging.specs.Inside.{standing_size, FoundIn}

-- ---- the size of a block that stands at a place

falls : (bs : List ℕ) → (StandsWhole bs → ⊥) → None ≡ standing_size bs
unfolding standing_size
falls bs h = either (block_stands bs) (λ q. absurd (h (stands-whole bs q))) (λ q. rw q)

pub too_few : (bs : List ℕ) → length bs < 8 → None ≡ standing_size bs
too_few bs h = falls bs (λ s. omega (arith, s.within, stands-long bs s))

pub beyond-end : (bs : List ℕ) (size : ℕ) → size ≡ stated_length bs → length bs < size → None ≡ standing_size bs
beyond-end bs size e h = falls bs (λ s. omega (arith, s.within))

-- what check answers for a block tells its number
pub check_tells : (b : List ℕ) (r : Result ℕ Refusal) → checked_told r ≡ checked b → number_told r ≡ block_number b
check_tells b r e = ap (λ (x : Checked). x.number) e ∙ checks-number b

pub check_fails : (b : List ℕ) (r : Result ℕ Refusal) → checked_told r ≡ checked b → true ≡ is_err r → block_number b ≡ 0 → ⊥
check_fails b (Ok n) e h z = cc
check_fails b (Err x) e h z = refuses x (check_tells b (Err x) e ∙ z)

pub check_passes : (b : List ℕ) (r : Result ℕ Refusal) → checked_told r ≡ checked b → false ≡ is_err r → block_number b ≡ 0
check_passes b (Ok n) e h = sym (check_tells b (Ok n) e)
check_passes b (Err x) e h = cc

pub not_whole : (bs : List ℕ) (size : ℕ) → size ≡ stated_length bs → (block_number (take size bs) ≡ 0 → ⊥) → None ≡ standing_size bs
not_whole bs size e h = falls bs (λ s. h (rw e s.checks))

pub is_whole : (bs : List ℕ) (size : ℕ) → size ≡ stated_length bs → size ≤ length bs → block_number (take size bs) ≡ 0 → Some size ≡ standing_size bs
unfolding standing_size
is_whole bs size e within z =
    let stands = whole-stands bs (record { within = omega (arith, e); checks = rw e at z }) in
    rw (stands, e)

-- what a size tells
size-tells : (bs : List ℕ) (size : ℕ) → Some size ≡ standing_size bs → StandsWhole bs × (size ≡ stated_length bs)
unfolding standing_size
size-tells bs size =
    either (block_stands bs) (λ q. rw q (λ e. (stands-whole bs q, cc))) (λ q. rw q (λ e. cc))

no_size_tells : (bs : List ℕ) → None ≡ standing_size bs → block_stands bs ≡ false
unfolding standing_size
no_size_tells bs = either (block_stands bs) (λ q. rw q (λ e. cc)) (λ q. rw q (λ e. refl))

-- ---- the blocks from a place on, where k were found before

pub next-block : (bs : List ℕ) (k : ℕ) → k < 1024 → block_stands bs ≡ true
    → whole_blocks (1024 - k) bs ≡ take (stated_length bs) bs ∷ whole_blocks (1024 - (k + 1)) (drop (stated_length bs) bs)
unfolding whole_blocks
next-block bs k h q =
    let e : 1024 - k ≡ suc (1024 - (k + 1)) = omega arith in
    rw (e, q)

pub no_next_block : (bs : List ℕ) (k : ℕ) → k < 1024 → block_stands bs ≡ false → whole_blocks (1024 - k) bs ≡ []
unfolding whole_blocks
no_next_block bs k h q =
    let e : 1024 - k ≡ suc (1024 - (k + 1)) = omega arith in
    rw (e, q)

no_more_blocks : (bs : List ℕ) (k : ℕ) → 1024 ≤ k → whole_blocks (1024 - k) bs ≡ []
unfolding whole_blocks
no_more_blocks bs k h =
    let e : 1024 - k ≡ 0 = omega arith in
    rw e

-- ---- the walk

-- k blocks are behind, and what stands from here on is the rest
pub record Walking (old : List ℕ) (k end : ℕ) : Type 0 where
  pub upto : k ≤ 1024
  pub within : end ≤ length old
  pub many : k + length (whole_blocks (1024 - k) (drop end old)) ≡ length (whole_blocks 1024 old)
  pub far : end + length (blocks_of (numbered k (whole_blocks (1024 - k) (drop end old)))) ≡ length (blocks_of (numbered 0 (whole_blocks 1024 old)))

pub walk-starts : (old : List ℕ) → Walking old 0 0
walk-starts old = record { upto = omega arith; within = omega arith; many = omega arith; far = omega arith }

module _ (old : List ℕ) (k end size : ℕ) (w : Walking old k end) (s : Some size ≡ standing_size (drop end old)) where
  pub walk-within : end + size ≤ length old
  walk-within =
      let t = size-tells (drop end old) size s in
      omega (arith, t.0.within, t.1, length-drop end old, w.within)

  pub walk_on : k < 1024 → Walking old (k + 1) (end + size)
  walk_on few =
      let t = size-tells (drop end old) size s in
      let x = take (stated_length (drop end old)) (drop end old) in
      let lx : length x ≡ size = length-take-le _ (drop end old) t.0.within ∙ sym t.1 in
      let behind : drop (stated_length (drop end old)) (drop end old) ≡ drop (end + size) old = rw (← t.1) (drop-drop size end old) in
      let next = rw behind at (next-block (drop end old) k few (whole-stands (drop end old) t.0)) in
      let rest = whole_blocks (1024 - (k + 1)) (drop (end + size) old) in
      record {
        upto = omega arith;
        within = walk-within;
        many = omega (arith, w.many, ap length next);
        far = omega (arith, w.far, ap (λ (l : List (List ℕ)). length (blocks_of (numbered k l))) next, length-append x (blocks_of (numbered (k + 1) rest)), lx);
      }

-- where no block is left the walk has found them all
walk-found : (old : List ℕ) (k end : ℕ) → Walking old k end → whole_blocks (1024 - k) (drop end old) ≡ [] → FoundIn old (record { kept = k; end = end })
walk-found old k end w none =
    record { kept = omega (arith, w.many, ap length none); end = omega (arith, w.far, ap (λ (l : List (List ℕ)). length (blocks_of (numbered k l))) none) }

pub walk_ends : (old : List ℕ) (k end : ℕ) → 1024 ≤ k → Walking old k end → FoundIn old (record { kept = k; end = end })
walk_ends old k end h w = walk-found old k end w (no_more_blocks (drop end old) k h)

pub walk-stops : (old : List ℕ) (k end : ℕ) → Walking old k end → None ≡ standing_size (drop end old) → FoundIn old (record { kept = k; end = end })
walk-stops old k end w s =
    either (leb 1024 k) (λ q. walk_ends old k end (leb-true 1024 k q) w)
    (λ q. walk-found old k end w (no_next_block (drop end old) k (leb-false 1024 k q) (no_size_tells (drop end old) s)))
