-- How many residual bytes codes have, added up; the filler.
use mathlib.Core.Path.{◌≡◌, refl}
use mathlib.Core.List.{List, [], ◌∷◌}
use mathlib.Core.Bool.{true}
use Prim.Native.Nat.{ℕ, ◌+◌, ◌-◌, ◌/◌, ◌%◌}
use native.Mathlib.Omega.{arith}
use lib.Dec.{eqb}
use lib.ListN.{get_or, drop}
use borrow.Author.Tests.{eq-eqb, ne_eqb}
use Rattle.std.specs.List.{sum_by}
use Rattle.std.proofs.lemmas.List.Sums.{sum_by-cons}
use Rattle.block_rules.specs.Codes.{written}
use Rattle.block_rules.specs.Block.{count, halves, last_half, residual_length}
use Rattle.block_rules.specs.Numbers.{filler_stands}
use Rattle.block_rules.proofs.Codes.{written_is}

pub both_written : (byte : ℕ) → 16 - byte / 16 % 8 - byte / 16 % 8 / 4 - byte % 8 - byte % 8 / 4 ≡ written (byte / 16) + written (byte % 16)
both_written byte =
    let e : byte % 16 % 8 ≡ byte % 8 = omega arith in
    left (byte / 16 % 8) (byte % 8) _ _ (written_is (byte / 16)) (rw e at (written_is (byte % 16)))
  where
    left : (h l wh wl : ℕ) → wh + h + h / 4 ≡ 8 → wl + l + l / 4 ≡ 8 → 16 - h - h / 4 - l - l / 4 ≡ wh + wl
    left h l wh wl p q = omega arith

pub lengths_added : (cs : List ℕ) → residual_length cs ≡ sum_by written cs
lengths_added [] = refl
lengths_added (c ∷ cs) = omega (arith, lengths_added cs, sum_by-cons written c cs)

-- ---- the filler

pub filler_odd : (b : List ℕ) (n h : ℕ) → n ≡ count b → n % 2 ≡ 1 → h ≡ get_or (halves (drop 8 b)) n 0 → eqb h 7 ≡ filler_stands b
unfolding filler_stands last_half
filler_odd b n h e o p = rw (← e, eq-eqb (n % 2) 1 o, p)

pub filler_even : (b : List ℕ) (n : ℕ) → n ≡ count b → (n % 2 ≡ 1 → ⊥) → true ≡ filler_stands b
unfolding filler_stands
filler_even b n e o = rw (← e, ne_eqb (n % 2) 1 o)
