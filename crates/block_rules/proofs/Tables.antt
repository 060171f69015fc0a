-- A table's length and its t. Nothing else opens `t_of` and `is_table_length`.
use mathlib.Core.Path.{◌≡◌, refl, sym, ap, ◌∙◌}
use mathlib.Core.Bool.{false}
use Prim.Native.Nat.{ℕ, zero, suc, ◌*◌, ◌/◌, ◌%◌, ◌^◌, ◌≤◌, ◌<◌}
use native.Mathlib.Omega.{arith}
use native.Mathlib.Nat.{pow-suc, one-mul}
use lib.Count.{count_trailing_zeros}
use lib.Dec.{leb, eqb}
use lib.Pow.{pow_pos, shl_exact}
use borrow.Author.Tests.{leb-true, eqb-true, le-leb, eq-eqb, lt-leb}
use Rattle.answers.proofs.Checks.{unless-passes, unless_holds, both_hold, all_pass, fails_later, none_fails}
use Rattle.block_rules.specs.Numbers.{t_of, is_table_length, tables_number}
use Rattle.block_rules.specs.Inside.{Sized}

zeros-below : (k t : ℕ) → t < k → count_trailing_zeros k (2 ^ t) ≡ t
unfolding count_trailing_zeros
zeros-below zero t h = absurd (omega arith)
zeros-below (suc k) zero h = refl
zeros-below (suc k) (suc t) h =
    let e : 2 ^ suc t / 2 ≡ 2 ^ t = rw pow-suc (omega arith) in
    let f : 2 ^ suc t % 2 ≡ 0 = rw pow-suc (omega arith) in
    rw (f, e) (ap suc (zeros-below k t (omega arith)))

-- the t of a table of 2 ^ t words is t
pub t_of_power : (t : ℕ) → t ≤ 16 → t_of (2 ^ t) ≡ t
unfolding t_of
t_of_power t h = zeros-below 64 t (omega arith)

pub sized-power : (t f d : ℕ) → t ≤ 16 → f ≡ 2 ^ t → d ≡ f → Sized f d
sized-power t f d h e s =
    let q : t_of f ≡ t = ap t_of e ∙ t_of_power t h in
    record { small = rw q h; power = rw q e; same = s }

pub sized-some : (f d : ℕ) → Sized f d → 0 < f
sized-some f d s = omega (arith, s.power, pow_pos (t_of f))

-- ---- the test

pub shifted_one : (t : ℕ) → t ≤ 16 → 1 * 2 ^ t % 2 ^ 64 ≡ 2 ^ t
shifted_one t h = shl_exact 1 t 64 (omega arith) (omega arith) ∙ one-mul (2 ^ t)

pub table_too_long : (n t : ℕ) → t ≡ count_trailing_zeros 64 n → 16 < t → false ≡ is_table_length n
unfolding t_of is_table_length
table_too_long n t e h = rw (lt-leb (count_trailing_zeros 64 n) 16 (omega arith))

pub table_is_power : (n t : ℕ) → t ≡ count_trailing_zeros 64 n → t ≤ 16 → eqb n (1 * 2 ^ t % 2 ^ 64) ≡ is_table_length n
unfolding t_of is_table_length
table_is_power n t e h =
    let p : 1 * 2 ^ t % 2 ^ 64 ≡ 2 ^ t = shl_exact 1 t 64 (omega arith) (omega arith) ∙ omega arith in
    rw (p, e, le-leb (count_trailing_zeros 64 n) 16 (omega arith))

-- ---- what the test tells

pub tables-sized : (f d : ℕ) → tables_number f d ≡ 0 → Sized f d
unfolding tables_number is_table_length
tables-sized f d e =
    let a = none_fails _ _ e in
    let l = both_hold (leb (t_of f) 16) (eqb f (2 ^ t_of f)) (unless_holds _ _ (none_fails _ _ a.1).0 (omega arith)) in
    record {
      small = leb-true _ _ l.0;
      power = eqb-true _ _ l.1;
      same = sym (eqb-true f d (unless_holds _ _ a.0 (omega arith)));
    }

pub sized-tables : (f d : ℕ) → Sized f d → 0 ≡ tables_number f d
unfolding tables_number is_table_length
sized-tables f d s =
    fails_later _ _ _ (unless-passes _ _ (eq-eqb f d (sym s.same)))
    (fails_later _ _ _ (unless-passes _ _ (rw (le-leb (t_of f) 16 s.small, eq-eqb f (2 ^ t_of f) s.power))) all_pass)
