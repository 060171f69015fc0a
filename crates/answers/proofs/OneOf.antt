-- Which numbers a list of checks can answer: 0 and those that its checks name.
use mathlib.Core.Path.{◌≡◌, refl}
use mathlib.Core.List.{List, [], ◌∷◌, Mem, mem-cons_self, mem-cons_of_mem, mem-cast, not-mem-nil, eq-or-mem_of_mem-cons, Mem-prop}
use mathlib.Core.Logic.Or
use mathlib.Core.Bool.{Bool, true, false, ◌||◌, ◌&&◌, false≢true}
use Prim.Native.Nat.{ℕ, zero, suc}
use lib.Dec.{eqb}
use borrow.Author.Tests.{eqb-true}
use Rattle.answers.specs.Answers.{unless, first_failure}
use Rattle.answers.proofs.Checks.{both_hold}

-- ---- one of a list, by a test

-- whether a number is one of a list
abbrev pub is_one_of : ℕ → List ℕ → Bool
is_one_of n [] = false
is_one_of n (k ∷ ks) = eqb n k || is_one_of n ks

-- whether each of a list is one of another
abbrev pub all_one_of : List ℕ → List ℕ → Bool
all_one_of [] ls = true
all_one_of (k ∷ ks) ls = is_one_of k ls && all_one_of ks ls

one_holds : {A : Type 0} (p q : Bool) → (p || q) ≡ true → (p ≡ true → A) → (q ≡ true → A) → A
one_holds true q e f g = f refl
one_holds false q e f g = g e

is_one_of_lem : (n : ℕ) (ks : List ℕ) → is_one_of n ks ≡ true → Mem n ks
is_one_of_lem n [] e = absurd (false≢true e)
is_one_of_lem n (k ∷ ks) e = one_holds (eqb n k) (is_one_of n ks) e (λ q. mem-cast (eqb-true n k q) mem-cons_self) (λ q. mem-cons_of_mem k (is_one_of_lem n ks q))

-- one of a list is one of a longer one
pub one_of_more : {n : ℕ} (ks ls : List ℕ) → Mem n ks → all_one_of ks ls ≡ true → Mem n ls
one_of_more [] ls m e = absurd (not-mem-nil m)
one_of_more (k ∷ ks) ls m e =
    let a = both_hold (is_one_of k ls) (all_one_of ks ls) e in
    Or.elim Mem-prop (eq-or-mem_of_mem-cons m) (λ q. mem-cast q (is_one_of_lem k ls a.0)) (λ r. one_of_more ks ls r a.1)

-- ---- checks in order

-- no check is left
pub no_check_one_of : (ks : List ℕ) → Mem (first_failure []) (0 ∷ ks)
unfolding first_failure
no_check_one_of ks = mem-cons_self

-- a verdict, and then the others
pub verdict_one_of : (k : ℕ) (ks : List ℕ) {ls : List ℕ} → Mem k ls → Mem (first_failure ks) ls → Mem (first_failure (k ∷ ks)) ls
unfolding first_failure
verdict_one_of zero ks m r = r
verdict_one_of (suc k) ks m r = m

-- a check alone
pub unless_one_of : (test : Bool) (k : ℕ) {ls : List ℕ} → is_one_of k ls ≡ true → Mem (unless test k) (0 ∷ ls)
unfolding unless
unless_one_of true k e = mem-cons_self
unless_one_of false k {ls} e = mem-cons_of_mem 0 (is_one_of_lem k ls e)

-- a check, and then the others
pub check_one_of : (test : Bool) (k : ℕ) (ks : List ℕ) {ls : List ℕ} → Mem (first_failure ks) (0 ∷ ls) → is_one_of k ls ≡ true → Mem (first_failure (unless test k ∷ ks)) (0 ∷ ls)
check_one_of test k ks r e = verdict_one_of _ ks (unless_one_of test k e) r
