-- Checks in order, and what is left.
use mathlib.Core.Path.{◌≡◌, refl, sym, ap, ◌∙◌}
use mathlib.Core.List.{List, [], ◌∷◌, ◌++◌}
use mathlib.Core.Bool.{Bool, true, false, ◌&&◌, true≢false, false≢true}
use Prim.Native.Nat.{ℕ, zero, suc, ◌+◌, ◌-◌, ◌≤◌, ◌<◌}
use native.Mathlib.Omega.{arith}
use native.Mathlib.Nat.{zero-add}
use lib.ListN.{length, get_or, drop, length-append}
use lib.Seq.{sets, sets-eq, get_or-append-add, get_or-drop}
use Rattle.answers.specs.Answers.{unless, first_failure, afterwards, over}

-- ---- a check

pub unless-passes : (test : Bool) (k : ℕ) → test ≡ true → unless test k ≡ 0
unfolding unless
unless-passes true k e = refl
unless-passes false k e = absurd (false≢true e)

pub unless_fails : (test : Bool) (k : ℕ) → test ≡ false → k ≡ unless test k
unfolding unless
unless_fails false k e = refl
unless_fails true k e = absurd (true≢false e)

pub unless_holds : (test : Bool) (k : ℕ) → unless test k ≡ 0 → 0 < k → test ≡ true
unfolding unless
unless_holds true k e h = refl
unless_holds false k e h = absurd (omega arith)

-- a test of two: both hold
pub both_hold : (p q : Bool) → (p && q) ≡ true → (p ≡ true) × (q ≡ true)
both_hold true q e = (refl, e)
both_hold false q e = absurd (false≢true e)

-- ---- checks in order

pub all_pass : 0 ≡ first_failure []
unfolding first_failure
all_pass = refl

pub fails_later : (k n : ℕ) (ks : List ℕ) → k ≡ 0 → n ≡ first_failure ks → n ≡ first_failure (k ∷ ks)
unfolding first_failure
fails_later zero n ks h e = e
fails_later (suc k) n ks h e = absurd (omega arith)

pub fails_here : (k n : ℕ) (ks : List ℕ) → n ≡ k → (n ≡ 0 → ⊥) → n ≡ first_failure (k ∷ ks)
unfolding first_failure
fails_here zero n ks e h = absurd (h e)
fails_here (suc k) n ks e h = e

-- the last check decides
pub last_decides : (k : ℕ) → k ≡ first_failure (k ∷ [])
unfolding first_failure
last_decides zero = refl
last_decides (suc k) = refl

-- a check that holds is passed by, and one that fails stops
pub passes : (test : Bool) (k n : ℕ) (ks : List ℕ) → test ≡ true → n ≡ first_failure ks → n ≡ first_failure (unless test k ∷ ks)
passes test k n ks e f = fails_later _ _ _ (unless-passes test k e) f

pub stops : (test : Bool) (k : ℕ) (ks : List ℕ) → test ≡ false → 0 < k → k ≡ first_failure (unless test k ∷ ks)
stops test k ks e h = fails_here _ _ _ (unless_fails test k e) (λ z. omega arith)

-- nothing fails: the first check holds, and nothing fails after it
pub none_fails : (k : ℕ) (ks : List ℕ) → first_failure (k ∷ ks) ≡ 0 → (k ≡ 0) × (first_failure ks ≡ 0)
unfolding first_failure
none_fails zero ks e = (refl, e)
none_fails (suc k) ks e = absurd (omega arith)

-- numbers that are at most m, answered in order
pub none_above : (m : ℕ) → first_failure [] ≤ m
unfolding first_failure
none_above m = omega arith

pub at_most : (test : Bool) (k m : ℕ) (ks : List ℕ) → k ≤ m → first_failure ks ≤ m → first_failure (unless test k ∷ ks) ≤ m
unfolding unless first_failure
at_most true k m ks h l = l
at_most false zero m ks h l = l
at_most false (suc k) m ks h l = h

-- ---- what is left

pub afterwards-new : {A : Type 0} (k : ℕ) (new old : A) → k ≡ 0 → afterwards k new old ≡ new
unfolding afterwards
afterwards-new zero new old e = refl
afterwards-new (suc k) new old e = absurd (omega arith)

pub afterwards-old : {A : Type 0} (k : ℕ) (new old : A) → (k ≡ 0 → ⊥) → afterwards k new old ≡ old
unfolding afterwards
afterwards-old zero new old h = absurd (h refl)
afterwards-old (suc k) new old h = refl

-- stores from the first place on, within the list
pub sets_over : (vs l : List ℕ) → length vs ≤ length l → sets l 0 vs ≡ over vs l
sets_over vs l h = sets-eq vs l 0 (omega arith) ∙ ap (λ (k : ℕ). vs ++ drop k l) (zero-add (length vs))

-- beyond the result stands the old content
pub over-beyond : (result old : List ℕ) (i d : ℕ) → length result ≤ i → get_or (over result old) i d ≡ get_or old i d
over-beyond result old i d h =
    let n : length result + (i - length result) ≡ i = omega arith in
    ap (λ (k : ℕ). get_or (over result old) k d) (sym n)
    ∙ get_or-append-add result (drop (length result) old) (i - length result) d
    ∙ get_or-drop (length result) old (i - length result) d
    ∙ ap (λ (k : ℕ). get_or old k d) n

-- what a call tells of its result's length is within the output that it leaves, refused or not
pub told-within : (k : ℕ) (result old : List ℕ) → afterwards k (length result) 0 ≤ length (afterwards k (over result old) old)
unfolding afterwards
told-within zero result old = omega (arith, length-append result (drop (length result) old))
told-within (suc k) result old = omega arith
