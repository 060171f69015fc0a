-- Runs of stores into a list: `lib.Seq.sets` asks for no room, so neither do these laws.
use Rattle.std.proofs.Common.{◌≡◌, ℕ, suc, ◌+◌, ◌-◌, ◌/◌, ◌%◌, ◌<◌, ◌≤◌, List, [], ◌∷◌, ◌++◌, length, take, drop, set, sym, refl, ap, ◌∙◌, append_assoc, append-nil, add-zero, add-one, arith, length-drop, take-append-drop, drop-cons, drop_of_length-le, get_or, length-take-le, drop-drop, drop-set-lt}
use lib.Seq.{paste, sets, sets-eq, set_comm, take-set-le, drop-set-add}
use borrow.Rule.Slice.PartMut.{put_mid}
use Rattle.words.specs.Bytes.{low_bytes}
use Rattle.words.proofs.Bytes.{length_low}

pub sets-append : (l : List ℕ) (i : ℕ) (vs ws : List ℕ) → sets l i (vs ++ ws) ≡ sets (sets l i vs) (i + length vs) ws
sets-append l i [] ws = rw (add-zero i)
sets-append l i (v ∷ vs) ws =
    let e : i + suc (length vs) ≡ suc i + length vs = omega arith in
    rw e (sets-append (set l i v) (suc i) vs ws)

-- a store below a run of stores
pub set-sets : (l : List ℕ) (i a j : ℕ) (vs : List ℕ) → i < j → set (sets l j vs) i a ≡ sets (set l i a) j vs
set-sets l i a j [] h = refl
set-sets l i a j (v ∷ vs) h =
    set-sets (set l j v) i a (suc j) vs (omega arith) ∙ ap (λ (x : List ℕ). sets x (suc j) vs) (set_comm l j i v a (λ e. omega arith))

-- a run of stores below a run of stores
pub sets-sets : (l : List ℕ) (i : ℕ) (us : List ℕ) (j : ℕ) (vs : List ℕ) → i + length us ≤ j → sets (sets l j vs) i us ≡ sets (sets l i us) j vs
sets-sets l i [] j vs h = refl
sets-sets l i (u ∷ us) j vs h =
    ap (λ (x : List ℕ). sets x (suc i) us) (set-sets l i u j vs (omega arith)) ∙ sets-sets (set l i u) (suc i) us j vs (omega arith)

-- what lies below a run of stores is as it was
pub kept-below : (l : List ℕ) (j : ℕ) (vs : List ℕ) (i m : ℕ) → i + m ≤ j → take m (drop i (sets l j vs)) ≡ take m (drop i l)
kept-below l j [] i m h = refl
kept-below l j (v ∷ vs) i m h =
    let e : j ≡ i + (j - i) = omega arith in
    kept-below (set l j v) (suc j) vs i m (omega arith)
    ∙ ap (λ (k : ℕ). take m (drop i (set l k v))) e
    ∙ ap (λ (x : List ℕ). take m x) (drop-set-add i l (j - i) v)
    ∙ take-set-le m (drop i l) (j - i) v (omega arith)

-- and what lies above it
pub kept_above : (l : List ℕ) (j : ℕ) (vs : List ℕ) (i : ℕ) → j + length vs ≤ i → drop i (sets l j vs) ≡ drop i l
kept_above l j [] i h = refl
kept_above l j (v ∷ vs) i h = kept_above (set l j v) (suc j) vs i (omega arith) ∙ drop-set-lt i l j v (omega arith)

-- what a write to a part of a list leaves is a run of stores
pub part_written : (l : List ℕ) (i k : ℕ) (part vs : List ℕ) → part ≡ vs → k ≡ length vs → i + k ≤ length l → put_mid i k l part ≡ sets l i vs
part_written l i k part vs e n h = rw (e, drop-drop k i l, n, sets-eq vs l i (omega arith)) (sym (append_assoc (take i l) vs (drop (i + length vs) l)))

-- and so is what a copy within it leaves
pub part_moved : (l : List ℕ) (from to n m : ℕ) → m ≡ n → from + n ≤ length l → to + n ≤ length l → paste l to (drop from l) m ≡ sets l to (take n (drop from l))
part_moved l from to n m e h g =
    let x = take n (drop from l) in
    let w : length x ≡ n = length-take-le n (drop from l) (simp length-drop (omega arith)) in
    rw (e, sets-eq x l to (omega arith), w)

-- ---- copying bytes, one a turn

pub copy_more : (out src : List ℕ) (at i : ℕ) (whole : List ℕ) → i < length src → sets out (at + i) (drop i src) ≡ whole
    → sets (set out (at + i) (get_or src i 0)) (at + (i + 1)) (drop (i + 1) src) ≡ whole
copy_more out src at i whole h p =
    let e : at + (i + 1) ≡ suc (at + i) = omega arith in
    rw (e, add-one) (rw (drop-cons src i 0 h) at p)

-- ---- writing a number's bytes, one a turn

pub put_none : (part vs : List ℕ) → length vs ≡ length part → sets part 0 vs ≡ vs
put_none part vs h = rw (sets-eq vs part 0 (omega arith), drop_of_length-le part {i = 0 + length vs} (omega arith), append-nil)

pub put_more : (part : List ℕ) (j k x : ℕ) (whole : List ℕ) → j < k → sets part j (low_bytes (k - j) x) ≡ whole
    → sets (set part j (x % 256)) (j + 1) (low_bytes (k - (j + 1)) (x / 256)) ≡ whole
put_more part j k x whole h p =
    let e : k - j ≡ suc (k - suc j) = omega arith in
    rw add-one (rw e at p)

-- one run of stores after another
pub join : (b c d xs ys : List ℕ) (i j : ℕ) → c ≡ sets b i xs → d ≡ sets c j ys → j ≡ i + length xs → d ≡ sets b i (xs ++ ys)
join b c d xs ys i j p q e = q ∙ rw (p, e) (sym (sets-append b i xs ys))

-- the bytes at a place, put there again, change nothing: so nothing has to be
-- done for bytes that stay where they are
pub put_again : (b : List ℕ) (at k : ℕ) → at + k ≤ length b → sets b at (take k (drop at b)) ≡ b
put_again b at k h =
    let x = take k (drop at b) in
    let n : length x ≡ k = length-take-le k (drop at b) (simp length-drop (omega arith)) in
    sets-eq x b at (omega arith)
    ∙ append_assoc (take at b) x (drop (at + length x) b)
    ∙ ap (λ (y : List ℕ). take at b ++ y) (rw (n, ← (drop-drop k at b)) (take-append-drop k (drop at b)))
    ∙ take-append-drop at b

-- for what a function writes to a part of a slice
pub ruleset stores = (part_written, part_moved, put_none, put_more, length_low, copy_more, put_again)

-- what a block pushes on, and then the block
pub put_before : (b c d xs ys : List ℕ) (at : ℕ) → c ≡ sets b (at + length xs) ys → d ≡ sets c at xs → d ≡ sets b at (xs ++ ys)
put_before b c d xs ys at p q =
    let under : d ≡ sets (sets b at xs) (at + length xs) ys = q ∙ ap (λ (x : List ℕ). sets x at xs) p ∙ sets-sets b at xs (at + length xs) ys (omega arith) in
    join b (sets b at xs) d xs ys at (at + length xs) refl under refl
