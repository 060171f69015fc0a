-- What a call answers that makes or changes a file, and what it puts.
use mathlib.Core.Path.{◌≡◌, refl, sym, ◌∙◌, ap, ap₂}
use mathlib.Core.List.{List, [], ◌++◌, append_assoc}
use Prim.Native.Nat.{ℕ, ◌≤◌, ◌+◌, ◌-◌}
use native.Mathlib.Omega.{arith}
use lib.Dec.{leb}
use lib.ListN.{length, replicate, take, drop, length-append, length-drop, length-replicate, replicate-append-replicate}
use lib.Seq.{sets, length-take-le, sets-eq, take-append_seam, drop-append-add, drop_at, drop-drop}
use borrow.Author.Tests.{leb-true, leb-false}
use Rattle.words.proofs.Tests.{either}
use Rattle.answers.specs.Answers.{over}
use Rattle.answers.proofs.Checks.{afterwards-new, afterwards-old}
use Rattle.exam_rules.specs.File.{File, file_length, file_bytes, directory_bytes, trailer_bytes}
use Rattle.exam_rules.specs.Calls.{made, Changes, appends_number, Appends, Made}
use Rattle.exam_rules.proofs.Lengths.{length-file}

pub change_refused : (k n : ℕ) (f : File) (b : List ℕ) → n ≡ k → (n ≡ 0 → ⊥) → Changes k f b (record { number = n; length = 0 }) b
unfolding made
change_refused k n f b e h =
    let r : k ≡ 0 → ⊥ = λ z. h (e ∙ z) in
    record { answer = cc (afterwards-old _ (file_length f) 0 r); file_left = sym (afterwards-old _ _ b r) }

-- so an append that is refused
pub append-stopped : (b : List ℕ) (l exam slot : ℕ) (words fcm dfcm bench : List ℕ) (n : ℕ) → n ≡ appends_number b l exam slot words fcm dfcm bench → (n ≡ 0 → ⊥)
    → Appends b l exam slot words fcm dfcm bench (record { number = n; length = 0 }) b fcm dfcm bench
append-stopped b l exam slot words fcm dfcm bench n e h =
    let r : appends_number b l exam slot words fcm dfcm bench ≡ 0 → ⊥ = λ z. h (e ∙ z) in
    record { file = change_refused _ _ _ _ e h; fcm_left = sym (afterwards-old _ _ fcm r); dfcm_left = sym (afterwards-old _ _ dfcm r); bench_left = sym (afterwards-old _ _ bench r) }

pub change_done : (k l : ℕ) (f : File) (b b' : List ℕ) → k ≡ 0 → l ≡ file_length f → b' ≡ over (file_bytes f) b → Changes k f b (record { number = 0; length = l }) b'
unfolding made
change_done k l f b b' z e q = record { answer = cc (afterwards-new _ (file_length f) 0 z); file_left = q ∙ sym (afterwards-new _ _ b z) }

pub change_one_answer : {k : ℕ} {f : File} {b b₁ b₂ : List ℕ} {r₁ r₂ : Made} → Changes k f b r₁ b₁ → Changes k f b r₂ b₂ → (r₁ ≡ r₂) × (b₁ ≡ b₂)
change_one_answer p q = (p.answer ∙ sym q.answer, p.file_left ∙ sym q.file_left)

pub changes_number : {k : ℕ} {f : File} {b b' : List ℕ} {r : Made} → Changes k f b r b' → r.number ≡ k
unfolding made
changes_number c = ap (λ (x : Made). x.number) c.answer

pub changes_none : {k : ℕ} {f : File} {b b' : List ℕ} {r : Made} → Changes k f b r b' → (r.number ≡ 0 → ⊥) → r.length ≡ 0
unfolding made
changes_none c h = ap (λ (x : Made). x.length) c.answer ∙ afterwards-old _ _ 0 (λ z. h (changes_number c ∙ z))

-- ---- bytes put from a place on

-- Where the body of a file begins with what stands before a place, the rest of the body, the directory and the trailer, put from that place on, make the file.
pub makes : (b b' x : List ℕ) (f : File) (s : ℕ) (rest : List ℕ) → s ≤ length b → f.body ≡ take s b ++ rest → file_length f ≤ length b
    → x ≡ rest ++ (directory_bytes f.entries ++ trailer_bytes f.edition f.t f.exam (length f.entries) (file_length f)) → b' ≡ sets b s x
    → b' ≡ over (file_bytes f) b
unfolding file_bytes
makes b b' x f s rest h body room e q =
    let end = directory_bytes f.entries ++ trailer_bytes f.edition f.t f.exam (length f.entries) (file_length f) in
    let whole : file_bytes f ≡ take s b ++ x =
    append_assoc f.body (directory_bytes f.entries) _ ∙ ap (λ (y : List ℕ). y ++ end) body ∙ append_assoc (take s b) rest end ∙ ap (λ (y : List ℕ). take s b ++ y) (sym e) in
    let long : length (file_bytes f) ≡ s + length x = ap length whole ∙ length-append (take s b) x ∙ ap (λ (k : ℕ). k + length x) (length-take-le s b h) in
    q ∙ sets-eq x b s (omega (arith, long, length-file f)) ∙ ap₂ (λ (y : List ℕ) (k : ℕ). y ++ drop k b) (sym whole) (sym long)

-- ---- bytes beyond a shorter file

-- what is left over of l bytes, behind x
zeros-beyond : (x b : List ℕ) (l : ℕ) (z r : List ℕ) → z ≡ replicate l 0 → r ≡ replicate (l - length x) 0 → drop (length x) (z ++ drop l b) ≡ r ++ drop (length x + length r) b
zeros-beyond x b l z r ez er =
    let n = length x in
    let lz : length z ≡ l = ap length ez ∙ length-replicate l 0 in
    let lr : length r ≡ l - n = ap length er ∙ length-replicate (l - n) 0 in
    either (leb n l)
    (λ q.
    let h = leb-true n l q in
    let whole : n + (l - n) ≡ l = omega arith in
    let parts : z ≡ replicate n 0 ++ r = ez ∙ rw er (ap (λ (k : ℕ). replicate k 0) (sym whole) ∙ sym (replicate-append-replicate n (l - n) 0)) in
    let end : n + length r ≡ l = omega (arith, lr) in
    ap (λ (y : List ℕ). drop n (y ++ drop l b)) parts
    ∙ ap (λ (y : List ℕ). drop n y) (append_assoc (replicate n 0) r (drop l b))
    ∙ drop_at (replicate n 0) (r ++ drop l b) n (length-replicate n 0)
    ∙ ap (λ (k : ℕ). r ++ drop k b) (sym end))
    (λ q.
    let h = leb-false n l q in
    let no_more : l - n ≡ 0 = omega arith in
    let none : r ≡ [] = er ∙ ap (λ (k : ℕ). replicate k 0) no_more in
    let on : n ≡ length z + (n - l) = omega (arith, lz) in
    let there : l + (n - l) ≡ n + length r = omega (arith, lr) in
    ap (λ (k : ℕ). drop k (z ++ drop l b)) on
    ∙ drop-append-add z (drop l b) (n - l)
    ∙ drop-drop (n - l) l b
    ∙ ap₂ (λ (y : List ℕ) (k : ℕ). y ++ drop k b) (sym none) there)

-- Where a buffer holds x and then what an old one holds beyond l bytes, and the bytes between the end of x and those l become 0, it holds x over 0s over
-- the old one.
pub wipes : (b c d x : List ℕ) (l : ℕ) → length x ≤ length b → l ≤ length b → length c ≡ length b → drop l c ≡ drop l b
    → d ≡ sets (over x c) (length x) (replicate (l - length x) 0) → d ≡ over x (over (replicate l 0) b)
wipes b c d x l hx hl long same q =
    let n = length x in
    let r : List ℕ = replicate (l - n) 0 in
    let lr : length r ≡ l - n = length-replicate (l - n) 0 in
    let m = n + length r in
    let lc : length (drop n c) ≡ length c - n = length-drop n c in
    let on : l + (m - l) ≡ m = omega (arith, lr) in
    let beyond : drop m c ≡ drop m b =
    ap (λ (k : ℕ). drop k c) (sym on) ∙ sym (drop-drop (m - l) l c) ∙ ap (λ (y : List ℕ). drop (m - l) y) same ∙ drop-drop (m - l) l b ∙ ap (λ (k : ℕ). drop k b) on in
    let stored : sets (over x c) n r ≡ x ++ r ++ drop m c =
    sets-eq r (over x c) n (omega (arith, length-append x (drop n c)))
    ∙ ap₂ (λ (y w : List ℕ). y ++ r ++ w) (take-append_seam x (drop n c)) (drop-append-add x (drop n c) (length r) ∙ drop-drop (length r) n c) in
    let z : List ℕ = replicate l 0 in
    let lz : length z ≡ l = length-replicate l 0 in
    q
    ∙ stored
    ∙ append_assoc x r (drop m c)
    ∙ ap (λ (y : List ℕ). x ++ y) (ap (λ (y : List ℕ). r ++ y) beyond ∙ sym (zeros-beyond x b l z r refl refl))
    ∙ ap (λ (k : ℕ). x ++ drop n (z ++ drop k b)) (sym lz)
