-- Bytes low first, and the number that they make.
use Rattle.std.proofs.Common.{◌≡◌, ℕ, zero, suc, ◌+◌, ◌-◌, ◌*◌, ◌/◌, ◌%◌, ◌^◌, ◌<◌, ◌≤◌, List, [], ◌∷◌, ◌++◌, length, take, drop, refl, ap, ◌∙◌, mul_assoc, div-lt_iff_lt-mul, suc-add, pow-suc, mul-zero, zero-add, rules, arith, get_or-drop, drop-drop, length-drop, length-append, length-take-le, replicate}
use native.Mathlib.Nat.{pow-succ', div-eq_of_lt, add-mul-div_left}
use lib.Seq.{take-nil}
use Rattle.std.proofs.lemmas.List.{drop-replicate}
use Rattle.std.specs.Int.{w64, from_le_bytes, to_le_bytes}
use Rattle.std.proofs.lemmas.Grind.{common_steps}
use Rattle.words.specs.Bytes.{Bytes, low_bytes, number, field}
use Rattle.words.proofs.Zeros.{pow_256}

-- ---- lists of bytes

pub bytes_take : (n : ℕ) (l : List ℕ) → Bytes l → Bytes (take n l)
bytes_take zero l h i = omega arith
bytes_take (suc n) [] h i = omega arith
bytes_take (suc n) (x ∷ l) h zero = h 0
bytes_take (suc n) (x ∷ l) h (suc i) = bytes_take n l (λ k. h (suc k)) i

pub bytes_drop : (n : ℕ) (l : List ℕ) → Bytes l → Bytes (drop n l)
bytes_drop n l h i = rw (get_or-drop n l i 0) (h (n + i))

pub bytes-append : (k l : List ℕ) → Bytes k → Bytes l → Bytes (k ++ l)
bytes-append [] l g h i = h i
bytes-append (x ∷ k) l g h zero = g 0
bytes-append (x ∷ k) l g h (suc i) = bytes-append k l (λ j. g (suc j)) h i

pub bytes_low : (k x : ℕ) → Bytes (low_bytes k x)
bytes_low zero x i = omega arith
bytes_low (suc k) x zero = omega arith
bytes_low (suc k) x (suc i) = bytes_low k (x / 256) i

-- ---- the number that they make

pub length_low : (k x : ℕ) → length (low_bytes k x) ≡ k
length_low zero x = refl
length_low (suc k) x = ap suc (length_low k (x / 256))

-- a number that fits k bytes is read back from them
pub number_low : (k x : ℕ) → x < 256 ^ k → number (low_bytes k x) ≡ x
number_low zero x h = omega arith
number_low (suc k) x h =
    let l : x / 256 < 256 ^ k = (div-lt_iff_lt-mul {k = 256} {x = x} {y = 256 ^ k} (omega arith)).1 (rw pow-suc at h) in
    rw (number_low k (x / 256) l) (omega arith)

-- and k bytes are written back from their number
pub low_number : (k : ℕ) (bs : List ℕ) → Bytes bs → length bs ≡ k → low_bytes k (number bs) ≡ bs
low_number zero [] h l = refl
low_number zero (b ∷ bs) h l = absurd (omega arith)
low_number (suc k) [] h l = absurd (omega arith)
low_number (suc k) (b ∷ bs) h l =
    let e : (b + 256 * number bs) % 256 ≡ b = omega (arith, h 0) in
    let q : (b + 256 * number bs) / 256 ≡ number bs = omega (arith, h 0) in
    rw (e, q) (ap (λ (r : List ℕ). b ∷ r) (low_number k bs (λ i. h (suc i)) (omega arith)))

-- k bytes make a number below 256 ^ k
pub number-below : (k : ℕ) (bs : List ℕ) → Bytes bs → number (take k bs) < 256 ^ k
number-below zero bs h = omega arith
number-below (suc k) [] h = omega (arith, number-below k [] h, pow-suc 256 k)
number-below (suc k) (b ∷ bs) h = rw pow-suc (omega (arith, number-below k bs (λ i. h (suc i)), h 0))

-- ---- a word as the library writes and reads it

pub eight_written : (x : ℕ) → to_le_bytes w64 x ≡ low_bytes 8 x
eight_written x = search rules

eight_read : (bs : List ℕ) → length bs ≡ 8 → from_le_bytes w64 bs ≡ number bs
eight_read bs h = grind (arith, common_steps)

-- zeros behind don't count
number_padded : (bs zeros : List ℕ) → number zeros ≡ 0 → number (bs ++ zeros) ≡ number bs
number_padded [] zeros h = h
number_padded (b ∷ bs) zeros h = rw (number_padded bs zeros h)

number_zeros : (n : ℕ) → number (replicate n 0) ≡ 0
number_zeros zero = refl
number_zeros (suc n) = rw (number_zeros n)

-- a number as the library reads it: from eight bytes, of which those behind the first k are zeros
pub read_padded : (k at : ℕ) (bs part : List ℕ) → part ≡ take k (drop at bs) → at + k ≤ length bs → k ≤ 8 → from_le_bytes w64 (part ++ drop k (replicate 8 0)) ≡ field k at bs
read_padded k at bs part e h l =
    let x = take k (drop at bs) in
    let zeros : List ℕ = drop k (replicate 8 0) in
    let n : length x ≡ k = length-take-le k (drop at bs) (simp length-drop (omega arith)) in
    let all : length (x ++ zeros) ≡ 8 = simp (length-append, length-drop) (omega (arith, n)) in
    rw e (eight_read (x ++ zeros) all ∙ number_padded x zeros (simp drop-replicate (number_zeros (8 - k))))

-- ---- a field in two parts

number-joined : (j k : ℕ) (bs : List ℕ) → number (take (j + k) bs) ≡ number (take j bs) + 256 ^ j * number (take k (drop j bs))
number-joined zero k bs = rw (zero-add k) (omega arith)
number-joined (suc j) k [] = rw (take-nil (suc j + k), take-nil k, mul-zero)
number-joined (suc j) k (b ∷ bs) =
    rw (suc-add j k, pow-succ' 256 j, mul_assoc 256 (256 ^ j) (number (take k (drop j bs)))) (omega (arith, number-joined j k bs))

-- the first j bytes, then the k after them
field-joined : (j k at : ℕ) (bs : List ℕ) → field (j + k) at bs ≡ field j at bs + 256 ^ j * field k (at + j) bs
field-joined j k at bs = number-joined j k (drop at bs) ∙ rw drop-drop

-- a field of k bytes is below 256 ^ k
pub field_below : (k at : ℕ) (bs : List ℕ) → Bytes bs → field k at bs < 256 ^ k
field_below k at bs h = number-below k (drop at bs) (bytes_drop at bs h)

-- of j + k bytes with the first j shifted out, the last k are left
field-last : (j k at : ℕ) (bs : List ℕ) → Bytes bs → field (j + k) at bs / 2 ^ (8 * j) ≡ field k (at + j) bs
field-last j k at bs h =
    let l = field_below j at bs h in
    let p : 0 < 256 ^ j = omega (arith, l) in
    rw (← (pow_256 j), field-joined j k at bs, add-mul-div_left (field j at bs) (field k (at + j) bs) p, div-eq_of_lt l, zero-add)

-- so k bytes are read from the eight that end with them
pub field_shifted : (k at x : ℕ) (bs : List ℕ) → Bytes bs → k ≤ 8 → 8 ≤ at + k → x ≡ field 8 (at - (8 - k)) bs → x / 2 ^ (8 * (8 - k)) ≡ field k at bs
field_shifted k at x bs h l m e =
    let n : 8 - k + k ≡ 8 = omega arith in
    let p : at - (8 - k) + (8 - k) ≡ at = omega arith in
    rw e (rw (n, p) at (field-last (8 - k) k (at - (8 - k)) bs h))
