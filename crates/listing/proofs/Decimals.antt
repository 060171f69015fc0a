-- Decimal digits: those of the library, how many there are, and what they read as. Nothing else but the claims opens `decimal`.
use mathlib.Core.Path.{◌≡◌, refl}
use mathlib.Core.List.{List, [], ◌∷◌, ◌++◌}
use Prim.Native.Nat.{ℕ, zero, suc, ◌+◌, ◌-◌, ◌*◌, ◌/◌, ◌%◌, ◌^◌, ◌≤◌, ◌<◌}
use native.Mathlib.Omega.{arith}
use lib.Dec.{ltb}
use lib.ListN.{length, get_or, length-append, get_or-append}
use borrow.Author.Tests.{lt-ltb, le-ltb, ltb-true}
use Rattle.std.specs.Fmt.{decimal as std_decimal}
use Rattle.std.proofs.lemmas.Fmt.{AppendsLastDigit, decimal_from_appends_wide, decimal_by_steps_wide, length-decimal-le_wide}
use Rattle.words.proofs.Tests.{either}
use Rattle.listing.specs.Text.{digit, decimal_of, decimal}

-- ---- the library's digits of a number are the same

appends_last : AppendsLastDigit decimal_of
appends_last = record { one = λ k n h. rw (lt-ltb n 10 h); more = λ k n h. rw (le-ltb n 10 h) }

pub decimal-is : (n : ℕ) → n < 10 ^ 20 → decimal n ≡ std_decimal n
unfolding decimal
decimal-is n h = decimal_from_appends_wide decimal_of appends_last 20 n (omega arith) (length-decimal-le_wide 20 n (omega arith) h (omega arith))

-- a number below 10 ^ k has at most k digits
pub decimal-at_most : (k n : ℕ) → 0 < k → n < 10 ^ k → n < 10 ^ 20 → length (decimal n) ≤ k
decimal-at_most k n p h small = rw (decimal-is n small) (length-decimal-le_wide k n p h (omega arith))

-- ---- what digits read as

-- the number that digits make after a number, the first digit first
abbrev pub read_on : ℕ → List ℕ → ℕ
read_on n [] = n
read_on n (d ∷ ds) = read_on (10 * n + (d - 48)) ds

read_append : (n : ℕ) (xs ys : List ℕ) → read_on n (xs ++ ys) ≡ read_on (read_on n xs) ys
read_append n [] ys = refl
read_append n (x ∷ xs) ys = read_append (10 * n + (x - 48)) xs ys

pub decimal_read : (n : ℕ) → n < 10 ^ 20 → read_on 0 (decimal n) ≡ n
decimal_read n h =
    rw (decimal-is n h)
    (decimal_by_steps_wide (λ m ds. read_on 0 ds ≡ m) (λ m l. omega arith) (λ m ds l e. rw (read_append 0 ds (digit (m % 10)), e) (omega arith)) n (omega arith))

-- bytes that are digits
pub data Digits : List ℕ → Type 0 where
  none : Digits []
  more : {d : ℕ} {ds : List ℕ} → 48 ≤ d → d ≤ 57 → Digits ds → Digits (d ∷ ds)

digits_append : {xs : List ℕ} (ys : List ℕ) → Digits xs → Digits ys → Digits (xs ++ ys)
digits_append ys none d = d
digits_append ys (more a b c) d = more a b (digits_append ys c d)

digit_alone : (d : ℕ) → d < 10 → Digits (digit d)
digit_alone d h = more {d = 48 + d} (omega arith) (omega arith) none

digits_all : (k n : ℕ) → Digits (decimal_of k n)
digits_all zero n = none
digits_all (suc k) n =
    either (ltb n 10) (λ q. rw q (digit_alone n (ltb-true n 10 q)))
    (λ q. rw q (digits_append (digit (n % 10)) (digits_all k (n / 10)) (digit_alone (n % 10) (omega arith))))

pub decimal_digits : (n : ℕ) → Digits (decimal n)
unfolding decimal
decimal_digits n = digits_all 20 n

-- the first digit of a number above 0 is above 0
pub decimal-first : (n : ℕ) → n < 10 ^ 20 → 0 < n → 48 < get_or (decimal n) 0 0
decimal-first n h p =
    rw (decimal-is n h)
    (decimal_by_steps_wide (λ m ds. 0 < m → (0 < length ds) × (48 < get_or ds 0 0)) (λ m l q. (omega arith, omega arith))
    (λ m ds l f q.
    let g = f (omega arith) in
    (omega (arith, length-append ds (digit (m % 10))), rw (get_or-append ds (digit (m % 10)) 0 0 g.0) g.1)) n (omega arith) p).1
