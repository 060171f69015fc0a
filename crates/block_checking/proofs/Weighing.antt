-- A weight of codes, added up over the counted codes of a block, a code byte at a time.
use Rattle.std.proofs.Common.{◌≡◌, ℕ, zero, suc, ◌+◌, ◌-◌, ◌*◌, ◌/◌, ◌%◌, ◌≤◌, List, [], ◌∷◌, get_or, take, drop, refl, sym, ap, ◌∙◌, arith}
use Rattle.std.specs.List.{sum_by}
use Rattle.std.proofs.lemmas.List.{take-append-drop}
use Rattle.std.proofs.lemmas.List.Sums.{sum_by-cons, sum_by-append}
use Rattle.block_rules.specs.Block.{count, halves, counted_codes}
use Rattle.block_rules.specs.Inside.{Counted}
use Rattle.block_rules.proofs.Get.{counted_next, counted_none}

-- the first 2k of n codes are those of the first k code bytes
first_codes : (bytes : List ℕ) (k n : ℕ) → 2 * k ≤ n → take (2 * k) (take n (halves bytes)) ≡ halves (take k bytes)
first_codes bytes zero n h = refl
first_codes [] (suc k) (suc (suc n)) h = let e : 2 * suc k ≡ suc (suc (2 * k)) = omega arith in rw e
first_codes (b ∷ bytes) (suc k) (suc (suc n)) h =
    let e : 2 * suc k ≡ suc (suc (2 * k)) = omega arith in
    rw e (ap (λ (l : List ℕ). b / 16 ∷ b % 16 ∷ l) (first_codes bytes k n (omega arith)))
first_codes bytes (suc k) zero h = absurd (omega arith)
first_codes bytes (suc k) (suc zero) h = absurd (omega arith)

-- w weighs a code, and of_byte the two of a byte
module _ (w of_byte : ℕ → ℕ) (both : (byte : ℕ) → of_byte byte ≡ w (byte / 16) + w (byte % 16)) where
  over_bytes : (bytes : List ℕ) → sum_by w (halves bytes) ≡ sum_by of_byte bytes
  over_bytes [] = refl
  over_bytes (b ∷ bytes) =
      omega (arith, sum_by-cons w (b / 16) (b % 16 ∷ halves bytes), sum_by-cons w (b % 16) (halves bytes), sum_by-cons of_byte b bytes, both b, over_bytes bytes)

  module _ (b : List ℕ) (n : ℕ) (c : Counted b n) where
    -- the codes of whole bytes, and those behind them
    from_pairs : sum_by w (counted_codes b) ≡ sum_by of_byte (take (n / 2) (drop 8 b)) + sum_by w (drop (2 * (n / 2)) (counted_codes b))
    unfolding counted_codes
    from_pairs =
        sym (ap (sum_by w) (take-append-drop (2 * (n / 2)) (counted_codes b)))
        ∙ sum_by-append w (take (2 * (n / 2)) (counted_codes b)) (drop (2 * (n / 2)) (counted_codes b))
        ∙ ap (λ (k : ℕ). k + sum_by w (drop (2 * (n / 2)) (counted_codes b)))
        (ap (sum_by w) (first_codes (drop 8 b) (n / 2) (count b) (omega (arith, c.count))) ∙ over_bytes (take (n / 2) (drop 8 b)))

    pub weight_even : (n % 2 ≡ 1 → ⊥) → sum_by w (counted_codes b) ≡ sum_by of_byte (take (n / 2) (drop 8 b))
    weight_even even = from_pairs ∙ rw (counted_none b n (2 * (n / 2)) c (omega arith)) (omega arith)

    -- and the last code of an odd count
    pub weight_odd : n % 2 ≡ 1 → sum_by w (counted_codes b) ≡ sum_by of_byte (take (n / 2) (drop 8 b)) + w (get_or (halves (drop 8 b)) (n - 1) 0)
    weight_odd odd =
        let e : 2 * (n / 2) ≡ n - 1 = omega arith in
        from_pairs ∙ rw (e, counted_next b n (n - 1) c (omega arith), counted_none b n (n - 1 + 1) c (omega arith)) (omega arith)
