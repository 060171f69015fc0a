-- Writing a text piece by piece, and the lines. Nothing else but the claims opens `exam_line` and `slot_line`.
use mathlib.Core.Path.{◌≡◌, ap, ◌∙◌}
use mathlib.Core.List.{List, ◌++◌, append_assoc}
use Prim.Native.Nat.{ℕ, ◌+◌, ◌^◌}
use native.Mathlib.Omega.{arith}
use lib.ListN.{length, length-append}
use lib.Seq.{length-sets}
use Rattle.words.proofs.Stores.{join}
use Rattle.listing.specs.Text.{decimal, ascii, exam_line, slot_line}
use Rattle.listing.specs.Inside.{HasRoom, Extends}
use Rattle.listing.specs.declared.text.Text.{Text}

-- ---- one piece after another

pub room_first : {s : Text} (xs ys : List ℕ) → HasRoom s (xs ++ ys) → HasRoom s xs
room_first xs ys p = record { room = omega (arith, p.room, length-append xs ys) }

pub room_on : {s s' : Text} (xs ys : List ℕ) → HasRoom s (xs ++ ys) → Extends s xs s' → HasRoom s' ys
room_on {s} xs ys p e = record { room = omega (arith, p.room, e.ends, ap length e.left, length-sets s.bytes.now s.length xs, length-append xs ys) }

pub extends_on : {s s' s'' : Text} (xs ys : List ℕ) → Extends s xs s' → Extends s' ys s'' → Extends s (xs ++ ys) s''
extends_on xs ys p q =
    record { same = q.same ∙ p.same; ends = omega (arith, p.ends, q.ends, length-append xs ys); left = join _ _ _ xs ys _ _ p.left q.left p.ends }

-- room for four pieces, and who puts one after another has put all
pub record FourFit (s : Text) (a b c d : List ℕ) : Type 0 where
  pub all : HasRoom s (a ++ (b ++ (c ++ d)))

module _ {s : Text} {a b c d : List ℕ} (r : FourFit s a b c d) where
  pub first_fits : HasRoom s a
  first_fits = room_first a (b ++ (c ++ d)) r.all

  module _ {s₁ : Text} (p : Extends s a s₁) where
    after_first : HasRoom s₁ (b ++ (c ++ d))
    after_first = room_on a (b ++ (c ++ d)) r.all p

    pub second_fits : HasRoom s₁ b
    second_fits = room_first b (c ++ d) after_first

    module _ {s₂ : Text} (q : Extends s₁ b s₂) where
      after_second : HasRoom s₂ (c ++ d)
      after_second = room_on b (c ++ d) after_first q

      pub third_fits : HasRoom s₂ c
      third_fits = room_first c d after_second

      pub fourth_fits : {s₃ : Text} → Extends s₂ c s₃ → HasRoom s₃ d
      fourth_fits u = room_on c d after_second u

pub four_put : {s s₁ s₂ s₃ s₄ : Text} {a b c d : List ℕ} → Extends s a s₁ → Extends s₁ b s₂ → Extends s₂ c s₃ → Extends s₃ d s₄ → Extends s (a ++ (b ++ (c ++ d))) s₄
four_put {a} {b} {c} {d} p q u v = extends_on a (b ++ (c ++ d)) p (extends_on b (c ++ d) q (extends_on c d u v))

-- ---- lines

pub exam_line-is : (exam t slots : ℕ)
    → exam_line exam t slots ≡ (ascii "exam " ++ decimal exam) ++ ((ascii " table " ++ decimal (2 ^ t)) ++ ((ascii " slots " ++ decimal slots) ++ ascii "\n"))
unfolding exam_line
exam_line-is exam t slots = simp append_assoc

pub slot_line-is : (slot words bytes : ℕ)
    → slot_line slot words bytes ≡ decimal slot ++ ((ascii " " ++ decimal words) ++ ((ascii " " ++ decimal bytes) ++ ascii "\n"))
unfolding slot_line
slot_line-is slot words bytes = simp append_assoc

pub exam_fits : {s : Text} (exam t slots : ℕ) → HasRoom s (exam_line exam t slots)
    → FourFit s (ascii "exam " ++ decimal exam) (ascii " table " ++ decimal (2 ^ t)) (ascii " slots " ++ decimal slots) (ascii "\n")
exam_fits exam t slots r = record { all = rw (exam_line-is exam t slots) at r }

pub slot_fits : {s : Text} (slot words bytes : ℕ) → HasRoom s (slot_line slot words bytes)
    → FourFit s (decimal slot) (ascii " " ++ decimal words) (ascii " " ++ decimal bytes) (ascii "\n")
slot_fits slot words bytes r = record { all = rw (slot_line-is slot words bytes) at r }

pub exam_line_put : (exam t slots : ℕ) {s s₁ s₂ s₃ s₄ : Text} → Extends s (ascii "exam " ++ decimal exam) s₁ → Extends s₁ (ascii " table " ++ decimal (2 ^ t)) s₂
    → Extends s₂ (ascii " slots " ++ decimal slots) s₃ → Extends s₃ (ascii "\n") s₄ → Extends s (exam_line exam t slots) s₄
exam_line_put exam t slots p q u v = rw (exam_line-is exam t slots) (four_put p q u v)

pub slot_line_put : (slot words bytes : ℕ) {s s₁ s₂ s₃ s₄ : Text} → Extends s (decimal slot) s₁ → Extends s₁ (ascii " " ++ decimal words) s₂
    → Extends s₂ (ascii " " ++ decimal bytes) s₃ → Extends s₃ (ascii "\n") s₄ → Extends s (slot_line slot words bytes) s₄
slot_line_put slot words bytes p q u v = rw (slot_line-is slot words bytes) (four_put p q u v)

pub length-exam_line : (exam t slots : ℕ) → length (exam_line exam t slots) ≡ 20 + length (decimal exam) + length (decimal (2 ^ t)) + length (decimal slots)
unfolding exam_line
length-exam_line exam t slots = simp length-append (omega arith)

pub length-slot_line : (slot words bytes : ℕ) → length (slot_line slot words bytes) ≡ 3 + length (decimal slot) + length (decimal words) + length (decimal bytes)
unfolding slot_line
length-slot_line slot words bytes = simp length-append (omega arith)
