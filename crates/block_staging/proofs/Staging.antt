-- Staging residual bytes: eight stored at a time, of which a code's own number counts.
use Rattle.std.proofs.Common.{◌≡◌, ℕ, zero, suc, ◌+◌, ◌-◌, ◌*◌, ◌/◌, ◌%◌, ◌^◌, ◌<◌, ◌≤◌, List, ◌∷◌, ◌++◌, length, take, drop, sym, refl, ap, ◌∙◌, append_assoc, append-nil, arith, length-append, length-take-le}
use lib.Seq.{sets, length-sets, sets-eq, take-append-add, take-append-le}
use Rattle.words.specs.Words.{xor}
use Rattle.words.specs.Bytes.{low_bytes}
use Rattle.words.proofs.Zeros.{zeros_of_zero}
use Rattle.words.proofs.Bytes.{length_low}
use Rattle.block_rules.specs.Predictors.{Memory, learn, fcm_prediction, dfcm_prediction}
use Rattle.block_rules.specs.Codes.{dfcm_chosen, low_three, written, coded_by, chosen, coded_word, residual_bytes, fcm_residual, dfcm_residual}
use Rattle.block_rules.specs.declared.Coded.{Coded}
use Rattle.block_rules.proofs.Codes.{written_small}
use Rattle.block_rules.proofs.Choices.{chosen-fcm, chosen-dfcm, coded-small}
use Rattle.block_rules.proofs.Choices.{zero_by_fcm, zero_by_dfcm}
use Rattle.block_rules.proofs.Lengths.{length_residual}
use Rattle.std.specs.Borrow.{GName}
use Rattle.block_staging.specs.Waiting.{Waiting}
use Rattle.block_staging.specs.Inside.{Adds, StagesChosen, StagesWord, StagesPair}
use Rattle.block_choice.specs.Inside.{held, size, Becomes}
use Rattle.block_choice.specs.declared.predict.Predictors.{Predictors}
use Rattle.block_choice.proofs.Learning.{becomes-then}

-- ---- eight bytes

-- the first of them are the low bytes
low_first : (k n x : ℕ) → k ≤ n → take k (low_bytes n x) ≡ low_bytes k x
low_first zero n x h = refl
low_first (suc k) zero x h = absurd (omega arith)
low_first (suc k) (suc n) x h = ap (λ (l : List ℕ). x % 256 ∷ l) (low_first k n (x / 256) (omega arith))

eight_staged : (stage : List ℕ) (staged k x : ℕ) → staged + 8 ≤ length stage → k ≤ 8 → take (staged + k) (sets stage staged (low_bytes 8 x)) ≡ take staged stage ++ low_bytes k x
eight_staged stage staged k x h l =
    let a = take staged stage in
    let b = drop (staged + length (low_bytes 8 x)) stage in
    let n : length a ≡ staged = length-take-le staged stage (omega arith) in
    ap (λ (y : List ℕ). take (staged + k) y) (sets-eq (low_bytes 8 x) stage staged (omega (arith, length_low 8 x)) ∙ append_assoc a (low_bytes 8 x) b)
    ∙ ap (λ (m : ℕ). take (m + k) (a ++ (low_bytes 8 x ++ b))) (sym n)
    ∙ take-append-add a (low_bytes 8 x ++ b) k
    ∙ ap (λ (y : List ℕ). a ++ y) (take-append-le k (low_bytes 8 x) b (omega (arith, length_low 8 x)) ∙ low_first k 8 x l)

-- ---- the chosen residual

-- of the eight bytes stored those of the code are staged
pub code_staged : (b : GName) (bytes bytes' : List ℕ) (staged : ℕ) (c : Coded) (k : ℕ) → staged + 8 ≤ length bytes → k ≡ written c.code → bytes' ≡ sets bytes staged (low_bytes 8 c.residual)
    → Adds (record { held = take staged bytes; room = length bytes - staged; buffer = b }) (residual_bytes c) (record { held = take (staged + k) bytes'; room = length bytes' - (staged + k); buffer = b })
unfolding residual_bytes
code_staged b bytes bytes' staged c k h e q =
    let same : length bytes' ≡ length bytes = ap length q ∙ length-sets bytes staged (low_bytes 8 c.residual) in
    let few : k ≤ 8 = rw e (written_small c.code) in
    record {
      held = rw (q, e) (eight_staged bytes staged (written c.code) c.residual h (written_small c.code));
      same_whole = omega (arith, same, few, length-take-le staged bytes (omega arith), length-take-le (staged + k) bytes' (omega arith));
      same_buffer = refl;
    }

-- a residual of 0 has nothing to stage
nothing_staged : (stage : Waiting) (code : ℕ) (c : Coded) → c ≡ record { code = code; residual = 0 } → written code ≡ 0 → StagesChosen stage c stage code
unfolding residual_bytes
nothing_staged stage code c e z = record { code_is = sym (ap (λ (y : Coded). y.code) e); adds = record { held = rw (e, z) (sym (append-nil _)); same_whole = refl; same_buffer = refl } }

pub fcm_zero : (stage : Waiting) (f d : ℕ) → f ≡ 0 → StagesChosen stage (chosen dfcm_chosen f d) stage 7
unfolding coded_by low_three written
fcm_zero stage f d e =
    nothing_staged stage 7 (chosen dfcm_chosen f d)
    (sym (chosen-fcm dfcm_chosen f d (record { code = 7; residual = 0 }) (zero_by_fcm f d e) (rw (zeros_of_zero f e, e)))) refl

pub dfcm_zero : (stage : Waiting) (f d : ℕ) → f < 2 ^ 64 → (f ≡ 0 → ⊥) → d ≡ 0 → StagesChosen stage (chosen dfcm_chosen f d) stage 15
unfolding coded_by low_three written
dfcm_zero stage f d h n e =
    nothing_staged stage 15 (chosen dfcm_chosen f d)
    (sym (chosen-dfcm dfcm_chosen f d (record { code = 15; residual = 0 }) (zero_by_dfcm f d h (omega (arith, n)) e) (rw (zeros_of_zero d e, e)))) refl

-- ---- a word, and two

-- the word's residuals are those of the two predictions
pub coded-word : (m : Memory) (v p q : ℕ) → p ≡ fcm_prediction m → q ≡ dfcm_prediction m → chosen dfcm_chosen (xor v p) (xor v q) ≡ coded_word dfcm_chosen m v
unfolding coded_word fcm_residual dfcm_residual
coded-word m v p q e g = cc

pub word-staged : (p p' : Predictors) (v : ℕ) (stage stage' : Waiting) (code : ℕ) (x : Coded)
    → x ≡ coded_word dfcm_chosen (held p) v → Becomes p (learn (size p) (held p) v) p' → StagesChosen stage x stage' code → StagesWord p v stage p' stage' code
word-staged p p' v stage stage' code x e l s = record { code_is = s.code_is ∙ ap (λ (y : Coded). y.code) e; learnt = l; adds = rw (← e) s.adds }

-- a word's code has four bits, and it stages at most eight bytes
module _ {p p' : Predictors} {v : ℕ} {stage stage' : Waiting} {code : ℕ} (s : StagesWord p v stage p' stage' code) where
  pub word-code : code ≤ 15
  word-code = rw s.code_is (coded-small dfcm_chosen (held p) v)

  pub word_bytes : length stage'.held ≤ length stage.held + 8
  word_bytes =
      let x = coded_word dfcm_chosen (held p) v in
      rw s.adds.held (omega (arith, length-append stage.held (residual_bytes x), length_residual x, written_small x.code))

  pub word_room : stage.room ≤ stage'.room + 8
  word_room = omega (arith, s.adds.same_whole, word_bytes)

adds-then : (s s₁ s' : Waiting) (xs ys : List ℕ) → Adds s xs s₁ → Adds s₁ ys s' → Adds s (xs ++ ys) s'
adds-then s s₁ s' xs ys a b = record { held = b.held ∙ rw a.held (append_assoc s.held xs ys); same_whole = b.same_whole ∙ a.same_whole; same_buffer = b.same_buffer ∙ a.same_buffer }

pub pair_staged : (p p₁ p' : Predictors) (v w : ℕ) (stage stage₁ stage' : Waiting) (one two : ℕ)
    → StagesWord p v stage p₁ stage₁ one → StagesWord p₁ w stage₁ p' stage' two → StagesPair p v w stage p' stage' (one * 16 + two)
pair_staged p p₁ p' v w stage stage₁ stage' one two a b =
    let m = learn (size p) (held p) v in
    let y = coded_word dfcm_chosen m w in
    let code : two ≡ y.code = rw a.learnt.holds at b.code_is in
    let adds : Adds stage₁ (residual_bytes y) stage' = rw a.learnt.holds at b.adds in
    let learnt : Becomes p₁ (learn (size p) m w) p' = rw (a.learnt.holds, a.learnt.same_size) at b.learnt in
    record { codes_are = rw (a.code_is, code); learnt = becomes-then p p₁ p' m _ a.learnt learnt; adds = adds-then _ _ _ _ _ a.adds adds }
