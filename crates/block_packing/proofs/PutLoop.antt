-- The loop that puts two words a turn: what holds at its head, where it starts, after a turn and at its end.
use mathlib.Core.Path.{◌≡◌, refl, sym, ap, ◌∙◌}
use mathlib.Core.List.{List, [], ◌∷◌, ◌++◌, append_assoc}
use Prim.Native.Nat.{ℕ, suc, ◌+◌, ◌*◌, ◌/◌, ◌≤◌, ◌<◌}
use native.Mathlib.Omega.{arith}
use lib.ListN.{length, get_or, set, drop, length-set, length-drop, length-append}
use lib.Seq.{sets, drop-cons}
use Rattle.words.specs.Bytes.{low_bytes}
use Rattle.words.proofs.Stores.{sets-append, sets-sets}
use Rattle.std.specs.Borrow.{MutBor}
use Rattle.block_rules.specs.Predictors.{Memory, cleared, learn, after}
use Rattle.block_rules.specs.Codes.{dfcm_chosen, residual_bytes, coded_word, coded_words}
use Rattle.block_rules.specs.Block.{codes, code_bytes, all_residual_bytes, residuals_at, worst, block}
use Rattle.block_rules.specs.Numbers.{t_of}
use Rattle.block_rules.specs.Inside.{PacksAll}
use Rattle.block_rules.specs.declared.Coded.{Coded}
use Rattle.block_rules.proofs.Codes.{written_small}
use Rattle.block_rules.proofs.Lengths.{length_residual, length_residuals, length-code_bytes, length-codes, length-coded, length-block}
use Rattle.block_staging.specs.Waiting.{Waiting, whole}
use Rattle.block_staging.specs.Inside.{StagesPair, MakesRoom}
use Rattle.block_choice.specs.Inside.{held, size, Becomes, Starts}
use Rattle.block_choice.specs.declared.predict.Predictors.{Predictors}
use Rattle.block_choice.proofs.Learning.{becomes-then}
use Rattle.block_packing.specs.Inside.{stage_length, Putting, Puts}
use Rattle.block_packing.proofs.Put.{put_block}

-- the coded words from word i on
abbrev pub left : ℕ → List ℕ → Memory → ℕ → List Coded
left t ws m i = coded_words dfcm_chosen t m (drop i ws)

-- Finishing from here, over the words from 2k on, leaves what the whole run leaves. What is staged comes before what is left.
pub record Going (ws : List ℕ) (p₀ : Predictors) (out₀ : List ℕ) (p : Predictors) (out : List ℕ) (stage : Waiting) (at k : ℕ) : Type 0 where
  pub upto : 2 * k ≤ length ws
  pub learnt : Becomes p₀ (held p) p
  pub out_long : length out ≡ length out₀
  pub stage_whole : whole stage ≡ stage_length
  pub from : residuals_at (length ws) ≤ at
  pub to : at + length stage.held ≤ residuals_at (length ws) + 16 * k
  pub state : after (size p₀) (held p) (drop (2 * k) ws) ≡ after (size p₀) (held p₀) ws
  pub end :
      at + length stage.held + length (all_residual_bytes (left (size p₀) ws (held p) (2 * k)))
      ≡ residuals_at (length ws) + length (all_residual_bytes (coded_words dfcm_chosen (size p₀) (held p₀) ws))
  pub bytes :
      sets (sets out (8 + k) (code_bytes (codes (left (size p₀) ws (held p) (2 * k))))) at (stage.held ++ all_residual_bytes (left (size p₀) ws (held p) (2 * k)))
      ≡ sets (sets out₀ 8 (code_bytes (codes (coded_words dfcm_chosen (size p₀) (held p₀) ws)))) (residuals_at (length ws))
      (all_residual_bytes (coded_words dfcm_chosen (size p₀) (held p₀) ws))

two_dropped : (ws : List ℕ) (k : ℕ) → 2 * k + 1 < length ws → drop (2 * k) ws ≡ get_or ws (2 * k) 0 ∷ get_or ws (2 * k + 1) 0 ∷ drop (2 * (k + 1)) ws
two_dropped ws k h =
    let e : 2 * k + 1 ≡ suc (2 * k) = omega arith in
    let q : 2 * (k + 1) ≡ suc (suc (2 * k)) = omega arith in
    drop-cons ws (2 * k) 0 (omega arith) ∙ ap (λ (l : List ℕ). get_or ws (2 * k) 0 ∷ l) (rw (e, q) (drop-cons ws (suc (2 * k)) 0 (omega arith)))

joined : (a b c d : List ℕ) → a ++ (b ++ c) ++ d ≡ a ++ (b ++ (c ++ d))
joined a b c d = append_assoc a (b ++ c) d ∙ ap (λ (x : List ℕ). a ++ x) (append_assoc b c d)

pub going-starts : (ws : List ℕ) (p : Predictors) (out : List ℕ) (stage : Waiting) → Putting ws p out stage → Going ws p out p out stage (residuals_at (length ws)) 0
going-starts ws p out stage q =
    record {
      upto = omega arith;
      learnt = record { same_fcm = refl; same_dfcm = refl; same_size = refl; able = q.able; holds = refl };
      out_long = refl;
      stage_whole = rw q.staged (omega (arith, q.free));
      from = omega arith;
      to = rw q.staged (omega arith);
      state = refl;
      end = rw q.staged (omega arith);
      bytes = rw q.staged;
    }

module _ {ws : List ℕ} {p₀ : Predictors} {out₀ : List ℕ} {p : Predictors} {out : List ℕ} {stage : Waiting} {at k : ℕ} (room : worst (length ws) ≤ length out₀) (g : Going ws p₀ out₀ p out stage at k) where
  pub going-staged : at + length stage.held ≤ length out
  going-staged = omega (arith, g.to, g.upto, g.out_long, room)

  -- making room moves staged bytes to their place and changes nothing else
  pub going-room : (out' : List ℕ) (stage' : Waiting) (at' : ℕ) → length out' ≡ length out → MakesRoom out stage at out' stage' at' → Going ws p₀ out₀ p out' stage' at' k
  going-room out' stage' at' l m =
      let cs = left (size p₀) ws (held p) (2 * k) in
      let cb = code_bytes (codes cs) in
      let rs = all_residual_bytes cs in
      let lc : 8 + k + length cb ≤ at = omega (arith, length-code_bytes (codes cs), length-codes cs, length-coded dfcm_chosen (size p₀) (held p) (drop (2 * k) ws), length-drop (2 * k) ws, g.from, g.upto) in
      let over-codes : (o : List ℕ) (x : ℕ) (ys : List ℕ) → at ≤ x → sets (sets o (8 + k) cb) x (ys ++ rs) ≡ sets (sets (sets o x ys) (8 + k) cb) (x + length ys) rs =
      λ o x ys h. sets-append (sets o (8 + k) cb) x ys rs ∙ ap (λ (y : List ℕ). sets y (x + length ys) rs) (sym (sets-sets o (8 + k) cb x ys (omega arith))) in
      record {
        upto = g.upto;
        learnt = g.learnt;
        out_long = l ∙ g.out_long;
        stage_whole = m.same_whole ∙ g.stage_whole;
        from = omega (arith, m.from, g.from);
        to = omega (arith, m.same, g.to);
        state = g.state;
        end = omega (arith, m.same, g.end);
        bytes =
            over-codes out' at' stage'.held m.from
            ∙ ap (λ (o : List ℕ). sets (sets o (8 + k) cb) (at' + length stage'.held) rs) m.held
            ∙ ap (λ (x : ℕ). sets (sets (sets out at stage.held) (8 + k) cb) x rs) m.same
            ∙ sym (over-codes out at stage.held (omega arith))
            ∙ g.bytes;
      }

  -- a turn
  pub going_on : (p' : Predictors) (stage' : Waiting) (byte : ℕ) → k < length ws / 2 → StagesPair p (get_or ws (2 * k) 0) (get_or ws (2 * k + 1) 0) stage p' stage' byte
      → Going ws p₀ out₀ p' (set out (8 + k) byte) stage' at (k + 1)
  going_on p' stage' byte h s =
      let t = size p₀ in
      let v = get_or ws (2 * k) 0 in
      let w = get_or ws (2 * k + 1) 0 in
      let x = coded_word dfcm_chosen (held p) v in
      let y = coded_word dfcm_chosen (learn t (held p) v) w in
      let t-is : size p ≡ t = g.learnt.same_size in
      let dc : drop (2 * k) ws ≡ v ∷ w ∷ drop (2 * (k + 1)) ws = two_dropped ws k (omega arith) in
      let m : held p' ≡ learn t (learn t (held p) v) w = rw t-is at s.learnt.holds in
      let b : byte ≡ x.code * 16 + y.code = rw t-is at s.codes_are in
      let q : stage'.held ≡ stage.held ++ (residual_bytes x ++ residual_bytes y) = rw t-is at s.adds.held in
      let e : length stage'.held ≡ length stage.held + (length (residual_bytes x) + length (residual_bytes y)) =
      rw q (omega (arith, length-append stage.held (residual_bytes x ++ residual_bytes y), length-append (residual_bytes x) (residual_bytes y))) in
      let z : 8 + (k + 1) ≡ suc (8 + k) = omega arith in
      let cs = coded_words dfcm_chosen t (learn t (learn t (held p) v) w) (drop (2 * (k + 1)) ws) in
      record {
        upto = omega arith;
        learnt = rw s.learnt.holds (becomes-then p₀ p p' (held p) _ g.learnt s.learnt);
        out_long = length-set out (8 + k) _ ∙ g.out_long;
        stage_whole = s.adds.same_whole ∙ g.stage_whole;
        from = g.from;
        to = omega (arith, g.to, e, length_residual x, length_residual y, written_small x.code, written_small y.code);
        state = rw m (rw dc at g.state);
        end = rw m (omega (arith, e, length_residual x, length_residual y, rw dc at g.end, length_residuals x (y ∷ cs), length_residuals y cs));
        bytes = rw (m, b, q, z, joined stage.held (residual_bytes x) (residual_bytes y) _) (rw dc at g.bytes);
      }

-- ---- around the loop: the predictors before it, the head put after it

pub packs-all : (ws : List ℕ) (f d : MutBor (List ℕ)) (f₀ f' d' out out₁ out₂ : List ℕ) (p p' : Predictors) (end : ℕ) → worst (length ws) ≤ length out → length f.now ≡ length f₀
    → Starts f d p → Puts p ws 8 (residuals_at (length ws)) [] out p' out₁ end → f' ≡ p'.fcm.now → d' ≡ p'.dfcm.now
    → out₂ ≡ sets out₁ 0 (low_bytes 4 (length ws) ++ low_bytes 4 end) → PacksAll (t_of (length f₀)) ws out f' d' out₂ end
packs-all ws f d f₀ f' d' out out₁ out₂ p p' end room l start s ef ed q =
    let t = t_of (length f₀) in
    let size-is : size p ≡ t = start.same_size ∙ ap t_of l in
    let holds : held p ≡ cleared t = rw l at start.holds in
    let k : end ≡ length (block t ws) = (rw (size-is, holds) at s.ends) ∙ sym (length-block t ws) in
    let m : held p' ≡ after t (cleared t) ws = rw (size-is, holds) at s.learnt.holds in
    record {
      size = k;
      fcm = ef ∙ ap (λ (x : Memory). x.fcm) m;
      dfcm = ed ∙ ap (λ (x : Memory). x.dfcm) m;
      out = put_block t ws out out₁ out₂ end k room (rw (size-is, holds) at s.bytes) q;
    }
