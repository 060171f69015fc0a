-- Codes put first, residual bytes next and the head last are the block's bytes.
use mathlib.Core.Path.{◌≡◌, refl, sym, ap, ◌∙◌}
use mathlib.Core.List.{List, ◌++◌}
use Prim.Native.Nat.{ℕ, ◌+◌, ◌≤◌}
use native.Mathlib.Omega.{arith}
use lib.ListN.{length}
use lib.Seq.{sets}
use Rattle.words.specs.Bytes.{low_bytes}
use Rattle.words.proofs.Stores.{sets-append, sets-sets}
use Rattle.answers.specs.Answers.{over}
use Rattle.answers.proofs.Checks.{sets_over}
use Rattle.block_rules.specs.Predictors.{cleared}
use Rattle.block_rules.specs.Codes.{dfcm_chosen, coded_words}
use Rattle.block_rules.specs.Block.{codes, code_bytes, all_residual_bytes, body, arranged, block_by, block, residuals_at, worst}
use Rattle.block_rules.specs.declared.Coded.{Coded}
use Rattle.block_rules.proofs.Lengths.{length-codes, length-coded, length-code_bytes, length-body, length-arranged, arranged-at_most}

-- a head of eight bytes, codes and residual bytes, put codes first, residual bytes next, head last
put_parts : (out head cb rs : List ℕ) (at : ℕ) → length head ≡ 8 → at ≡ 8 + length cb → length (head ++ (cb ++ rs)) ≤ length out
    → sets (sets (sets out 8 cb) at rs) 0 head ≡ over (head ++ (cb ++ rs)) out
put_parts out head cb rs at e k l =
    let z : 0 + length head ≡ 8 = omega arith in
    ap (λ (x : ℕ). sets (sets (sets out 8 cb) x rs) 0 head) k
    ∙ ap (λ (x : List ℕ). sets x 0 head) (sym (sets-append out 8 cb rs))
    ∙ sets-sets out 0 head 8 (cb ++ rs) (omega arith)
    ∙ ap (λ (x : ℕ). sets (sets out 0 head) x (cb ++ rs)) (sym z)
    ∙ sym (sets-append out 0 head (cb ++ rs))
    ∙ sets_over (head ++ (cb ++ rs)) out l

-- coded words put so are the block that they are arranged as
put_arranged : (cs : List Coded) (out : List ℕ) → length (arranged cs) ≤ length out
    → sets (sets (sets out 8 (code_bytes (codes cs))) (residuals_at (length cs)) (all_residual_bytes cs)) 0 (low_bytes 4 (length cs) ++ low_bytes 4 (8 + length (body cs)))
    ≡ over (arranged cs) out
unfolding arranged body
put_arranged cs out h =
    put_parts out (low_bytes 4 (length cs) ++ low_bytes 4 (8 + length (body cs))) (code_bytes (codes cs)) (all_residual_bytes cs) (residuals_at (length cs)) refl
    (omega (arith, length-code_bytes (codes cs), length-codes cs)) h

pub put_block : (t : ℕ) (ws out out₁ out₂ : List ℕ) (end : ℕ) → end ≡ length (block t ws) → worst (length ws) ≤ length out
    → out₁ ≡ sets (sets out 8 (code_bytes (codes (coded_words dfcm_chosen t (cleared t) ws)))) (residuals_at (length ws)) (all_residual_bytes (coded_words dfcm_chosen t (cleared t) ws))
    → out₂ ≡ sets out₁ 0 (low_bytes 4 (length ws) ++ low_bytes 4 end)
    → out₂ ≡ over (block t ws) out
unfolding block block_by
put_block t ws out out₁ out₂ end e h p q =
    let cs = coded_words dfcm_chosen t (cleared t) ws in
    let n : length cs ≡ length ws = length-coded dfcm_chosen t (cleared t) ws in
    let k : end ≡ 8 + length (body cs) = omega (arith, length-arranged cs, length-body cs) in
    q ∙ rw (p, k, ← n) (put_arranged cs out (omega (arith, arranged-at_most cs)))

pub put_head : (out out₁ out₂ : List ℕ) (n e : ℕ) → out₁ ≡ sets out 0 (low_bytes 4 n) → out₂ ≡ sets out₁ 4 (low_bytes 4 e) → out₂ ≡ sets out 0 (low_bytes 4 n ++ low_bytes 4 e)
put_head out out₁ out₂ n e p q = q ∙ ap (λ (l : List ℕ). sets l 4 (low_bytes 4 e)) p
