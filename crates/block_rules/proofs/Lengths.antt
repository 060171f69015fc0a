-- How long the parts of a block are.
use mathlib.Core.Path.{◌≡◌, refl, ap, ◌∙◌}
use mathlib.Core.List.{List, [], ◌∷◌}
use Prim.Native.Nat.{ℕ, suc, ◌+◌, ◌*◌, ◌/◌, ◌≤◌}
use native.Mathlib.Omega.{arith}
use lib.ListN.{length, length-append}
use Rattle.words.proofs.Bytes.{length_low}
use Rattle.block_rules.specs.Predictors.{Memory, cleared, learn}
use Rattle.block_rules.specs.Codes.{Choice, dfcm_chosen, written, residual_bytes, coded_words}
use Rattle.block_rules.specs.Block.{codes, code_bytes, all_residual_bytes, body, arranged, block_by, block, residuals_at, worst}
use Rattle.block_rules.specs.declared.Coded.{Coded}
use Rattle.block_rules.proofs.Codes.{written_small}

pub length_residual : (c : Coded) → length (residual_bytes c) ≡ written c.code
unfolding residual_bytes
length_residual c = length_low _ _

pub length-codes : (cs : List Coded) → length (codes cs) ≡ length cs
length-codes [] = refl
length-codes (c ∷ cs) = ap suc (length-codes cs)

pub length-coded : (choice : Choice) (t : ℕ) (m : Memory) (ws : List ℕ) → length (coded_words choice t m ws) ≡ length ws
length-coded choice t m [] = refl
length-coded choice t m (v ∷ vs) = ap suc (length-coded choice t (learn t m v) vs)

pub length-code_bytes : (cs : List ℕ) → length (code_bytes cs) ≡ (length cs + 1) / 2
length-code_bytes [] = refl
length-code_bytes (c ∷ []) = refl
length-code_bytes (c ∷ d ∷ cs) = omega (arith, length-code_bytes cs)

pub length_residuals : (c : Coded) (cs : List Coded) → length (all_residual_bytes (c ∷ cs)) ≡ written c.code + length (all_residual_bytes cs)
length_residuals c cs = length-append (residual_bytes c) (all_residual_bytes cs) ∙ ap (λ (k : ℕ). k + length (all_residual_bytes cs)) (length_residual c)

residuals_at_most : (cs : List Coded) → length (all_residual_bytes cs) ≤ 8 * length cs
residuals_at_most [] = omega arith
residuals_at_most (c ∷ cs) = omega (arith, length_residuals c cs, residuals_at_most cs, written_small c.code)

-- ---- the block of coded words

module _ (cs : List Coded) where
  pub length-body : length (body cs) ≡ (length cs + 1) / 2 + length (all_residual_bytes cs)
  unfolding body
  length-body = simp (length-append, length-code_bytes, length-codes)

  pub length-arranged : length (arranged cs) ≡ residuals_at (length cs) + length (all_residual_bytes cs)
  unfolding arranged
  length-arranged = simp length-append (omega (arith, length-body))

  -- the worst case
  pub arranged-at_most : length (arranged cs) ≤ worst (length cs)
  arranged-at_most = omega (arith, length-arranged, residuals_at_most cs)

-- ---- the block of words, by any choice

module _ (choice : Choice) (t : ℕ) (ws : List ℕ) where
  pub length-block_by : length (block_by choice t ws) ≡ residuals_at (length ws) + length (all_residual_bytes (coded_words choice t (cleared t) ws))
  unfolding block_by
  length-block_by = rw (← (length-coded choice t (cleared t) ws)) (length-arranged (coded_words choice t (cleared t) ws))

  block_by_at_most : length (block_by choice t ws) ≤ worst (length ws)
  unfolding block_by
  block_by_at_most = rw (← (length-coded choice t (cleared t) ws)) (arranged-at_most (coded_words choice t (cleared t) ws))

-- ---- by the rule's choice

module _ (t : ℕ) (ws : List ℕ) where
  pub length-block : length (block t ws) ≡ residuals_at (length ws) + length (all_residual_bytes (coded_words dfcm_chosen t (cleared t) ws))
  unfolding block
  length-block = length-block_by dfcm_chosen t ws

  pub block-at_most : length (block t ws) ≤ worst (length ws)
  unfolding block
  block-at_most = block_by_at_most dfcm_chosen t ws
