-- A padded code is told by its two top bytes, without a test.
use mathlib.Core.Path.{◌≡◌, refl, ap, ◌∙◌}
use mathlib.Core.Bool.{cond}
use mathlib.Core.List.{List}
use Prim.Native.Nat.{ℕ, ◌+◌, ◌-◌, ◌/◌, ◌%◌, ◌≤◌, ◌<◌}
use native.Mathlib.Omega.{arith}
use lib.Dec.{ltb}
use borrow.Author.Tests.{ltb-true, ltb-false}
use Rattle.words.specs.Bytes.{Bytes, field}
use Rattle.words.proofs.Tests.{either}
use Rattle.words.proofs.Bytes.{field_shifted, field_below}
use Rattle.block_rules.specs.Codes.{written, padded}
use Rattle.block_rules.specs.Inside.{coded_at}
use Rattle.block_rules.proofs.Codes.{written_small}
use Rattle.block_rules.proofs.Padded.{padded-is}
use Rattle.block_padding.specs.Inside.{least_top}
use Rattle.block_padding.proofs.Tops.{by_tops, least-small}

module _ (b : List ℕ) (tops at code : ℕ) (bs : Bytes b) (past : 8 ≤ at) (ends : at + written code ≡ tops + 2) where
  padded_by_tops : padded (coded_at b at code) ≡ ltb (field 2 tops b) (least_top code)
  unfolding least_top written
  padded_by_tops =
      let x = field 8 (tops - 6) b in
      let w = written_small code in
      let from : tops - 6 ≡ at - (8 - written code) = omega arith in
      let r = field_shifted (written code) at x b bs w (omega arith) (ap (λ (k : ℕ). field 8 k b) from) in
      let v = field_shifted 2 tops x b bs (omega arith) (omega arith) refl in
      padded-is (coded_at b at code) (field_below (written code) at b bs) ∙ rw (← r, ← v) (by_tops (code % 8) x (omega arith))

  -- without a test
  pub told-padded : (top k : ℕ) → top ≡ field 2 tops b → k ≡ least_top code → (65535 + k - top) / 65536 ≡ cond (padded (coded_at b at code)) 1 0
  told-padded top k e q =
      let most = rw (← e) at (field_below 2 tops b bs) in
      let few = rw (← q) at (least-small code) in
      rw (padded_by_tops, ← e, ← q)
      (either (ltb top k) (λ p. rw p (below top k few (ltb-true top k p))) (λ p. rw p (above top k most (ltb-false top k p))))
    where
      below : (top k : ℕ) → k ≤ 256 → top < k → (65535 + k - top) / 65536 ≡ 1
      below top k few h = omega arith

      above : (top k : ℕ) → top < 65536 → k ≤ top → (65535 + k - top) / 65536 ≡ 0
      above top k most h = omega arith
