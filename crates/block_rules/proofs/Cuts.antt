-- Any cut of words into runs bounds their block.
use mathlib.Core.Path.{◌≡◌, subst}
use mathlib.Core.List.{List, [], ◌∷◌, ◌++◌}
use mathlib.Core.Bool.{or-true}
use Prim.Native.Nat.{ℕ, zero, suc, ◌+◌, ◌*◌, ◌%◌, ◌^◌, ◌≤◌, ◌<◌}
use native.Mathlib.Omega.{arith}
use lib.Dec.{eqb}
use lib.ListN.{length}
use lib.Seq.{get_or-append-add}
use borrow.Author.Tests.{eqb-true, lt-leb}
use Rattle.words.specs.Words.{Words, add64}
use Rattle.words.proofs.Tests.{either}
use Rattle.block_rules.specs.Predictors.{Memory, cleared, learn, after}
use Rattle.block_rules.specs.Codes.{Choice, dfcm_chosen, Thrifty, coded_word}
use Rattle.block_rules.specs.Block.{block_by, block}
use Rattle.block_rules.specs.Room.{Run, words_from, joined, Cut, of_equal_words, run_cost, added, bound, closer_cost, closer_bound}
use Rattle.block_rules.proofs.Codes.{written_small, rule-thrifty}
use Rattle.block_rules.proofs.Learn.{Held, held-cleared, held_after}
use Rattle.block_rules.proofs.Lengths.{length-block_by}
use Rattle.block_rules.proofs.Runs.{spent, spent-word, equal_run, steps_run}

-- by any choice that is thrifty
module _ (choice : Choice) (thrifty : Thrifty choice) where
  -- ---- any cut into runs

  -- adding a difference that is 0 modulo 2^64 keeps a word
  sum_none : (v d : ℕ) → v < 2 ^ 64 → d % 2 ^ 64 ≡ 0 → add64 v d ≡ v
  unfolding add64
  sum_none v d h e = omega arith

  -- a word costs at most 8 bytes
  eight_each : (t k v d : ℕ) (m : Memory) (ws : List ℕ) → spent choice thrifty t m (words_from v d k ++ ws) ≤ 8 * k + spent choice thrifty t (after t m (words_from v d k)) ws
  eight_each t zero v d m ws = omega arith
  eight_each t (suc k) v d m ws =
      omega (arith, spent-word choice thrifty t m v (words_from (add64 v d) d k ++ ws), written_small (coded_word choice m v).code, eight_each t k (add64 v d) d (learn t m v) ws)

  -- a run costs no more than it may
  one_run_lem : (t k v d : ℕ) (m : Memory) (ws : List ℕ) → Held t m → Words (words_from v d k ++ ws)
      → spent choice thrifty t m (words_from v d k ++ ws) ≤ run_cost t (record { first = v; difference = d; count = k }) + spent choice thrifty t (after t m (words_from v d k)) ws
  unfolding run_cost of_equal_words
  one_run_lem t zero v d m ws h l = omega arith
  one_run_lem t (suc zero) v d m ws h l = rw or-true (omega (arith, eight_each t 1 v d m ws))
  one_run_lem t (suc (suc k)) v d m ws h l =
      either (eqb (d % 2 ^ 64) 0)
      (λ e. rw e (equal_run choice thrifty t d v (sum_none v d (l 0) (eqb-true _ _ e)) (suc (suc k)) m ws h))
      (λ e. rw (e, lt-leb (suc (suc k)) 1 (omega arith)) (steps_run choice thrifty t d (suc (suc k)) m v ws h (l 0)))

  -- nor do runs, one after another; and a word costs at most 8 bytes
  all_runs : (t : ℕ) (rs : List Run) (m : Memory) → Held t m → Words (joined rs) → spent choice thrifty t m (joined rs) ≤ added (closer_cost t) rs
  unfolding closer_cost
  all_runs t [] m h l = omega arith
  all_runs t (r ∷ rs) m h l =
      let ws = words_from r.first r.difference r.count in
      omega (
        arith,
        eight_each t r.count r.first r.difference m (joined rs),
        one_run_lem t r.count r.first r.difference m (joined rs) h l,
        all_runs t rs (after t m ws) (held_after t ws m h) (λ i. subst (λ (x : ℕ). x < 2 ^ 64) (get_or-append-add ws (joined rs) i 0) (l (length ws + i))),
      )

  -- so the block of words costs no more than any cut into runs says
  pub chosen-closer : (t : ℕ) (ws : List ℕ) (cut : Cut ws) → Words ws → length (block_by choice t ws) ≤ closer_bound t ws cut
  chosen-closer t ws cut l =
      let s : spent choice thrifty t (cleared t) (joined cut.runs) ≤ added (closer_cost t) cut.runs =
      all_runs t cut.runs (cleared t) (held-cleared t) (rw cut.whole l) in
      omega (arith, length-block_by choice t ws, rw cut.whole at s)

-- ---- the bounds

closer : (t : ℕ) (rs : List Run) → added (closer_cost t) rs ≤ added (run_cost t) rs
unfolding closer_cost
closer t [] = omega arith
closer t (r ∷ rs) = omega (arith, closer t rs)

module _ (t : ℕ) (ws : List ℕ) (cut : Cut ws) where
  pub closer-at_most : closer_bound t ws cut ≤ bound t ws cut
  closer-at_most = omega (arith, closer t cut.runs)

  pub block-closer : Words ws → length (block t ws) ≤ closer_bound t ws cut
  unfolding block
  block-closer l = chosen-closer dfcm_chosen rule-thrifty t ws cut l
