-- What runs of words cost: a predictor closes in on a run, and from then on its words cost nothing.
use mathlib.Core.Path.{◌≡◌, refl, sym, ◌∙◌}
use mathlib.Core.List.{List, ◌∷◌, ◌++◌}
use Prim.Native.Nat.{ℕ, zero, suc, ◌+◌, ◌*◌, ◌/◌, ◌%◌, ◌^◌, ◌≤◌, ◌<◌}
use native.Mathlib.Omega.{arith}
use lib.ListN.{length, get_or}
use lib.Seq.{get_or-set_same}
use Rattle.words.specs.Words.{add64, sub64, shifted_right}
use Rattle.block_rules.specs.Predictors.{Memory, fcm_prediction, dfcm_prediction, difference, next_fcm_hash, next_dfcm_hash, learn, after}
use Rattle.block_rules.specs.Codes.{Choice, Thrifty, written, coded_word, coded_words}
use Rattle.block_rules.specs.Block.{all_residual_bytes}
use Rattle.block_rules.specs.Room.{words_from, times}
use Rattle.block_rules.proofs.Codes.{written_small}
use Rattle.block_rules.proofs.Learn.{Held, held-learn}
use Rattle.block_rules.proofs.Lengths.{length_residuals}
use Rattle.block_rules.proofs.Cost.{fcm_free, dfcm_free}
use Rattle.block_rules.proofs.Settle.{update, settles}

-- by any choice that is thrifty
module _ (choice : Choice) (thrifty : Thrifty choice) where
  -- how many residual bytes words have, from the memory m on
  abbrev pub spent : ℕ → Memory → List ℕ → ℕ
  spent t m ws = length (all_residual_bytes (coded_words choice t m ws))

  pub spent-word : (t : ℕ) (m : Memory) (v : ℕ) (vs : List ℕ) → spent t m (v ∷ vs) ≡ written (coded_word choice m v).code + spent t (learn t m v) vs
  spent-word t m v vs = length_residuals (coded_word choice m v) (coded_words choice t (learn t m v) vs)

  -- ---- a predictor that closes in on a run

  -- On m v: at the memory m the run goes on with the word v. Each word of the run updates the hash in one way; where that keeps the hash, the next word is free.
  module _ (t d : ℕ) (hash : Memory → ℕ) (next : ℕ → ℕ) (On : Memory → ℕ → Type 0)
      (goes_on : (m : Memory) (v : ℕ) → On m v → On (learn t m v) (add64 v d))
      (updated : (m : Memory) (v : ℕ) → On m v → hash (learn t m v) ≡ next (hash m))
      (free : (m : Memory) (v : ℕ) → On m v → hash (learn t m v) ≡ hash m → written (coded_word choice (learn t m v) (add64 v d)).code ≡ 0) where
    -- once an update keeps the hash, what follows in the run costs nothing
    stayed : (k : ℕ) (m : Memory) (v : ℕ) (ws : List ℕ) → On m v → next (hash m) ≡ hash m
        → spent t (learn t m v) (words_from (add64 v d) d k ++ ws) ≡ spent t (after t (learn t m v) (words_from (add64 v d) d k)) ws
    stayed zero m v ws o e = refl
    stayed (suc k) m v ws o e =
        let f : hash (learn t m v) ≡ hash m = updated m v o ∙ e in
        omega (
          arith,
          spent-word t (learn t m v) (add64 v d) (words_from (add64 (add64 v d) d) d k ++ ws),
          free m v o f,
          stayed k (learn t m v) (add64 v d) ws (goes_on m v o) (rw f e),
        )

    -- where u updates settle the hash, u words of the run and one more may cost
    closing : (u k : ℕ) (m : Memory) (v : ℕ) (ws : List ℕ) → On m v → times u next (next (hash m)) ≡ times u next (hash m)
        → spent t m (words_from v d k ++ ws) ≤ 8 * (u + 1) + spent t (after t m (words_from v d k)) ws
    closing u zero m v ws o e = omega arith
    closing zero (suc k) m v ws o e =
        omega (arith, spent-word t m v (words_from (add64 v d) d k ++ ws), written_small (coded_word choice m v).code, stayed k m v ws o e)
    closing (suc u) (suc k) m v ws o e =
        omega (
          arith,
          spent-word t m v (words_from (add64 v d) d k ++ ws),
          written_small (coded_word choice m v).code,
          closing u k (learn t m v) (add64 v d) ws (goes_on m v o) (rw (updated m v o) e),
        )

  -- ---- fcm on equal words

  module _ (t d w : ℕ) (same : add64 w d ≡ w) where
    -- every word of the run is w
    record OnEqual (m : Memory) (v : ℕ) : Type 0 where
      pub held : Held t m
      pub word : v ≡ w

    equal_goes_on : (m : Memory) (v : ℕ) → OnEqual m v → OnEqual (learn t m v) (add64 v d)
    equal_goes_on m v o = record { held = held-learn t m v o.held; word = rw o.word same }

    equal_updated : (m : Memory) (v : ℕ) → OnEqual m v → (learn t m v).fcm_hash ≡ update 6 t (shifted_right 48 w) m.fcm_hash
    unfolding learn next_fcm_hash update
    equal_updated m v o = rw o.word

    equal_stored : (m : Memory) (v : ℕ) → OnEqual m v → get_or (learn t m v).fcm m.fcm_hash 0 ≡ w
    unfolding learn
    equal_stored m v o = get_or-set_same m.fcm m.fcm_hash v 0 (omega (arith, o.held.fcm, o.held.fcm_hash)) ∙ o.word

    equal_free : (m : Memory) (v : ℕ) → OnEqual m v → (learn t m v).fcm_hash ≡ m.fcm_hash → written (coded_word choice (learn t m v) (add64 v d)).code ≡ 0
    unfolding fcm_prediction
    equal_free m v o e = fcm_free choice thrifty (learn t m v) (add64 v d) (rw (e, equal_stored m v o) (sym (equal_goes_on m v o).word))

    pub equal_run : (k : ℕ) (m : Memory) (ws : List ℕ) → Held t m
        → spent t m (words_from w d k ++ ws) ≤ 8 * ((t + 5) / 6 + 1) + spent t (after t m (words_from w d k)) ws
    equal_run k m ws h =
        closing t d (λ n. n.fcm_hash) (update 6 t (shifted_right 48 w)) OnEqual equal_goes_on equal_updated equal_free ((t + 5) / 6) k m w ws
        (record { held = h; word = refl }) ((settles 6 t _ ((t + 5) / 6) (omega arith)).stays _ h.fcm_hash)

  -- ---- dfcm on words one fixed difference apart

  module _ (t d : ℕ) where
    -- every word of the run is the last word plus d
    record OnSteps (m : Memory) (v : ℕ) : Type 0 where
      pub held : Held t m
      pub last : m.last < 2 ^ 64
      pub word : v ≡ add64 m.last d

    -- after any word the run may start
    steps_start : (m : Memory) (v : ℕ) → Held t m → v < 2 ^ 64 → OnSteps (learn t m v) (add64 v d)
    unfolding learn
    steps_start m v h l = record { held = held-learn t m v h; last = l; word = refl }

    sum_small : (x : ℕ) → add64 x d < 2 ^ 64
    unfolding add64
    sum_small x = omega arith

    steps_goes_on : (m : Memory) (v : ℕ) → OnSteps m v → OnSteps (learn t m v) (add64 v d)
    steps_goes_on m v o = steps_start m v o.held (rw o.word (sum_small m.last))

    steps_difference : (m : Memory) (v : ℕ) → OnSteps m v → difference m v ≡ d % 2 ^ 64
    unfolding difference sub64 add64
    steps_difference m v o = omega (arith, o.word, o.last)

    steps_sum : (v : ℕ) → add64 (d % 2 ^ 64) v ≡ add64 v d
    unfolding add64
    steps_sum v = omega arith

    steps_updated : (m : Memory) (v : ℕ) → OnSteps m v → (learn t m v).dfcm_hash ≡ update 2 t (shifted_right 40 (d % 2 ^ 64)) m.dfcm_hash
    unfolding learn next_dfcm_hash update
    steps_updated m v o = rw (steps_difference m v o)

    steps_stored : (m : Memory) (v : ℕ) → OnSteps m v → get_or (learn t m v).dfcm m.dfcm_hash 0 ≡ d % 2 ^ 64
    unfolding learn difference sub64 add64
    steps_stored m v o =
        let h : m.dfcm_hash < length m.dfcm = omega (arith, o.held.dfcm, o.held.dfcm_hash) in
        rw get_or-set_same (omega (arith, o.word, o.last))

    steps_free : (m : Memory) (v : ℕ) → OnSteps m v → (learn t m v).dfcm_hash ≡ m.dfcm_hash → written (coded_word choice (learn t m v) (add64 v d)).code ≡ 0
    unfolding learn dfcm_prediction
    steps_free m v o e = dfcm_free choice thrifty (learn t m v) (add64 v d) (rw (e, steps_stored m v o) (steps_sum v))

    -- the first word sets the last word, and may cost
    pub steps_run : (k : ℕ) (m : Memory) (v : ℕ) (ws : List ℕ) → Held t m → v < 2 ^ 64
        → spent t m (words_from v d k ++ ws) ≤ 8 * ((t + 1) / 2 + 2) + spent t (after t m (words_from v d k)) ws
    steps_run zero m v ws h l = omega arith
    steps_run (suc k) m v ws h l =
        omega (
          arith,
          spent-word t m v (words_from (add64 v d) d k ++ ws),
          written_small (coded_word choice m v).code,
          closing t d (λ n. n.dfcm_hash) (update 2 t (shifted_right 40 (d % 2 ^ 64))) OnSteps steps_goes_on steps_updated steps_free ((t + 1) / 2) k (learn t m v) (add64 v d) ws
              (steps_start m v h l) ((settles 2 t _ ((t + 1) / 2) (omega arith)).stays _ (held-learn t m v h).dfcm_hash),
        )
