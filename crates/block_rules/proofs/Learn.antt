-- Tables of one size stay so while they learn, and hashes within them.
use mathlib.Core.Path.{◌≡◌, sym, ap, ◌∙◌, subst}
use mathlib.Core.List.{List, [], ◌∷◌}
use Prim.Native.Nat.{ℕ, ◌^◌, ◌<◌}
use native.Mathlib.Omega.{arith}
use native.Mathlib.Nat.{mod-lt}
use lib.ListN.{length, replicate, length-set, length-replicate}
use lib.Pow.{pow_pos}
use Rattle.words.specs.Words.{low_bits}
use Rattle.block_rules.specs.Predictors.{Memory, cleared, next_fcm_hash, next_dfcm_hash, learn, after}
use Rattle.block_rules.specs.Numbers.{t_of}
use Rattle.block_rules.specs.Inside.{memory, Sized, Ready, Cleared}
use Rattle.block_rules.specs.declared.Carry.{Carry}
use Rattle.block_rules.proofs.Tables.{sized-some}

-- the memory m has tables of 2 ^ t words, and hashes within them
pub record Held (t : ℕ) (m : Memory) : Type 0 where
  pub fcm : length m.fcm ≡ 2 ^ t
  pub dfcm : length m.dfcm ≡ 2 ^ t
  pub fcm_hash : m.fcm_hash < 2 ^ t
  pub dfcm_hash : m.dfcm_hash < 2 ^ t

pub held-cleared : (t : ℕ) → Held t (cleared t)
unfolding cleared
held-cleared t = record { fcm = length-replicate _ _; dfcm = length-replicate _ _; fcm_hash = pow_pos t; dfcm_hash = pow_pos t }

pub held-learn : (t : ℕ) (m : Memory) (v : ℕ) → Held t m → Held t (learn t m v)
unfolding learn next_fcm_hash next_dfcm_hash low_bits
held-learn t m v h = record { fcm = simp length-set h.fcm; dfcm = simp length-set h.dfcm; fcm_hash = mod-lt _ (pow_pos t); dfcm_hash = mod-lt _ (pow_pos t) }

pub held_after : (t : ℕ) (ws : List ℕ) (m : Memory) → Held t m → Held t (after t m ws)
held_after t [] m h = h
held_after t (v ∷ vs) m h = held_after t vs (learn t m v) (held-learn t m v h)

pub ready-learn : (f d f' d' : List ℕ) (c c' : Carry) (v : ℕ) → Ready f d c → memory f' d' c' ≡ learn (t_of (length f)) (memory f d c) v → Ready f' d' c'
ready-learn f d f' d' c c' v r e =
    let s = r.sized in
    let p = s.power in
    let h : Held (t_of (length f)) (memory f' d' c') =
    subst (λ (m : Memory). Held (t_of (length f)) m) (sym e)
    (held-learn _ (memory f d c) v (record { fcm = p; dfcm = s.same ∙ p; fcm_hash = rw (← p) r.fcm; dfcm_hash = rw (← p) r.dfcm })) in
    let lf : length f' ≡ length f = h.fcm ∙ sym p in
    let ld : length d' ≡ length d = h.dfcm ∙ sym p ∙ sym s.same in
    record { sized = rw (lf, ld) s; fcm = omega (arith, h.fcm, h.fcm_hash); dfcm = omega (arith, h.fcm, h.dfcm_hash) }

-- the carry before the first word
abbrev pub start : Carry
start = record { fcm = 0; dfcm = 0; last = 0 }

pub cleared-is : (f d : List ℕ) → Cleared f d → memory f d start ≡ cleared (t_of (length f))
unfolding cleared
cleared-is f d z = rw (← z.sized.power) (cc (z.fcm, z.dfcm))

pub ready-start : (f d : List ℕ) → Cleared f d → Ready f d start
ready-start f d z =
    let p : 0 < length f = sized-some _ _ z.sized in
    record { sized = z.sized; fcm = p; dfcm = p }

pub cleared_of : (f d f' d' : List ℕ) → Sized (length f) (length d) → f' ≡ replicate (length f) 0 → d' ≡ replicate (length d) 0 → Cleared f' d'
cleared_of f d f' d' s p q =
    let lf : length f' ≡ length f = ap length p ∙ length-replicate (length f) 0 in
    let ld : length d' ≡ length d = ap length q ∙ length-replicate (length d) 0 in
    record { sized = rw (lf, ld) s; fcm = rw lf p; dfcm = rw lf (q ∙ ap (λ (k : ℕ). replicate k 0) s.same) }
