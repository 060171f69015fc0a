-- What the inner functions require and ensure. No promise of a call is stated here.
use Rattle.std.specs.Prelude.{◌≡◌, ℕ, ◌+◌, ◌^◌, ◌≤◌, List, length}
use Rattle.std.specs.Borrow.{MutBor}
use Rattle.block_rules.specs.Predictors.{Memory, cleared}
use Rattle.block_rules.specs.Numbers.{t_of}
use Rattle.block_rules.specs.Inside.{memory, Ready}
use Rattle.block_choice.specs.declared.predict.Predictors.{Predictors}

-- a mask that is one less than a table's length 2 ^ t, and a hash below that length
pub record Masked (mask hash : ℕ) : Type 0 where
  pub small : t_of (mask + 1) ≤ 16
  pub power : mask + 1 ≡ 2 ^ t_of (mask + 1)
  pub below : hash ≤ mask

-- what both predictors hold
abbrev pub held : Predictors → Memory
held p = memory p.fcm.now p.dfcm.now p.carry

-- the t of their tables
abbrev pub size : Predictors → ℕ
size p = t_of (length p.fcm.now)

-- they can predict and learn: tables of one size, and hashes within them
abbrev pub Able : Predictors → Type 0
Able p = Ready p.fcm.now p.dfcm.now p.carry

-- predictors come to hold m, over the same tables
pub record Becomes (p : Predictors) (m : Memory) (p' : Predictors) : Type 0 where
  pub same_fcm : p'.fcm.ghost_name ≡ p.fcm.ghost_name
  pub same_dfcm : p'.dfcm.ghost_name ≡ p.dfcm.ghost_name
  pub same_size : size p' ≡ size p
  pub able : Able p'
  pub holds : held p' ≡ m

-- the predictors before a block, over two tables
pub record Starts (f d : MutBor (List ℕ)) (p : Predictors) : Type 0 where
  pub same_fcm : p.fcm.ghost_name ≡ f.ghost_name
  pub same_dfcm : p.dfcm.ghost_name ≡ d.ghost_name
  pub same_size : size p ≡ t_of (length f.now)
  pub able : Able p
  pub holds : held p ≡ cleared (t_of (length f.now))
