-- The block of words, packed into the bench by a call that stores it in a file.
use mathlib.Core.Path.{ap, ◌∙◌}
use mathlib.Core.List.{List}
use Prim.Native.Nat.{ℕ, ◌≤◌}
use native.Mathlib.Omega.{arith}
use lib.ListN.{length, drop, length-append}
use Rattle.block_rules.specs.Block.{block}
use Rattle.block_rules.specs.Numbers.{t_of}
use Rattle.block_rules.specs.Inside.{PacksAll}
use Rattle.block_rules.proofs.Tables.{t_of_power}
use Rattle.exam_rules.proofs.Accept.{Storable}

-- the tables have the file's size, so they are packed with its t
pub packed_all : (t : ℕ) (words fcm dfcm bench : List ℕ) {kept buffer : ℕ} → t ≤ 16 → Storable t (length words) (length fcm) (length dfcm) kept buffer (length bench)
    → (k : ℕ) (fcm' dfcm' bench' : List ℕ) → PacksAll (t_of (length fcm)) words bench fcm' dfcm' bench' k → PacksAll t words bench fcm' dfcm' bench' k
packed_all t words fcm dfcm bench small s k fcm' dfcm' bench' p = rw (ap t_of s.size ∙ t_of_power t small) at p

pub bench-within : {t : ℕ} {words bench fcm' dfcm' bench' : List ℕ} {k : ℕ} → PacksAll t words bench fcm' dfcm' bench' k → k ≤ length bench'
bench-within {t} {words} {bench} p = let x = block t words in omega (arith, p.size, ap length p.out ∙ length-append x (drop (length x) bench))
