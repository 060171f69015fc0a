-- What the code reads of a trailer and of a directory.
use mathlib.Core.Path.{◌≡◌, refl, sym, ◌∙◌}
use mathlib.Core.List.{List}
use mathlib.Core.Bool.{Bool, false}
use Prim.Native.Nat.{ℕ, ◌+◌, ◌-◌, ◌*◌, ◌^◌, ◌≤◌, ◌<◌}
use native.Mathlib.Omega.{arith}
use lib.ListN.{length, take, drop}
use lib.Dec.{eqb}
use borrow.Author.Tests.{ne_eqb}
use Rattle.std.proofs.Math.Pow.{pow_mono}
use Rattle.words.specs.Bytes.{same_bytes}
use Rattle.exam_rules.specs.File.{mark}
use Rattle.exam_rules.specs.Reading.{mark_in, distance_in, entries_in, directory_at, file_in}
use Rattle.exam_rules.specs.Numbers.{joins, entries_number, directory_number}
use Rattle.exam_rules.specs.Inside.{entries_listed}
use Rattle.exam_rules.proofs.Opens.{Trails, trails-ends, directory-is}
use Rattle.exam_rules.proofs.Listed.{listed-part}

pub mark_read : (f : List ℕ) (s r : Bool) → 32 ≤ length f → s ≡ same_bytes (take (length f - 32 + 4 - (length f - 32)) (drop (length f - 32) f)) mark → s ≡ r → same_bytes (mark_in f) mark ≡ r
mark_read f s r h e q =
    let k : length f - 32 + 4 - (length f - 32) ≡ 4 = omega arith in
    sym (rw k at e) ∙ q

-- the directory, between its place and the trailer, lists the entries
pub directory_read : (f : List ℕ) (distance k : ℕ) → Trails f → distance ≡ distance_in f
    → k ≡ entries_number joins 0 0 (entries_listed (take (length f - 32 - (length f - distance)) (drop (length f - distance) f))) (length f - distance) → k ≡ directory_number (file_in f)
directory_read f distance k r d q =
    let m : length f - 32 - (length f - distance) ≡ 12 * entries_in f = omega (arith, r.distance, r.within) in
    let e = listed-part f (directory_at f) (entries_in f) (12 * entries_in f) refl (omega (arith, trails-ends f r)) in
    rw (m, d, e) at q ∙ sym (directory-is f)

-- no number below 2 ^ 64 is a larger power of two
pub no_table : (n t : ℕ) → n < 2 ^ 64 → 63 < t → eqb n (2 ^ t) ≡ false
no_table n t small h = ne_eqb n (2 ^ t) (λ e. omega (arith, e, pow_mono h))
