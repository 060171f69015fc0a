-- One record.
use mathlib.Core.Path.{◌≡◌, sym}
use mathlib.Core.List.{List}
use Prim.Native.Nat.{ℕ, ◌+◌, ◌-◌, ◌^◌, ◌≤◌, ◌<◌}
use native.Mathlib.Omega.{arith}
use lib.ListN.{length, take, drop}
use Rattle.words.specs.Bytes.{Bytes}
use Rattle.exam_rules.specs.Numbers.{open_in_number}
use Rattle.exam_rules.specs.Calls.{Lent, lent, Appends, Made}
use Rattle.exam_rules.specs.declared.Record.{Record}
use Rattle.exam_rules.proofs.Kept.{more-opens}
use Rattle.exam_rules.proofs.Filling.{record_outside, append_to_record}
use Rattle.exam_records.specs.Inside.{AppendsRecord}

module _ (exam : ℕ) (words : List ℕ) (r : Record) (l : ℕ) where
  pub outside : (s : Lent) → length words < r.first + r.count → AppendsRecord exam words r l s (record { number = 15; length = 0 }) s
  outside s h = record { outcome = sym (record_outside words r l s h); opens = λ z. absurd (omega arith) }

  pub within : {b fcm dfcm bench b' fcm' dfcm' bench' : List ℕ} {m : Made} → Bytes b → r.slot < 2 ^ 32 → r.first + r.count ≤ length words → open_in_number b l exam ≡ 0
      → Appends b l exam r.slot (take (r.first + r.count - r.first) (drop r.first words)) fcm dfcm bench m b' fcm' dfcm' bench'
      → AppendsRecord exam words r l (lent b fcm dfcm bench) m (lent b' fcm' dfcm' bench')
  within bytes small h o c =
      let many : r.first + r.count - r.first ≡ r.count = omega arith in
      let d = rw many at c in
      record { outcome = append_to_record words r l _ h o d; opens = λ z. more-opens bytes small d z }
