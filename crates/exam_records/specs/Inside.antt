-- What appending one record ensures. No promise of a call is stated here.
use Rattle.std.specs.Prelude.{◌≡◌, ℕ, List}
use Rattle.exam_rules.specs.Numbers.{open_in_number}
use Rattle.exam_rules.specs.Calls.{Lent, record_appended, Made}
use Rattle.exam_rules.specs.declared.Record.{Record}

-- a record was appended to a file of l bytes that opens, or refused; where it was appended, the file that is left opens
pub record AppendsRecord (exam : ℕ) (words : List ℕ) (r : Record) (l : ℕ) (s : Lent) (m : Made) (s' : Lent) : Type 0 where
  pub outcome : (m, s') ≡ record_appended words r l s
  pub opens : m.number ≡ 0 → open_in_number s'.file m.length exam ≡ 0
