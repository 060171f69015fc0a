-- The numbers of the refusals, and what an answer tells: its number, and a value that is 0 where it is a refusal.
use Rattle.std.specs.Prelude.{ℕ, Result, Ok, Err}
use Rattle.answers.specs.declared.Refusal.{Refusal}
use Rattle.answers.specs.declared.Refusal.TheVariants.{Tables, TooManyWords, NoRoom, TooShort, Lengths, Filler, Trailer, ExamNumber, Directory, NoSuchSlot, SlotNotAbove, TooManyEntries, Padded, RecordOutside}

-- the number of a refusal
abbrev pub refusal_number : Refusal → ℕ
refusal_number Tables = 1
refusal_number TooManyWords = 2
refusal_number NoRoom = 3
refusal_number TooShort = 4
refusal_number Lengths = 5
refusal_number Filler = 6
refusal_number Trailer = 7
refusal_number ExamNumber = 8
refusal_number Directory = 9
refusal_number NoSuchSlot = 10
refusal_number SlotNotAbove = 11
refusal_number TooManyEntries = 12
refusal_number Padded = 13
refusal_number RecordOutside = 15

-- the number that an answer tells: 0, done, or the refusal's
abbrev pub number_told : {A : Type 0} → Result A Refusal → ℕ
number_told (Ok a) = 0
number_told (Err r) = refusal_number r

-- a value that an answer tells: 0 where it is a refusal
abbrev pub value_told : {A : Type 0} → (A → ℕ) → Result A Refusal → ℕ
value_told value (Ok a) = value a
value_told value (Err r) = 0
