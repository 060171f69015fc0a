-- What listing answers, and what it leaves in the text lent to it, refused or not.
use Rattle.std.specs.Prelude.{◌≡◌, ℕ, List, length, Result}
use Rattle.answers.specs.Answers.{afterwards, over}
use Rattle.answers.specs.Refusals.{number_told, value_told}
use Rattle.answers.specs.declared.Refusal.{Refusal}
use Rattle.exam_rules.specs.Reading.{file_in}
use Rattle.listing.specs.Text.{listing}
use Rattle.listing.specs.Numbers.{list_number}

-- what list tells: the number, and the text's length or 0
pub record Listed : Type 0 where
  pub number : ℕ
  pub length : ℕ

abbrev pub listed_told : Result ℕ Refusal → Listed
listed_told r = record { number = number_told r; length = value_told (λ n. n) r }

-- list answers the number, and the text's length or 0 where it is refused
unfoldable pub listed : ℕ → List ℕ → Listed
listed k text = record { number = k; length = afterwards k (length text) 0 }

-- list(file, text): where the number is 0 the text holds the listing and then its old content; else it is as it was
module _ (f text : List ℕ) where
  abbrev pub lists_number : ℕ
  lists_number = list_number f (length text)

  pub record Lists (r : Listed) (text' : List ℕ) : Type 0 where
    pub answer : r ≡ listed lists_number (listing (file_in f))
    pub text_left : text' ≡ afterwards lists_number (over (listing (file_in f)) text) text
