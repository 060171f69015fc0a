-- What a program says of a refusal, and what it writes for an answer.
use Rattle.std.specs.Prelude.{ℕ, List, [], ◌++◌, codes, decimal}
use Rattle.answers.specs.Answers.{afterwards}

-- the line that tells a refusal's number
abbrev pub refusal : ℕ → List ℕ
refusal number = codes "refused " ++ decimal number ++ codes "\n"

-- what it writes to its output for an answer with this number: these bytes, or nothing where it refuses
unfoldable pub output_of : ℕ → List ℕ → List ℕ
output_of number bytes = afterwards number bytes []

-- what it writes to its errors: nothing, or the refusal
unfoldable pub errors_of : ℕ → List ℕ
errors_of number = afterwards number [] (refusal number)
