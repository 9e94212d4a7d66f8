-- What lines say must come.
use Rattle.std.specs.Prelude.{◌≡◌, ◌+◌, ◌==◌, ℕ, zero, suc, List, [], ◌∷◌, ◌++◌, Option, Some, None, Result, Ok, Err}
use Rattle.std.specs.Prelude.{codes, cond}
use Rattle.std.specs.Prelude.{length, option_map}
use Rattle.std.specs.Option.{option_and_then, option_to_list}
use Rattle.plir_checks.specs.declared.expected.Expected.{Expected}
use Rattle.plir_checks.specs.declared.expected.ExpectedErr.{ExpectedErr}
use Rattle.plir_checks.specs.declared.expected.ExpectedErr.TheVariants.{Malformed, Memory, NoSuchLine}
use Rattle.plir_checks.specs.Cuts.{cut_at}
use Rattle.plir_checks.specs.Lines.{said, trimmed}
use Rattle.plir_checks.specs.Places.{line_meant}

-- an expected error, with its text
pub record SeenExpected : Type 0 where
  pub line : ℕ
  pub told_at : ℕ
  pub text : List ℕ

-- what an expected error holds
abbrev pub seen_expected : Expected → SeenExpected
seen_expected e = record { line = e.line; told_at = e.told_at; text = e.text.now }

-- what stands before the first `{{`, without blanks around it, and what stands from there to the first `}}`, if nothing
-- stands behind that
abbrev pub word_and_text : List ℕ → Option (List ℕ × List ℕ)
word_and_text told =
    option_and_then
    (λ p. option_and_then (λ q. cond (length q.1 == 0) (Some (trimmed p.0, q.0)) None) (cut_at (codes "}}") p.1))
    (cut_at (codes "{{") told)

-- a text that is expected at a line, which is none at 0
abbrev pub expected_at : (told_at : ℕ) (text : List ℕ) → ℕ → Result SeenExpected ExpectedErr
expected_at told_at text zero = Err (NoSuchLine told_at)
expected_at told_at text (suc before) = Ok (record { line = suc before; told_at = told_at; text = text })

-- what is expected, if something is meant
abbrev pub expected_if : (told_at : ℕ) (text : List ℕ) → Option ℕ → Result SeenExpected ExpectedErr
expected_if told_at text None = Err (Malformed told_at)
expected_if told_at text (Some line) = expected_at told_at text line

-- what a word and a text say in the line of a number
abbrev pub expected_by : ℕ → Option (List ℕ × List ℕ) → Result SeenExpected ExpectedErr
expected_by number None = Err (Malformed number)
expected_by number (Some p) = expected_if number p.1 (line_meant number p.0)

-- what stands behind `expected-error` in the line of a number, read
abbrev pub read_told : ℕ → List ℕ → Result SeenExpected ExpectedErr
read_told number told = expected_by number (word_and_text told)

-- What comments say behind `expected-error`, read, in lines of which the first has a number.
abbrev pub readings : ℕ → List (List ℕ) → List (Result SeenExpected ExpectedErr)
readings number [] = []
readings number (line ∷ lines) =
    option_to_list (option_map (read_told number) (said (codes "expected-error") line)) ++ readings (number + 1) lines

-- the first refusal
abbrev pub first_refusal : List (Result SeenExpected ExpectedErr) → Option ExpectedErr
first_refusal [] = None
first_refusal (Ok expected ∷ others) = first_refusal others
first_refusal (Err error ∷ others) = Some error

-- what is told is a refusal, or that memory was refused
abbrev pub IsToldOf : Option ExpectedErr → ExpectedErr → Type 0
IsToldOf refusal Memory = Unit {0}
IsToldOf refusal (Malformed line) = refusal ≡ Some (Malformed line)
IsToldOf refusal (NoSuchLine line) = refusal ≡ Some (NoSuchLine line)
