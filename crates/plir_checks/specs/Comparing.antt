-- The first difference between the errors that came and those that were expected.
use Rattle.std.specs.Prelude.{◌≡◌, ◌+◌, ◌==◌, ◌&&◌, ℕ, Bool, true, List, [], ◌∷◌, Option, Some, None, cond, option_map}
use Rattle.std.specs.List.Sorted.{IsPermutation}
use Rattle.std.specs.Option.{option_map_or}
use Rattle.plir_checks.specs.declared.comparing.Came.{Came}
use Rattle.plir_checks.specs.declared.comparing.CompareErr.{CompareErr}
use Rattle.plir_checks.specs.declared.comparing.CompareErr.TheVariants.{Memory, Missing, Unexpected}
use Rattle.plir_checks.specs.declared.expected.Expected.{Expected}
use Rattle.plir_checks.specs.Cuts.{has_word}

-- an error that came is one that was expected: it came at its line, and its message has its text in it
abbrev pub is_met : Came → Expected → Bool
is_met came expected = (expected.line == came.line) && has_word expected.text.now came.message.now

-- those that are left once one that came has taken the first that it meets
abbrev pub left_by : Came → List Expected → Option (List Expected)
left_by came [] = None
left_by came (expected ∷ others) =
    cond (is_met came expected) (Some others) (option_map (λ left. expected ∷ left) (left_by came others))

-- the first that none took
abbrev pub missing : List Expected → Option CompareErr
missing [] = None
missing (expected ∷ others) = Some (Missing expected.line expected.told_at)

-- The first difference, where the first that came has a place: in the order in which they came, each takes the first
-- that it meets of those that are left.
abbrev pub difference : ℕ → List Expected → List Came → Option CompareErr
difference place expected [] = missing expected
difference place expected (came ∷ others) =
    option_map_or (λ left. difference (place + 1) left others) (left_by came expected)
    (Some (Unexpected came.line place))

-- each of the errors that came is the expected one at its place, and there are as many
abbrev pub AreEach : List Came → List Expected → Type 0
AreEach [] [] = Unit {0}
AreEach (came ∷ others) (expected ∷ more) = (is_met came expected ≡ true) × AreEach others more
AreEach _ _ = ⊥

-- The errors that came are those that were expected, each counted once: these in some order, each at its own place.
abbrev pub AreMatched : List Expected → List Came → Type 0
AreMatched expected came = (ordered : List Expected) × IsPermutation expected ordered × AreEach came ordered

-- what is told is a difference, or that memory was refused
abbrev pub IsToldOf : Option CompareErr → CompareErr → Type 0
IsToldOf found Memory = Unit {0}
IsToldOf found (Unexpected line place) = found ≡ Some (Unexpected line place)
IsToldOf found (Missing line told_at) = found ≡ Some (Missing line told_at)
