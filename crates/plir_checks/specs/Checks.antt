-- The checks of lines, and the first that is at fault.
use Rattle.std.specs.Prelude.{◌≡◌, ◌+◌, ◌==◌, ◌&&◌, ℕ, Bool, true, false, List, [], ◌∷◌, ◌++◌, Option, Some, None}
use Rattle.std.specs.Prelude.{codes, cond}
use Rattle.std.specs.Prelude.{length, option_map}
use Rattle.std.specs.Option.{option_to_list}
use Rattle.plir_checks.specs.declared.checks.Check.{Check}
use Rattle.plir_checks.specs.declared.checks.CheckErr.{CheckErr}
use Rattle.plir_checks.specs.declared.checks.CheckErr.TheVariants.{Memory, NoText, NothingBefore}
use Rattle.plir_checks.specs.declared.checks.CheckKind.{CheckKind}
use Rattle.plir_checks.specs.declared.checks.CheckKind.TheVariants.{Behind, Next}
use Rattle.plir_checks.specs.Lines.{said}
use Rattle.plir_checks.specs.Running.{or_else}

-- a check, with its text
pub record SeenCheck : Type 0 where
  pub line : ℕ
  pub kind : CheckKind
  pub text : List ℕ

-- what a check holds
abbrev pub seen_check : Check → SeenCheck
seen_check c = record { line = c.line; kind = c.kind; text = c.text.now }

-- the kind and the text of a check, if a line is one: a comment that says a text behind `CHECK:` or `CHECK-NEXT:`
abbrev pub told_check : List ℕ → Option (CheckKind × List ℕ)
told_check line =
    or_else (option_map (λ t. (Behind, t)) (said (codes "CHECK:") line))
    (option_map (λ t. (Next, t)) (said (codes "CHECK-NEXT:") line))

-- the check of the line of a number, if it is one
abbrev pub check_of : ℕ → List ℕ → Option SeenCheck
check_of number line = option_map (λ p. record { line = number; kind = p.0; text = p.1 }) (told_check line)

-- the checks of lines, the first of which has a number
abbrev pub checks_in : ℕ → List (List ℕ) → List SeenCheck
checks_in number [] = []
checks_in number (line ∷ lines) = option_to_list (check_of number line) ++ checks_in (number + 1) lines

-- a check is one for the next line
abbrev pub is_next : CheckKind → Bool
is_next Behind = false
is_next Next = true

-- what is wrong with a check: it has no text, or it is the first and one for the next line
abbrev pub fault_of : (is_first : Bool) → SeenCheck → Option CheckErr
fault_of is_first check =
    cond (length check.text == 0) (Some (NoText check.line))
    (cond (is_first && is_next check.kind) (Some (NothingBefore check.line)) None)

-- what is wrong with the first of some checks that is at fault
abbrev pub first_fault : (is_first : Bool) → List SeenCheck → Option CheckErr
first_fault is_first [] = None
first_fault is_first (check ∷ checks) = or_else (fault_of is_first check) (first_fault false checks)

-- what is told is a fault, or that memory was refused
abbrev pub IsToldOf : Option CheckErr → CheckErr → Type 0
IsToldOf fault Memory = Unit {0}
IsToldOf fault (NoText line) = fault ≡ Some (NoText line)
IsToldOf fault (NothingBefore line) = fault ≡ Some (NothingBefore line)
