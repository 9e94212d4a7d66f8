-- How a test says to run a program.
use Rattle.std.specs.Prelude.{ℕ, List, [], ◌∷◌, Option, Some, None, codes}
use Rattle.plir_checks.specs.Lines.{said}

-- the first of two, if there is one
abbrev pub or_else : {X : Type 0} → Option X → Option X → Option X
or_else (Some x) other = Some x
or_else None other = other

-- what the first comment that begins with `RUN:` says behind it
abbrev pub run_in : List (List ℕ) → Option (List ℕ)
run_in [] = None
run_in (line ∷ lines) = or_else (said (codes "RUN:") line) (run_in lines)
