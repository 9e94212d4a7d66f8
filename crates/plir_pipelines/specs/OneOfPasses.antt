-- What a command line says of passes of one of two kinds.
use Rattle.std.specs.Prelude.{ℕ, List}
use Rattle.plir_pipelines.specs.Options.{OptionRule}
use Rattle.plir_pipelines.specs.declared.one_of.OneOf.{OneOf}
use Rattle.plir_pipelines.specs.declared.one_of.OneOf.TheVariants.{First, Second}

module _ {P Q : Type 0} where
  -- the name that a pass has by its kind
  abbrev pub name_by_kind : (P → List ℕ) → (Q → List ℕ) → OneOf P Q → List ℕ
  name_by_kind first second (First p) = first p
  name_by_kind first second (Second q) = second q

  -- the options that it has by its kind
  abbrev pub options_by_kind : (P → List OptionRule) → (Q → List OptionRule) → OneOf P Q → List OptionRule
  options_by_kind first second (First p) = first p
  options_by_kind first second (Second q) = second q

  -- what it is by its kind once the option at a place is given a number
  abbrev pub with_by_kind : (P → ℕ → ℕ → P) → (Q → ℕ → ℕ → Q) → OneOf P Q → ℕ → ℕ → OneOf P Q
  with_by_kind first second (First p) place n = First (first p place n)
  with_by_kind first second (Second q) place n = Second (second q place n)
