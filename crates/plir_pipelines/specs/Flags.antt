-- The options of passes as options of a command line.
use Rattle.std.specs.Prelude.{◌≡◌, ◌+◌, ℕ, List, [], ◌∷◌, ◌++◌, codes, Option, Some, None, find}
use Rattle.std.specs.Prelude.{map, slice_get}
use Rattle.std.specs.List.{AllZip, flat_map}
use Rattle.std.specs.Str.{bytes_eq}
use Rattle.plir_pipelines.specs.declared.flags.Given.{Given}
use Rattle.plir_pipelines.specs.declared.step.StepErr.TheVariants.{NoNumber}
use Rattle.plir_pipelines.specs.declared.passes.PipelineErr.{PipelineErr}
use Rattle.plir_pipelines.specs.declared.passes.PipelineErr.TheVariants.{Malformed, OutOfRange, OutOfMemory}
use Rattle.plir_pipelines.specs.Options.{Allows, OptionRule, rule_of}
use Rattle.plir_pipelines.specs.Settings.{IsNumberRead}

-- the name of the option of a command line for one of a pass
abbrev pub flag_name : (pass option : List ℕ) → List ℕ
flag_name pass option = pass ++ (codes "-" ++ option)

-- those of a pass
abbrev pub flags_of_pass : (pass : List ℕ) → List OptionRule → List (List ℕ)
flags_of_pass pass rules = map (λ r. flag_name pass r.name) rules

-- what an option of a command line is given, if it is
abbrev pub given_for : List Given → List ℕ → Option Given
given_for given flag = find (λ g. bytes_eq g.flag.now flag) given

-- the number that is given, if one is; else the option's own
abbrev pub IsNumberOf : Option Given → OptionRule → ℕ → Type 0
IsNumberOf None rule n = n ≡ rule.default
IsNumberOf (Some g) rule n = IsNumberRead g.number.now (Some n)

-- what an option of a pass is given by a command line, or its own number
abbrev pub IsNumberGiven : List Given → (pass : List ℕ) → OptionRule → ℕ → Type 0
IsNumberGiven given pass rule n = IsNumberOf (given_for given (flag_name pass rule.name)) rule n

-- it is given what is no number, or memory is wanting
abbrev pub IsNumberRefused : List Given → (pass : List ℕ) → OptionRule → PipelineErr → Type 0
IsNumberRefused given pass rule (Malformed (NoNumber flag number)) =
    (g : Given) × (given_for given (flag_name pass rule.name) ≡ Some g) × (flag ≡ g.flag) × (number ≡ g.number) ×
    IsNumberRead g.number.now None
IsNumberRefused given pass rule OutOfMemory = Unit {0}
IsNumberRefused given pass rule _ = ⊥

-- `name_of` gives the names of passes, `options_of` their options, and `with_option` what they are once an option is
-- given a number.
module _ {P : Type 0} (name_of : P → List ℕ) (options_of : P → List OptionRule) where
  -- those of passes, in their order
  abbrev pub flags_in : List P → List (List ℕ)
  flags_in passes = flat_map (λ p. flags_of_pass (name_of p) (options_of p)) passes

  -- one of the options of a pass is given what is no number, or can't be given its number; or memory is wanting
  abbrev pub IsFlagRefused : List Given → P → PipelineErr → Type 0
  IsFlagRefused given p (OutOfRange pass option n) = (pass.now ≡ name_of p) × ((place : ℕ) ×
      (slice_get (options_of p) place ≡ Some (rule_of option)) × IsNumberGiven given (name_of p) (rule_of option) n ×
      (Allows (rule_of option) n → ⊥))
  IsFlagRefused given p e = (place : ℕ) × (rule : OptionRule) × (slice_get (options_of p) place ≡ Some rule) ×
      IsNumberRefused given (name_of p) rule e

  -- that is so of one of some passes, or memory is wanting
  abbrev pub IsConfigureRefused : List Given → List P → PipelineErr → Type 0
  IsConfigureRefused given passes OutOfMemory = Unit {0}
  IsConfigureRefused given passes e =
      (front : List P) × (p : P) × (back : List P) × (passes ≡ front ++ p ∷ back) × IsFlagRefused given p e

  module _ (with_option : P → ℕ → ℕ → P) where
    -- a pass with its options from a place on given numbers, one for each
    abbrev pub with_all : P → (place : ℕ) → List ℕ → P
    with_all p place [] = p
    with_all p place (n ∷ ns) = with_all (with_option p place n) (place + 1) ns

    -- Each option of a pass has what it is given, or its own number, and that is one that it can be given; and what the
    -- pass is then.
    pub record IsConfigured (given : List Given) (p q : P) : Type 0 where
      pub numbers : List ℕ
      pub each : AllZip (λ rule n. IsNumberGiven given (name_of p) rule n × Allows rule n) (options_of p) numbers
      pub is : q ≡ with_all p 0 numbers

    -- that of each of some passes, in their order
    abbrev pub AreConfigured : List Given → List P → List P → Type 0
    AreConfigured given = AllZip (IsConfigured given)
