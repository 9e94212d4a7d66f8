-- Which passes a command line asks for.
use Rattle.std.specs.Prelude.{◌≡◌, ◌⊎◌, ℕ, List, [], ◌∷◌, Option, Some, None, map, string_bytes}
use Rattle.std.specs.List.{flat_map}
use Rattle.plir_pipelines.specs.declared.flags.Flag.{Flag}
use Rattle.plir_pipelines.specs.declared.flags.Given.{Given}
use Rattle.plir_pipelines.specs.declared.passes.PipelineErr.{PipelineErr}
use Rattle.plir_pipelines.specs.declared.passes.PipelineErr.TheVariants.{OutOfMemory}
use Rattle.plir_pipelines.specs.Flags.{AreConfigured, IsConfigureRefused}
use Rattle.plir_pipelines.specs.Options.{OptionRule}
use Rattle.plir_pipelines.specs.Passes.{IsPipeline, IsPipelineRefused}

-- a flag and the text that it is given
pub record FlagText : Type 0 where
  pub flag : List ℕ
  pub text : List ℕ

-- that of one that is given a number
abbrev pub text_of : Given → FlagText
text_of g = record { flag = g.flag.now; text = g.number.now }

-- what a flag of a name is given, if it is
abbrev pub given_by : Option (List ℕ) → List ℕ → List FlagText
given_by None name = []
given_by (Some text) name = record { flag = name; text = text } ∷ []

-- Some flags are given numbers: all those that have a value, in their order, with their values. `value` says which value
-- an option of the command line has, if it has one.
abbrev pub AreFlagsGiven : (value : List ℕ → Option (List ℕ)) → List Flag → List Given → Type 0
AreFlagsGiven value flags given =
    map text_of given ≡ flat_map (λ f. given_by (value (string_bytes f.text)) (string_bytes f.text)) flags

-- `name_of` gives the names of passes, `options_of` their options, and `with_option` what they are once an option is
-- given a number.
module _ {P : Type 0} (name_of : P → List ℕ) (options_of : P → List OptionRule) (with_option : P → ℕ → ℕ → P) where
  module _ (offered : List P) where
    -- where a text is given, the passes are those that it names
    abbrev pub AreNamedBy : Option (List ℕ) → List P → Type 0
    AreNamedBy (Some text) passes = IsPipeline name_of options_of with_option offered text passes
    AreNamedBy None passes = Unit {0}

    -- a text is given, and it names none, or memory is wanting
    abbrev pub IsRefusedBy : Option (List ℕ) → PipelineErr → Type 0
    IsRefusedBy (Some text) e = IsPipelineRefused name_of options_of with_option offered text e
    IsRefusedBy None e = e ≡ OutOfMemory

  module _ (value : List ℕ → Option (List ℕ)) (flags : List Flag) (offered : List P) (pipeline before : Option (List ℕ))
    where
      -- The passes that are offered have their options as flags give them, and else their own numbers; of those so, the
      -- ones that a pipeline names are asked for, where one is given, and the ones that another text names are told.
      pub record IsChosen (passes told : List P) : Type 0 where
        pub given : List Given
        pub configured : List P
        pub are_given : AreFlagsGiven value flags given
        pub are_configured : AreConfigured name_of options_of with_option given offered configured
        pub named : AreNamedBy configured pipeline passes
        pub are_told : AreNamedBy configured before told

      -- What flags give is refused; or one of the two texts is; or memory is wanting.
      pub record IsChoiceRefused (e : PipelineErr) : Type 0 where
        pub given : List Given
        pub are_given : AreFlagsGiven value flags given
        pub why : IsConfigureRefused name_of options_of given offered e ⊎ ((configured : List P) ×
            AreConfigured name_of options_of with_option given offered configured ×
            (IsRefusedBy configured pipeline e ⊎ IsRefusedBy configured before e))

      -- that, or memory was wanting before
      abbrev pub IsChoiceErr : PipelineErr → Type 0
      IsChoiceErr e = (e ≡ OutOfMemory) ⊎ IsChoiceRefused e
