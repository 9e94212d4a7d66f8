-- Which passes a text names, of those that a program offers.
use Rattle.std.specs.Prelude.{◌≡◌, ℕ, List, ◌∷◌, ◌++◌, Option, Some, None, find}
use Rattle.std.specs.List.{AllZip}
use Rattle.std.specs.Str.{bytes_eq}
use Rattle.plir_pipelines.specs.declared.step.Step.{Step}
use Rattle.plir_pipelines.specs.declared.step.StepErr.{StepErr}
use Rattle.plir_pipelines.specs.declared.step.StepErr.TheVariants as of_steps
use Rattle.plir_pipelines.specs.declared.passes.PipelineErr.{PipelineErr}
use Rattle.plir_pipelines.specs.declared.passes.PipelineErr.TheVariants.{Malformed, NoPass}
use Rattle.plir_pipelines.specs.declared.passes.PipelineErr.TheVariants.{OutOfMemory}
use Rattle.plir_pipelines.specs.Options.{AreSet, AreSetRefused, OptionRule}
use Rattle.plir_pipelines.specs.Pipelines.{AreSteps, AreStepsRefused, words_of}

-- why a text is no pipeline, as it is told of passes
abbrev pub of_step : StepErr → PipelineErr
of_step of_steps.OutOfMemory = OutOfMemory
of_step e = Malformed e

-- `name_of` gives the names of passes, `offered` are those that may be named.
module _ {P : Type 0} (name_of : P → List ℕ) where
  -- the first of some passes that bears a name
  abbrev pub bearer : List P → List ℕ → Option P
  bearer offered name = find (λ p. bytes_eq (name_of p) name) offered

  module _ (options_of : P → List OptionRule) (with_option : P → ℕ → ℕ → P) (offered : List P) where
    -- a step names a pass, the first that bears its name, and that is so once its options are given their numbers
    abbrev pub IsNamed : Step → P → Type 0
    IsNamed step p = (q : P) × (bearer offered step.name.now ≡ Some q) ×
        AreSet name_of options_of with_option step.settings.items q p

    -- steps name passes, one for one and in their order
    abbrev pub AreNamed : List Step → List P → Type 0
    AreNamed = AllZip IsNamed

    -- A step names no pass; or it names one, and what its options are given is refused.
    abbrev pub IsNameRefused : Step → PipelineErr → Type 0
    IsNameRefused step (NoPass name) = (name ≡ step.name) × (bearer offered step.name.now ≡ None)
    IsNameRefused step e = (q : P) × (bearer offered step.name.now ≡ Some q) ×
        AreSetRefused name_of options_of with_option step.settings.items q e

    -- one of the steps is refused, and those in front of it are not
    pub record AnyNameRefused (steps : List Step) (e : PipelineErr) : Type 0 where
      pub front : List Step
      pub step : Step
      pub back : List Step
      pub passes : List P
      pub parted : steps ≡ front ++ step ∷ back
      pub named : AreNamed front passes
      pub refused : IsNameRefused step e

    -- that, or memory is wanting
    abbrev pub AreNamesRefused : List Step → PipelineErr → Type 0
    AreNamesRefused steps OutOfMemory = Unit {0}
    AreNamesRefused steps e = AnyNameRefused steps e

    -- what stands between the commas of a text are steps, and they name passes
    abbrev pub IsPipeline : List ℕ → List P → Type 0
    IsPipeline text passes = (steps : List Step) × AreSteps (words_of text) steps × AreNamed steps passes

    -- One of what stands between the commas of a text is no step; or all are, and one of them is refused; or memory is
    -- wanting.
    abbrev pub IsPipelineRefused : List ℕ → PipelineErr → Type 0
    IsPipelineRefused text (Malformed e) = AreStepsRefused (words_of text) e
    IsPipelineRefused text OutOfMemory = Unit {0}
    IsPipelineRefused text e = (steps : List Step) × AreSteps (words_of text) steps × AreNamesRefused steps e
