-- Steps and the passes that they name, as far as a loop has come.
use Rattle.std.proofs.Common.{◌≡◌, ℕ, ◌+◌, ◌<◌, ◌≤◌, List, length, drop, take, get_or, Some}
use Rattle.std.proofs.Common.{subst}
use Rattle.std.proofs.lemmas.List.{take_all}
use Rattle.plir_pipelines.specs.declared.step.Step.{Step}
use Rattle.plir_pipelines.specs.declared.step.StepErr.{StepErr}
use Rattle.plir_pipelines.specs.declared.step.StepErr.TheVariants as of_steps
use Rattle.plir_pipelines.specs.declared.passes.PipelineErr.{PipelineErr}
use Rattle.plir_pipelines.specs.declared.passes.PipelineErr.TheVariants.{Malformed, NoPass, NoOption, OutOfRange}
use Rattle.plir_pipelines.specs.declared.passes.PipelineErr.TheVariants.{OutOfMemory}
use Rattle.plir_pipelines.specs.Options.{AreSetRefused, OptionRule}
use Rattle.plir_pipelines.specs.Pipelines.{AreSteps, AreStepsRefused, words_of}
use Rattle.plir_pipelines.specs.Passes.{AnyNameRefused, AreNamed, AreNamesRefused, IsNameRefused, IsPipelineRefused}
use Rattle.plir_pipelines.specs.Passes.{bearer, of_step}
use Rattle.plir_pipelines.proofs.Zipped.{parted}

module _ {P : Type 0} (name_of : P → List ℕ) (options_of : P → List OptionRule) (with_option : P → ℕ → ℕ → P)
    (offered : List P) where
  -- what the options of the pass that a step names are given is refused
  pub name-refused : (step : Step) (q : P) → bearer name_of offered step.name.now ≡ Some q → (e : PipelineErr) →
      AreSetRefused name_of options_of with_option step.settings.items q e →
      IsNameRefused name_of options_of with_option offered step e
  name-refused step q is (NoPass name) h = absurd h.refused
  name-refused step q is (Malformed err) h = (q, is, h)
  name-refused step q is (NoOption pass name) h = (q, is, h)
  name-refused step q is (OutOfRange pass option n) h = (q, is, h)
  name-refused step q is OutOfMemory h = (q, is, h)

  module _ (steps : List Step) (i : ℕ) where
    -- all steps name passes
    pub names-all : (passes : List P) → length steps ≤ i →
        AreNamed name_of options_of with_option offered (take i steps) passes →
        AreNamed name_of options_of with_option offered steps passes
    names-all passes past so_far =
        subst (λ z. AreNamed name_of options_of with_option offered z passes) (take_all i steps past) so_far

    -- the step at a place is refused
    pub names-refused : (d : Step) (passes : List P) → i < length steps →
        AreNamed name_of options_of with_option offered (take i steps) passes → (e : PipelineErr) →
        IsNameRefused name_of options_of with_option offered (get_or steps i d) e →
        AreNamesRefused name_of options_of with_option offered steps e
    names-refused d passes below so_far e h = by e h
      where
        any : (e : PipelineErr) → IsNameRefused name_of options_of with_option offered (get_or steps i d) e →
            AnyNameRefused name_of options_of with_option offered steps e
        any e h = record {
          front = take i steps;
          step = get_or steps i d;
          back = drop (i + 1) steps;
          passes = passes;
          parted = parted steps i d below;
          named = so_far;
          refused = h;
        }

        by : (e : PipelineErr) → IsNameRefused name_of options_of with_option offered (get_or steps i d) e →
            AreNamesRefused name_of options_of with_option offered steps e
        by (NoPass name) h = any (NoPass name) h
        by (Malformed err) h = any (Malformed err) h
        by (NoOption pass name) h = any (NoOption pass name) h
        by (OutOfRange pass option n) h = any (OutOfRange pass option n) h
        by OutOfMemory h = tt

  module _ (text : List ℕ) where
    -- a text is no pipeline
    pub pipeline-malformed : (e : StepErr) → AreStepsRefused (words_of text) e →
        IsPipelineRefused name_of options_of with_option offered text (of_step e)
    pipeline-malformed (of_steps.Unclosed step) h = h
    pipeline-malformed (of_steps.NoSetting word) h = h
    pipeline-malformed (of_steps.NoNumber name number) h = h
    pipeline-malformed (of_steps.Twice name) h = h
    pipeline-malformed of_steps.OutOfMemory h = tt

    -- one of its steps is refused
    pub pipeline-refused : (steps : List Step) → AreSteps (words_of text) steps → (e : PipelineErr) →
        AreNamesRefused name_of options_of with_option offered steps e →
        IsPipelineRefused name_of options_of with_option offered text e
    pipeline-refused steps read (NoPass name) h = (steps, read, h)
    pipeline-refused steps read (Malformed err) h = absurd (settled h.refused)
      where
        settled : IsNameRefused name_of options_of with_option offered h.step (Malformed err) → ⊥
        settled refused = refused.2.refused
    pipeline-refused steps read (NoOption pass name) h = (steps, read, h)
    pipeline-refused steps read (OutOfRange pass option n) h = (steps, read, h)
    pipeline-refused steps read OutOfMemory h = tt
