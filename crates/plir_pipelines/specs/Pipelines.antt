-- Passes by their names, each with what its options are given, as they are written.
use Rattle.std.specs.Prelude.{◌≡◌, ◌≢◌, ◌==◌, ◌⊎◌, ℕ, List, [], ◌∷◌, ◌++◌}
use Rattle.std.specs.List.{AllZip, slice_split}
use Rattle.std.specs.Str.{IsTrimAscii}
use Rattle.plir_pipelines.specs.declared.step.Step.{Step}
use Rattle.plir_pipelines.specs.declared.step.StepErr.{StepErr}
use Rattle.plir_pipelines.specs.declared.step.StepErr.TheVariants.{Unclosed, OutOfMemory}
use Rattle.plir_pipelines.specs.Settings.{AreRefused, AreSettings, IsCutAt, Lacks, setting_words}

-- what stands between the commas of a text
abbrev pub words_of : List ℕ → List (List ℕ)
words_of text = slice_split (λ b. b == 44) text

-- a text without `{` is a name alone
abbrev pub IsNameAlone : List ℕ → Step → Type 0
IsNameAlone text step = Lacks 123 text × (step.name.now ≡ text) × (step.settings.items ≡ [])

-- a text is opened by its first `{`, behind a front, and closed at its end, and `inside` stands between
abbrev pub IsBraced : List ℕ → List ℕ → List ℕ → Type 0
IsBraced text front inside = IsCutAt 123 text front (inside ++ 125 ∷ [])

-- A text is a name, and in braces behind it options with their numbers, with blanks between them.
abbrev pub IsNameWithSettings : List ℕ → Step → Type 0
IsNameWithSettings text step = (front : List ℕ) × (inside : List ℕ) × IsBraced text front inside ×
    IsTrimAscii front step.name.now × AreSettings (setting_words inside) step.settings.items

-- A word is a pass with what its options are given, with white space around it or none.
abbrev pub IsStep : List ℕ → Step → Type 0
IsStep word step =
    (text : List ℕ) × IsTrimAscii word text × (IsNameAlone text step ⊎ IsNameWithSettings text step)

-- a text doesn't end with `}`
abbrev pub IsOpen : List ℕ → Type 0
IsOpen text = (inside : List ℕ) → text ≢ inside ++ 125 ∷ []

-- a text is opened by its first `{`, and not closed at its end
abbrev pub IsUnclosed : List ℕ → Type 0
IsUnclosed text = (front : List ℕ) × (back : List ℕ) × IsCutAt 123 text front back × IsOpen back

-- A word is refused: but for the white space around it, it isn't closed; or what stands in its braces is refused; or
-- memory is wanting.
abbrev pub IsStepRefused : List ℕ → StepErr → Type 0
IsStepRefused word (Unclosed text) = IsTrimAscii word text.now × IsUnclosed text.now
IsStepRefused word OutOfMemory = Unit {0}
IsStepRefused word e = (text : List ℕ) × (front : List ℕ) × (inside : List ℕ) × IsTrimAscii word text ×
    IsBraced text front inside × AreRefused (setting_words inside) e

-- words are passes with what their options are given, one for one and in their order
abbrev pub AreSteps : List (List ℕ) → List Step → Type 0
AreSteps = AllZip IsStep

-- One of the words is refused, and those in front of it are passes; or memory is wanting.
abbrev pub AreStepsRefused : List (List ℕ) → StepErr → Type 0
AreStepsRefused words OutOfMemory = Unit {0}
AreStepsRefused words e = (front : List (List ℕ)) × (word : List ℕ) × (back : List (List ℕ)) × (steps : List Step) ×
    (words ≡ front ++ word ∷ back) × AreSteps front steps × IsStepRefused word e
