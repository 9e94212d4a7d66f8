-- Options with their numbers, as they are written.
use Rattle.std.specs.Prelude.{◌≡◌, ◌≢◌, ◌==◌, ◌<◌, ◌^◌, ℕ, Bool, true, false, not, List, ◌∷◌, ◌++◌, length}
use Rattle.std.specs.Prelude.{Option, Some, None, slice_index, slice_index_or, take}
use Rattle.std.specs.List.{AllZip, filter, list_any, slice_split}
use Rattle.std.specs.Str.{bytes_eq}
use Rattle.std.specs.Str.Parse.{IsNumeral, digits_value, without_leading_plus}
use Rattle.plir_pipelines.specs.declared.step.Setting.{Setting}
use Rattle.plir_pipelines.specs.declared.step.StepErr.{StepErr}
use Rattle.plir_pipelines.specs.declared.step.StepErr.TheVariants.{NoSetting, NoNumber, Twice, OutOfMemory}

-- a byte stands nowhere in a text
abbrev pub Lacks : ℕ → List ℕ → Type 0
Lacks byte text = (i : ℕ) → i < length text → slice_index text i ≢ byte

-- one part of a text stands in front of its first such byte, the other one behind that
abbrev pub IsCutAt : ℕ → List ℕ → List ℕ → List ℕ → Type 0
IsCutAt byte text front back = (text ≡ front ++ byte ∷ back) × Lacks byte front

-- a text is digits, with a plus in front or none, and its number is below 2^64
abbrev pub IsNumber : List ℕ → Type 0
IsNumber text =
    IsNumeral 10 (without_leading_plus text) × (digits_value 10 (without_leading_plus text) < 2 ^ 64)

-- the number of a text, if it is one
abbrev pub IsNumberRead : List ℕ → Option ℕ → Type 0
IsNumberRead text (Some n) = IsNumber text × (n ≡ digits_value 10 (without_leading_plus text))
IsNumberRead text None = IsNumber text → ⊥

-- a word is `NAME=NUMBER`, cut at its first `=`
abbrev pub IsSetting : List ℕ → Setting → Type 0
IsSetting word s = (number : List ℕ) × IsCutAt 61 word s.name.now number × IsNumberRead number (Some s.value)

-- A word has no `=`; or what stands behind its first one is no number.
abbrev pub IsMalformed : List ℕ → StepErr → Type 0
IsMalformed word (NoSetting w) = (w.now ≡ word) × Lacks 61 word
IsMalformed word (NoNumber name number) = IsCutAt 61 word name.now number.now × IsNumberRead number.now None
IsMalformed word _ = ⊥

-- one of some settings is of an option
abbrev pub is_set : List Setting → List ℕ → Bool
is_set settings name = list_any (λ s. bytes_eq s.name.now name) settings

-- none of some settings is of an option that one in front of it is of
abbrev pub AreOnce : List Setting → Type 0
AreOnce settings = (k : ℕ) (d : Setting) → k < length settings →
    is_set (take k settings) (slice_index_or settings k d).name.now ≡ false

-- words are options with their numbers, one for one and in their order, and no option is twice
pub record AreSettings (words : List (List ℕ)) (settings : List Setting) : Type 0 where
  pub each : AllZip IsSetting words settings
  pub once : AreOnce settings

-- A word behind those of some settings is no option with a number, or one of an option that one of these is of.
abbrev pub IsWrong : List Setting → List ℕ → StepErr → Type 0
IsWrong settings word (Twice name) =
    (s : Setting) × IsSetting word s × (s.name.now ≡ name.now) × (is_set settings name.now ≡ true)
IsWrong settings word e = IsMalformed word e

-- One of the words is wrong, and those in front of it are options with their numbers; or memory is wanting.
abbrev pub AreRefused : List (List ℕ) → StepErr → Type 0
AreRefused words OutOfMemory = Unit {0}
AreRefused words e = (front : List (List ℕ)) × (word : List ℕ) × (back : List (List ℕ)) × (settings : List Setting) ×
    (words ≡ front ++ word ∷ back) × AreSettings front settings × IsWrong settings word e

-- a word is not empty
abbrev pub is_filled : List ℕ → Bool
is_filled word = not (length word == 0)

-- what stands between the blanks of a text, without what is empty
abbrev pub setting_words : List ℕ → List (List ℕ)
setting_words text = filter is_filled (slice_split (λ b. b == 32) text)
