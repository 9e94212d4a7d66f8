-- What the options of passes are given.
use Rattle.std.specs.Prelude.{◌≡◌, ◌≤◌, ℕ, List, [], ◌∷◌, ◌++◌, Option, Some, None, slice_get}
use Rattle.std.specs.List.{position}
use Rattle.std.specs.Str.{bytes_eq}
use Rattle.plir_pipelines.specs.declared.step.Setting.{Setting}
use Rattle.plir_pipelines.specs.declared.pass_option.PassOption.{PassOption}
use Rattle.plir_pipelines.specs.declared.passes.PipelineErr.{PipelineErr}
use Rattle.plir_pipelines.specs.declared.passes.PipelineErr.TheVariants.{NoOption, OutOfRange}

-- an option's name, the numbers that it can be given, and the one that it has where it is given none
pub record OptionRule : Type 0 where
  pub name : List ℕ
  pub least : ℕ
  pub most : ℕ
  pub default : ℕ

-- that of an option
abbrev pub rule_of : PassOption → OptionRule
rule_of o = record { name = o.name.now; least = o.least; most = o.most; default = o.default }

-- the place of the first option of a name
abbrev pub place_of : List OptionRule → List ℕ → Option ℕ
place_of rules name = position (λ r. bytes_eq r.name name) rules

-- an option can be given a number
abbrev pub Allows : OptionRule → ℕ → Type 0
Allows rule n = (rule.least ≤ n) × (n ≤ rule.most)

-- a number is the one that can't be given
abbrev pub IsOfNumber : ℕ → PipelineErr → Type 0
IsOfNumber number (OutOfRange pass option n) = n ≡ number
IsOfNumber number _ = ⊥

-- `name_of` gives the names of passes, `options_of` their options, and `with_option` what they are once an option is
-- given a number.
module _ {P : Type 0} (name_of : P → List ℕ) (options_of : P → List OptionRule) (with_option : P → ℕ → ℕ → P) where
  -- a setting names an option of a pass, which can be given its number, and what the pass is then
  pub record IsSet (s : Setting) (p q : P) : Type 0 where
    pub place : ℕ
    pub rule : OptionRule
    pub found : place_of (options_of p) s.name.now ≡ Some place
    pub here : slice_get (options_of p) place ≡ Some rule
    pub allowed : Allows rule s.value
    pub is : q ≡ with_option p place s.value

  -- settings do, one after another
  abbrev pub AreSet : List Setting → P → P → Type 0
  AreSet [] p q = q ≡ p
  AreSet (s ∷ ss) p q = (r : P) × IsSet s p r × AreSet ss r q

  -- an option of a pass, at a place, can't be given a number
  abbrev pub IsOutOfRange : P → ℕ → PipelineErr → Type 0
  IsOutOfRange p place (OutOfRange pass option n) = (pass.now ≡ name_of p) ×
      (slice_get (options_of p) place ≡ Some (rule_of option)) × (Allows (rule_of option) n → ⊥)
  IsOutOfRange p place _ = ⊥

  -- a setting names no option of a pass, or one that can't be given its number
  abbrev pub IsSettingRefused : Setting → P → PipelineErr → Type 0
  IsSettingRefused s p (NoOption pass name) =
      (pass.now ≡ name_of p) × (name ≡ s.name) × (place_of (options_of p) s.name.now ≡ None)
  IsSettingRefused s p (OutOfRange pass option n) = (n ≡ s.value) × ((place : ℕ) ×
      (place_of (options_of p) s.name.now ≡ Some place) × IsOutOfRange p place (OutOfRange pass option n))
  IsSettingRefused s p _ = ⊥

  -- one of some settings is refused, and those in front of it are not
  pub record AreSetRefused (settings : List Setting) (p : P) (e : PipelineErr) : Type 0 where
    pub front : List Setting
    pub setting : Setting
    pub back : List Setting
    pub here : P
    pub parted : settings ≡ front ++ setting ∷ back
    pub set : AreSet front p here
    pub refused : IsSettingRefused setting here e
