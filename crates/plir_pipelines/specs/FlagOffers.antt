-- Which options of passes a command line can offer.
use Rattle.std.specs.Prelude.{◌≡◌, ◌<◌, ℕ, Bool, true, false, List, None, IsSome, take, string_bytes}
use Rattle.std.specs.Prelude.{slice_get, Some}
use Rattle.std.specs.List.{list_any}
use Rattle.std.specs.Str.{bytes_eq}
use Rattle.plir_pipelines.specs.declared.flags.Flag.{Flag}
use Rattle.plir_pipelines.specs.declared.offer.FlagErr.{FlagErr}
use Rattle.plir_pipelines.specs.declared.offer.FlagErr.TheVariants.{Malformed, Own, OfPass, Twice}
use Rattle.plir_pipelines.specs.Offers.{is_option_name, is_own_word}
use Rattle.plir_pipelines.specs.Passes.{bearer}

-- the name of a flag
abbrev pub flag_bytes : Flag → List ℕ
flag_bytes f = string_bytes f.text

-- one of some flags has a name
abbrev pub is_flag : List Flag → List ℕ → Bool
is_flag flags name = list_any (λ f. bytes_eq (flag_bytes f) name) flags

-- `name_of` gives the names of passes.
module _ {P : Type 0} (name_of : P → List ℕ) (passes : List P) where
  -- A name can be that of a flag behind others: an option can have it, it is no word of the driver's own, no pass bears
  -- it, and none of the others has it.
  pub record CanBeFlag (front : List Flag) (name : List ℕ) : Type 0 where
    pub formed : is_option_name name ≡ true
    pub free : is_own_word name ≡ false
    pub no_pass : bearer name_of passes name ≡ None
    pub new : is_flag front name ≡ false

  -- why it can't be
  abbrev pub IsFlagClash : (front : List Flag) → List ℕ → FlagErr → Type 0
  IsFlagClash front name (Malformed flag) = (flag.now ≡ name) × (is_option_name name ≡ false)
  IsFlagClash front name (Own flag) = (flag.now ≡ name) × (is_own_word name ≡ true)
  IsFlagClash front name (OfPass flag) = (flag.now ≡ name) × IsSome (bearer name_of passes name)
  IsFlagClash front name (Twice flag) = (flag.now ≡ name) × (is_flag front name ≡ true)

  -- each flag in front of a place can be one behind those in front of it
  abbrev pub CanBeFlagsTo : ℕ → List Flag → Type 0
  CanBeFlagsTo n flags = (k : ℕ) → k < n → (f : Flag) → slice_get flags k ≡ Some f →
      CanBeFlag (take k flags) (flag_bytes f)

  -- each can
  abbrev pub CanBeFlags : List Flag → Type 0
  CanBeFlags flags = (k : ℕ) (f : Flag) → slice_get flags k ≡ Some f → CanBeFlag (take k flags) (flag_bytes f)

  -- the flag at a place can't, and is the first that can't
  pub record AreFlagsRefused (flags : List Flag) (e : FlagErr) : Type 0 where
    pub place : ℕ
    pub flag : Flag
    pub here : slice_get flags place ≡ Some flag
    pub clash : IsFlagClash (take place flags) (flag_bytes flag) e
    pub first : CanBeFlagsTo place flags
