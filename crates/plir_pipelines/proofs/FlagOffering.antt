-- Flags that can be offered, as far as a loop has come.
use Rattle.std.proofs.Common.{◌≡◌, ℕ, ◌+◌, ◌<◌, ◌≤◌, List, length, take, get_or, arith, below_more, refl, subst, ◌∙◌}
use Rattle.std.proofs.Common.{Some}
use Rattle.std.specs.List.{slice_get}
use Rattle.std.proofs.lemmas.Option.{get_or_from_slice_get, slice_get_read, slice_get_within}
use Rattle.plir_pipelines.specs.declared.flags.Flag.{Flag}
use Rattle.plir_pipelines.specs.declared.offer.FlagErr.{FlagErr}
use Rattle.plir_pipelines.specs.FlagOffers.{AreFlagsRefused, CanBeFlag, CanBeFlags, CanBeFlagsTo, IsFlagClash, flag_bytes}

module _ {P : Type 0} (name_of : P → List ℕ) (passes : List P) (flags : List Flag) (i : ℕ) where
  module _ (f : Flag) (below : i < length flags) (is : f ≡ get_or flags i f) where
    -- the one at a place can be one too
    pub flags-next : CanBeFlagsTo name_of passes i flags →
        CanBeFlag name_of passes (take i flags) (flag_bytes f) → CanBeFlagsTo name_of passes (i + 1) flags
    flags-next so_far here =
        below_more (λ k. (g : Flag) → slice_get flags k ≡ Some g →
        CanBeFlag name_of passes (take k flags) (flag_bytes g)) i so_far
        (λ g found. subst (λ z. CanBeFlag name_of passes (take i flags) (flag_bytes z))
        (is ∙ get_or_from_slice_get flags i g f found) here)

    -- the one at a place can't
    pub flag-refused-at : (e : FlagErr) → CanBeFlagsTo name_of passes i flags →
        IsFlagClash name_of passes (take i flags) (flag_bytes f) e → AreFlagsRefused name_of passes flags e
    flag-refused-at e so_far clash = record {
      place = i;
      flag = f;
      here = slice_get_read flags (length flags) i f refl below is;
      clash = clash;
      first = so_far;
    }

  -- all can
  pub flags-all : length flags ≤ i → CanBeFlagsTo name_of passes i flags → CanBeFlags name_of passes flags
  flags-all past so_far k f found =
      let within : k < length flags = slice_get_within flags k f found in
      let below : k < i = omega arith in so_far k below f found
