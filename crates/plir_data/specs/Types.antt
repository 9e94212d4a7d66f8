-- Types as contracts see them, and the table that holds each type once.
use Rattle.std.specs.Prelude.{◌≡◌, ◌<◌, ◌⊎◌, ℕ, List, [], ◌∷◌, ◌++◌, length, All, Contains, Option, Some, None, Bool}
use Rattle.std.specs.Prelude.{true, false, nat_lt, slice_get, codes}
use Rattle.std.specs.Option.{option_map_or}
use Rattle.plir_data.specs.declared.types.Signedness.{Signedness}
use Rattle.plir_data.specs.declared.types.Signedness.TheVariants.{Signed, Unsigned, Signless}

-- A type: an integer type of some bits, a function type by the handles of its arguments' and results' types, the unit
-- type, or one of the user's own, T.
pub data TypeView (T : Type 0) : Type 0 where
  integer : Signedness → (width : ℕ) → TypeView T
  function : (arguments results : List ℕ) → TypeView T
  unit : TypeView T
  own : T → TypeView T

-- Each thing once, in order of arrival: a thing that was there has changed nothing, and one that wasn't comes last.
abbrev pub IsGrown : {X : Type 0} → (old : List X) → X → (new : List X) → Type 0
IsGrown old x new = (new ≡ old) ⊎ ((¬ Contains old x) × (new ≡ old ++ x ∷ []))

module _ {T : Type 0} where
  -- the handle names a type of the table
  abbrev pub IsLive : List (TypeView T) → ℕ → Type 0
  IsLive types handle = handle < length types

  -- all of these handles name types of the table
  abbrev pub AllLive : List (TypeView T) → List ℕ → Type 0
  AllLive types handles = All (IsLive types) handles

  -- the type that a handle names
  abbrev pub type_at : List (TypeView T) → ℕ → Option (TypeView T)
  type_at types handle = slice_get types handle

  -- the handles that a type holds; `own_handles` gives those of the user's own
  abbrev pub handles_of : (own_handles : T → List ℕ) → TypeView T → List ℕ
  handles_of own_handles (integer s w) = []
  handles_of own_handles (function arguments results) = arguments ++ results
  handles_of own_handles unit = []
  handles_of own_handles (own t) = own_handles t

  -- From the types `old` to `new`: `handle` names `type` now. If the type was there nothing has changed, else it has
  -- come last.
  pub record IsInstantiated (old : List (TypeView T)) (type : TypeView T) (handle : ℕ) (new : List (TypeView T)) : Type
      0 where
    pub named : type_at new handle ≡ Some type
    pub grown : IsGrown old type new

  -- No type stands in the table twice, and the handles that a type holds name types before it.
  pub record IsTypeTable (own_handles : T → List ℕ) (types : List (TypeView T)) : Type 0 where
    pub once : (type : TypeView T) (i j : ℕ) → type_at types i ≡ Some type → type_at types j ≡ Some type → i ≡ j
    pub before : (type : TypeView T) (i : ℕ) → type_at types i ≡ Some type →
        All (λ handle. handle < i) (handles_of own_handles type)

  -- the id of a type, as `dialect.name`; `own_id` gives that of the user's own
  abbrev pub type_id : (own_id : T → List ℕ) → TypeView T → List ℕ
  type_id own_id (integer s w) = codes "builtin.integer"
  type_id own_id (function arguments results) = codes "builtin.function"
  type_id own_id unit = codes "builtin.unit"
  type_id own_id (own t) = own_id t

  -- the types of arguments and results, of a type of functions
  abbrev pub signature_of : (own_signature : T → Option (List ℕ × List ℕ)) → TypeView T → Option (List ℕ × List ℕ)
  signature_of own_signature (integer s w) = None
  signature_of own_signature (function arguments results) = Some (arguments, results)
  signature_of own_signature unit = None
  signature_of own_signature (own t) = own_signature t

-- values are written with a sign: of a signed type always, of an unsigned one never, of a signless one past one bit
abbrev pub prints_as_signed : Signedness → (width : ℕ) → Bool
prints_as_signed Signed width = true
prints_as_signed Unsigned width = false
prints_as_signed Signless width = nat_lt 1 width

module _ {T : Type 0} where
  abbrev pub is_integer : TypeView T → Bool
  is_integer (integer s w) = true
  is_integer _ = false

  abbrev pub is_function : TypeView T → Bool
  is_function (function arguments results) = true
  is_function _ = false

  abbrev pub is_unit : TypeView T → Bool
  is_unit unit = true
  is_unit _ = false

  -- the handle names a type that passes a mark's test
  abbrev pub IsMarked : (marks : TypeView T → Bool) → List (TypeView T) → ℕ → Type 0
  IsMarked marks types handle = option_map_or marks (type_at types handle) false ≡ true
