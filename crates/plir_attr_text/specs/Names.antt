-- Which handles of a table name the types that are written.
use Rattle.std.specs.Prelude.{◌≡◌, ◌<◌, ◌≤◌, ℕ, List, [], ◌∷◌, ◌++◌, length, Some}
use Rattle.plir_data.specs.Types.{TypeView, integer, function, unit, type_at}
use Rattle.plir_data.specs.declared.types.Signedness.{Signedness}
use Rattle.plir_attr_text.specs.Terms.{TypeTerm, integer_type, function_type, unit_type, TypeTerms, no_types}
use Rattle.plir_attr_text.specs.Terms.{type_before}
use Rattle.plir_attr_text.specs.TypeGrammar.{IsText, TypeWithin, IsInteger, FunctionWithin}

module _ {T : Type 0} where
  -- from one table to another, types may come last and nothing else changes
  abbrev pub Grows : (old new : List (TypeView T)) → Type 0
  Grows old new = (more : List (TypeView T)) × (new ≡ old ++ more)

  abbrev mutual
    -- the handle names the type
    pub Names : (types : List (TypeView T)) → ℕ → TypeTerm → Type 0
    Names types handle (integer_type s w) = type_at types handle ≡ Some (integer s w)
    Names types handle (function_type as_ rs) =
        (arguments results : List ℕ) × (type_at types handle ≡ Some (function arguments results)) × NamesAll types
        arguments as_ × NamesAll types results rs
    Names types handle unit_type = type_at types handle ≡ Some unit

    -- the handles name the types, one by one
    pub NamesAll : (types : List (TypeView T)) → List ℕ → TypeTerms → Type 0
    NamesAll types handles no_types = handles ≡ []
    NamesAll types handles (type_before t ts) = (first : ℕ) × (more : List ℕ) × Names types first t × NamesAll types
        more ts × (handles ≡ first ∷ more)

  -- each type that a table has, and one from which it has grown hasn't, is named by a type that is written
  abbrev pub AreNamed : (written : TypeTerm → Type 0) → (old new : List (TypeView T)) → Type 0
  AreNamed written old new = (handle : ℕ) → length old ≤ handle → handle < length new →
      (t : TypeTerm) × written t × Names new handle t

  -- from one holder of a table to another, types that are written may come last and nothing else changes
  pub record Adds {S : Type 0} (types : S → List (TypeView T)) (same : S → S → Type 0) (written : TypeTerm →
      Type 0) (old new : S) : Type 0 where
    pub grown : Grows (types old) (types new)
    pub named : AreNamed written (types old) (types new)
    pub rest : same old new

  -- the whole text stands for the type that the handle names, with at most n levels open
  abbrev pub StandsForType : (n : ℕ) → (types : List (TypeView T)) → (bytes : List ℕ) → ℕ → Type 0
  StandsForType n types bytes handle = (t : TypeTerm) × IsText (TypeWithin n) bytes t × Names types handle t

  -- the same of the texts of integer and function types behind their ids
  abbrev pub StandsForInteger : (types : List (TypeView T)) → (bytes : List ℕ) → ℕ → Type 0
  StandsForInteger types bytes handle = (x : Signedness × ℕ) × IsText IsInteger bytes x × Names types handle
      (integer_type x.0 x.1)

  abbrev pub StandsForFunction : (n : ℕ) → (types : List (TypeView T)) → (bytes : List ℕ) → ℕ → Type 0
  StandsForFunction n types bytes handle = (x : TypeTerms × TypeTerms) × IsText (FunctionWithin n) bytes x × Names types
      handle (function_type x.0 x.1)
