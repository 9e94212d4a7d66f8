-- Which types the steps of reading meet in a text: at each place of it where a type is read, as far as the text is
-- read.
use Rattle.std.specs.Prelude.{◌≡◌, ◌⊎◌, ℕ, zero, suc, List, true, None, Result, Ok}
use Rattle.plir_data.specs.declared.types.Signedness.{Signedness}
use Rattle.plir_attr_text.specs.Terms.{TypeTerm, integer_type, function_type, unit_type, TypeTerms, AttrTerm}
use Rattle.plir_attr_text.specs.Lists.{sign_at, past_sign, separator_at, items_at}
use Rattle.plir_attr_text.specs.TypeReading.{arrow_at, integer_at, function_at, type_head, type_at}
use Rattle.plir_attr_text.specs.AttrReading.{name_at, value_at, entry_at, attr_head, attr_at}
use Rattle.plir_attr_text.specs.declared.words.TypeKind.TheVariants.{Integer, Function, Unit}
use Rattle.plir_attr_text.specs.declared.attr_words.AttrKind.{AttrKind}
use Rattle.plir_attr_text.specs.{declared.fault.Fault.Fault, declared.words.TypeKind.TypeKind}
use Rattle.plir_attr_text.specs.declared.attr_words.AttrKind.TheVariants as kinds

module _ {A : Type 0} (open_ close : ℕ) (read : List ℕ → Result (A × List ℕ) Fault) where
  -- from `start` on so many items are read, each with a comma behind it, and the next one begins at `place`
  abbrev pub IsBehind : (items : ℕ) → (start place : List ℕ) → Type 0
  IsBehind zero start place = place ≡ start
  IsBehind (suc n) start place = (x : A × List ℕ) × (next : List ℕ) × (read start ≡ Ok x) ×
      (separator_at close x.1 ≡ Ok (true, next)) × IsBehind n next place

  -- an item of the list in brackets, which isn't empty, begins at `place`
  abbrev pub IsItemAt : (bytes place : List ℕ) → Type 0
  IsItemAt bytes place = (start : List ℕ) × (items : ℕ) × (sign_at open_ bytes ≡ Ok start) ×
      (past_sign close start ≡ None) × IsBehind items start place

  -- the type is written in an item of the list in brackets; `is_in` says which types are written in an item
  abbrev pub IsInList : (is_in : List ℕ → TypeTerm → Type 0) → List ℕ → TypeTerm → Type 0
  IsInList is_in bytes t = (place : List ℕ) × IsItemAt bytes place × is_in place t

-- an integer type is written behind its id
abbrev pub IsInInteger : List ℕ → TypeTerm → Type 0
IsInInteger bytes t = (x : (Signedness × ℕ) × List ℕ) × (integer_at bytes ≡ Ok x) × (t ≡ integer_type x.0.0 x.0.1)

module _ (read : List ℕ → Result (TypeTerm × List ℕ) Fault) (is_in : List ℕ → TypeTerm → Type 0) where
  -- the types of the arguments are read, and the type is written in a result's type
  abbrev pub IsInResults : List ℕ → TypeTerm → Type 0
  IsInResults bytes t = (arguments : List TypeTerm × List ℕ) × (behind : List ℕ) × (items_at 40 41 read bytes ≡ Ok
      arguments) × (arrow_at arguments.1 ≡ Ok behind) × IsInList 40 41 read is_in behind t

  -- a function type is written behind its id, and the type is that one, or written in an argument's or a result's type
  abbrev pub IsInSignature : List ℕ → TypeTerm → Type 0
  IsInSignature bytes t =
      ((x : (TypeTerms × TypeTerms) × List ℕ) × (function_at read bytes ≡ Ok x) × (t ≡ function_type x.0.0 x.0.1))
      ⊎ ((start : List ℕ) × (sign_at 60 bytes ≡ Ok start) × (IsInList 40 41 read is_in start t ⊎ IsInResults start t))

  -- the type is written behind the id of a type
  abbrev pub IsInTypeBody : TypeKind → List ℕ → TypeTerm → Type 0
  IsInTypeBody Integer bytes t = IsInInteger bytes t
  IsInTypeBody Function bytes t = IsInSignature bytes t
  IsInTypeBody Unit bytes t = t ≡ unit_type

-- The type is written in the text of a type that begins here, with at most n levels open.
unfoldable pub IsInType : (n : ℕ) → List ℕ → TypeTerm → Type 0
IsInType zero bytes t = ⊥
IsInType (suc n) bytes t = (id : TypeKind × List ℕ) × (type_head bytes ≡ Ok id) × IsInTypeBody (type_at n) (IsInType n)
    id.0 id.1 t

-- the same behind the id of a function type, with at most n levels in it, and in a list of types
abbrev pub IsInFunction : (n : ℕ) → List ℕ → TypeTerm → Type 0
IsInFunction n bytes t = IsInSignature (type_at n) (IsInType n) bytes t

abbrev pub IsInTypes : (n : ℕ) → List ℕ → TypeTerm → Type 0
IsInTypes n bytes t = IsInList 40 41 (type_at n) (IsInType n) bytes t

-- the type is written in the attribute of an entry
abbrev pub IsInEntry : (is_in : List ℕ → TypeTerm → Type 0) → List ℕ → TypeTerm → Type 0
IsInEntry is_in bytes t = (key : List ℕ × List ℕ) × (behind : List ℕ) × (name_at bytes ≡ Ok key) ×
    (sign_at 61 key.1 ≡ Ok behind) × is_in behind t

module _ (n : ℕ) (read : List ℕ → Result (AttrTerm × List ℕ) Fault) (is_in : List ℕ → TypeTerm → Type 0) where
  -- The type is written behind the id of an attribute, where at most n levels stand in it: it is the type of an
  -- integer, or written in a type or an attribute that stands there.
  abbrev pub IsInAttrBody : AttrKind → List ℕ → TypeTerm → Type 0
  IsInAttrBody kinds.Identifier bytes t = ⊥
  IsInAttrBody kinds.String bytes t = ⊥
  IsInAttrBody kinds.Bool bytes t = ⊥
  IsInAttrBody kinds.Integer bytes t = (v : ((Signedness × ℕ) × ℕ) × List ℕ) × (value_at n bytes ≡ Ok v) ×
      (t ≡ integer_type v.0.0.0 v.0.0.1)
  IsInAttrBody kinds.Dict bytes t = IsInList 91 93 (entry_at read) (IsInEntry is_in) bytes t
  IsInAttrBody kinds.Vec bytes t = IsInList 91 93 read is_in bytes t
  IsInAttrBody kinds.Unit bytes t = ⊥
  IsInAttrBody kinds.TypeOf bytes t = IsInType n bytes t
  IsInAttrBody kinds.OperandSegmentSizes bytes t = ⊥
  IsInAttrBody kinds.GivenNames bytes t = ⊥

-- The type is written in the text of an attribute that begins here, with at most n levels open.
unfoldable pub IsInAttr : (n : ℕ) → List ℕ → TypeTerm → Type 0
IsInAttr zero bytes t = ⊥
IsInAttr (suc n) bytes t = (id : AttrKind × List ℕ) × (attr_head bytes ≡ Ok id) × IsInAttrBody n (attr_at n)
    (IsInAttr n) id.0 id.1 t

-- the same behind its id, with at most n levels in it
abbrev pub IsBehindId : (n : ℕ) → AttrKind → List ℕ → TypeTerm → Type 0
IsBehindId n kind bytes t = IsInAttrBody n (attr_at n) (IsInAttr n) kind bytes t
