-- Operations that use a symbol: they name it, and it stands in the body of the operation over them.
use Rattle.std.specs.Prelude.{◌≡◌, ℕ, Bool, List, [], ◌∷◌, Option, Some, None, IsSome, codes}
use Rattle.plir_data.specs.Dictionary.{dict_get}
use Rattle.plir_core.specs.declared.ptr.Ptr.{Ptr}
use Rattle.plir_core.specs.declared.ptr.Operation.{Operation as OperationKind}
use Rattle.plir_core.specs.declared.ptr.IRNode.TheVariants.{Operation}
use Rattle.plir_core.specs.ContextView.{ContextView, attributes_of, op_above}
use Rattle.plir_iface.specs.Counts.{HasNRegions}
use Rattle.plir_iface.specs.Regions.{HasSingleBlocks}
use Rattle.plir_builtin.specs.Symbols.{name_in, scan}

-- the key that the name of the used symbol stands under
abbrev pub uses_key : List ℕ
uses_key = codes "link_uses"

-- the name of the symbol that an operation uses
abbrev pub used_name : {K A T : Type 0} → ContextView K A T → Ptr OperationKind → Option (List ℕ)
used_name s op = name_in (dict_get (attributes_of s op) uses_key)

-- what there is, as a list
abbrev pub listed : {X : Type 0} → Option X → List X
listed None = []
listed (Some x) = x ∷ []

-- the names that it uses: that one, if there is one
abbrev pub names_in_use : {K A T : Type 0} → ContextView K A T → Ptr OperationKind → List (List ℕ)
names_in_use s op = listed (used_name s op)

module _ {K A T : Type 0} (own_symbol : K → Bool) (s : ContextView K A T) where
  -- a symbol of that name stands in the body of an operation
  pub record IsFoundIn (table : Ptr OperationKind) (name : List ℕ) : Type 0 where
    pub one_region : HasNRegions 1 s table
    pub single_blocks : HasSingleBlocks s table
    pub found : IsSome (scan own_symbol s table name)

  -- an operation names a symbol that stands in the body of the operation over it
  pub record IsLinked (op : Ptr OperationKind) : Type 0 where
    pub name : List ℕ
    pub named : used_name s op ≡ Some name
    pub table : Ptr OperationKind
    pub over : op_above s (Operation op) ≡ Some (Operation table)
    pub found : IsFoundIn table name
