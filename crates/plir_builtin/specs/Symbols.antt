-- Symbols: the operations in the body of a table that have names, and what is said of them by scans.
use Rattle.std.specs.Prelude.{◌≡◌, ℕ, Bool, true, false, cond, List, [], ◌∷◌, Option, Some, None, IsSome}
use Rattle.std.specs.Prelude.{option_and_then}
use Rattle.plir_data.specs.AttrView.{AttrView, leaf, identifier}
use Rattle.plir_data.specs.Dictionary.{dict_get, dict_put, is_key}
use Rattle.plir_data.specs.declared.op_set.OpKind.{OpKind}
use Rattle.plir_data.specs.declared.op_set.OpKind.TheVariants.{Module, Func, Own}
use Rattle.plir_data.specs.Keys.{symbol_key}
use Rattle.plir_core.specs.declared.ptr.Ptr.{Ptr}
use Rattle.plir_core.specs.declared.ptr.Operation.{Operation as OperationKind}
use Rattle.plir_core.specs.declared.ptr.IRNode.{IRNode}
use Rattle.plir_core.specs.declared.ptr.IRNode.TheVariants.{Operation, Region, BasicBlock}
use Rattle.plir_core.specs.Contents.{OpView}
use Rattle.plir_core.specs.Changes.{with_op_edit}
use Rattle.plir_core.specs.ContextView.{ContextView, children, op_at, kind_in, attributes_in}

-- whether operations of a kind are symbols, and whether they are symbol tables; `own` answers for the user's own kinds
abbrev pub is_symbol_kind : {K : Type 0} → (own : K → Bool) → Option (OpKind K) → Bool
is_symbol_kind own (Some Module) = true
is_symbol_kind own (Some Func) = true
is_symbol_kind own (Some (Own k)) = own k
is_symbol_kind own _ = false

abbrev pub is_table_kind : {K : Type 0} → (own : K → Bool) → Option (OpKind K) → Bool
is_table_kind own (Some Module) = true
is_table_kind own (Some (Own k)) = own k
is_table_kind own _ = false

-- the name in an attribute
abbrev pub name_in : {A : Type 0} → Option (AttrView A) → Option (List ℕ)
name_in (Some (leaf (identifier n))) = Some n
name_in _ = None

-- the name in what an operation holds
abbrev pub name_held : {K A : Type 0} → Option (OpView K A) → Option (List ℕ)
name_held o = name_in (dict_get (attributes_in o) symbol_key)

module _ {K A T : Type 0} where
  -- an operation has a symbol's name
  abbrev pub HasSymbolName : ContextView K A T → Ptr OperationKind → Type 0
  HasSymbolName s p = IsSome (name_held (op_at s p))

  -- the context with another name for an operation
  abbrev pub with_symbol_name : ContextView K A T → Ptr OperationKind → List ℕ → ContextView K A T
  with_symbol_name s p x = with_op_edit s p (λ o. record o
      { attributes = dict_put o.attributes symbol_key (leaf (identifier x)) })

-- symbols in order, each with its name or without one
abbrev pub Symbols : Type 0
Symbols = List (Ptr OperationKind × Option (List ℕ))

-- the symbols among nodes, where `holds` gives what operations hold
abbrev pub symbols_among : {K A : Type 0} → (own : K → Bool) → (holds : Ptr OperationKind → Option (OpView K A)) →
    List IRNode → Symbols
symbols_among own holds [] = []
symbols_among own holds (Operation p ∷ ns) = cond (is_symbol_kind own (kind_in (holds p)))
    ((p, name_held (holds p)) ∷ symbols_among own holds ns) (symbols_among own holds ns)
symbols_among own holds (Region p ∷ ns) = symbols_among own holds ns
symbols_among own holds (BasicBlock p ∷ ns) = symbols_among own holds ns

-- whether a name is x
abbrev pub is_named : List ℕ → Option (List ℕ) → Bool
is_named x None = false
is_named x (Some y) = is_key x y

-- the first symbol with the name x
abbrev pub find_named : List ℕ → Symbols → Option (Ptr OperationKind)
find_named x [] = None
find_named x (e ∷ es) = cond (is_named x e.1) (Some e.0) (find_named x es)

-- each symbol has a name
abbrev pub AllNamed : Symbols → Type 0
AllNamed [] = Unit {0}
AllNamed (e ∷ es) = IsSome e.1 × AllNamed es

-- no symbol has the name, if there is one
abbrev pub IsFree : Option (List ℕ) → Symbols → Type 0
IsFree None es = Unit {0}
IsFree (Some x) es = find_named x es ≡ None

-- no two symbols have one name
abbrev pub NamesDiffer : Symbols → Type 0
NamesDiffer [] = Unit {0}
NamesDiffer (e ∷ es) = IsFree e.1 es × NamesDiffer es

-- the one element of a list
abbrev pub only : {X : Type 0} → List X → Option X
only [] = None
only (x ∷ []) = Some x
only (x ∷ y ∷ xs) = None

module _ {K A T : Type 0} where
  -- the block of an operation with one region that has one block
  abbrev pub body : ContextView K A T → Ptr OperationKind → Option IRNode
  body s t = option_and_then (λ r. only (children s r)) (only (children s (Operation t)))

  -- what stands in a block
  abbrev pub children_in : ContextView K A T → Option IRNode → List IRNode
  children_in s None = []
  children_in s (Some b) = children s b

  module _ (own_symbol : K → Bool) where
    -- the symbols that an operation is: itself, or none
    abbrev pub symbols_of : ContextView K A T → Ptr OperationKind → Symbols
    symbols_of s p = symbols_among own_symbol (op_at s) (Operation p ∷ [])

    -- the symbols in a block, and in the body of an operation
    abbrev pub symbols_in : ContextView K A T → Option IRNode → Symbols
    symbols_in s b = symbols_among own_symbol (op_at s) (children_in s b)

    abbrev pub symbols : ContextView K A T → Ptr OperationKind → Symbols
    symbols s t = symbols_in s (body s t)

    -- the first symbol in the body with the name x
    abbrev pub scan : ContextView K A T → Ptr OperationKind → List ℕ → Option (Ptr OperationKind)
    scan s t x = find_named x (symbols s t)

    -- a good table: of table kind, with a body, all its symbols named and no two alike
    pub record IsGood (own_table : K → Bool) (s : ContextView K A T) (t : Ptr OperationKind) : Type 0 where
      pub table : is_table_kind own_table (kind_in (op_at s t)) ≡ true
      pub body : IsSome (body s t)
      pub named : AllNamed (symbols s t)
      pub apart : NamesDiffer (symbols s t)
