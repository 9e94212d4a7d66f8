-- Why a table refuses.
use Rattle.std.specs.Prelude.{◌≡◌, ◌≢◌, ℕ, Bool, true, false, List, ◌∷◌, ◌++◌, length, Option, Some, None, IsSome}
use Rattle.std.specs.Prelude.{IfSome, ◌⊎◌, string_bytes}
use Rattle.plir_core.specs.declared.ptr.Ptr.{Ptr}
use Rattle.plir_core.specs.declared.ptr.Operation.{Operation as OperationKind}
use Rattle.plir_core.specs.declared.ptr.IRNode.TheVariants.{Operation}
use Rattle.plir_core.specs.declared.insertion_point.OpInsertionPoint.{OpInsertionPoint}
use Rattle.plir_core.specs.InsertionPoint.{insertion_block}
use Rattle.plir_core.specs.ContextView.{ContextView, children, parent_of, op_at, kind_in}
use Rattle.plir_builtin.specs.declared.symbol_table_err.SymbolTableErr.{SymbolTableErr}
use Rattle.plir_builtin.specs.declared.symbol_table_err.SymbolTableErr.TheVariants as E
use Rattle.plir_builtin.specs.Symbols.{Symbols, is_symbol_kind, is_table_kind, name_held, find_named, body, symbols}
use Rattle.plir_builtin.specs.Symbols.{AllNamed, NamesDiffer}

-- A refusal, with the numbers and the names that it reports: how many regions are wanted and there, the symbol's name.
pub data Refusal : Type 0 where
  no_table : Refusal
  regions : ℕ → ℕ → Refusal
  blocks : Refusal
  no_symbol : Refusal
  unnamed : Refusal
  redefined : List ℕ → Refusal
  elsewhere : List ℕ → Refusal
  outside : Refusal
  not_there : Refusal

-- what a refusal reports; nothing, where memory was refused
abbrev pub reported : SymbolTableErr → Option Refusal
reported E.DoesNotImplementSymbolTableInterface = Some no_table
reported (E.Regions e) = Some (regions e.0 e.1)
reported (E.Body e) = Some blocks
reported E.DoesNotImplementSymbolOpInterface = Some no_symbol
reported (E.Unnamed e) = Some unnamed
reported (E.SymbolRedefined n) = Some (redefined (string_bytes n))
reported (E.SymbolOpAlreadyInAnotherTable n) = Some (elsewhere (string_bytes n))
reported E.InsertionPointNotInSameTable = Some outside
reported E.SymbolOpNotInTableOp = Some not_there
reported E.Memory = None

-- P holds of what is reported, if anything is; something is reported, and P holds of it
abbrev pub Reports : (Refusal → Type 0) → SymbolTableErr → Type 0
Reports P e = IfSome (reported e) P

-- P holds of what is reported; where memory was refused in its place, M does
abbrev pub reported_or : Type 0 → (Refusal → Type 0) → Option Refusal → Type 0
reported_or M P (Some r) = P r
reported_or M P None = M

abbrev pub ReportsOr : Type 0 → (Refusal → Type 0) → SymbolTableErr → Type 0
ReportsOr M P e = reported_or M P (reported e)

abbrev pub ReportsOnly : (Refusal → Type 0) → SymbolTableErr → Type 0
ReportsOnly P e = (r : Refusal) × (reported e ≡ Some r) × P r

module _ {K A T : Type 0} (own_symbol : K → Bool) (s : ContextView K A T) where
  -- the operation is a symbol with the name x
  pub record IsSymbolNamed (o : Ptr OperationKind) (x : List ℕ) : Type 0 where
    pub symbol : is_symbol_kind own_symbol (kind_in (op_at s o)) ≡ true
    pub name : name_held (op_at s o) ≡ Some x

  -- no other operation is found under the name
  abbrev pub IsNotOthers : (List ℕ → Option (Ptr OperationKind)) → Ptr OperationKind → List ℕ → Type 0
  IsNotOthers find o x = (q : Ptr OperationKind) → find x ≡ Some q → q ≡ o

  -- an insertion into the body of t is refused, where `find` answers which operation a name is recorded for
  abbrev pub IsInsertRefusal : (find : List ℕ → Option (Ptr OperationKind)) (t o : Ptr OperationKind) →
      Option OpInsertionPoint → Refusal → Type 0
  IsInsertRefusal find t o p no_symbol = is_symbol_kind own_symbol (kind_in (op_at s o)) ≡ false
  IsInsertRefusal find t o p unnamed = (is_symbol_kind own_symbol (kind_in (op_at s o)) ≡ true) ×
      (name_held (op_at s o) ≡ None)
  IsInsertRefusal find t o p (redefined x) = IsSymbolNamed o x × ((q : Ptr OperationKind) × (find x ≡ Some q) × (q ≢ o))
  IsInsertRefusal find t o p (elsewhere x) = IsSymbolNamed o x × IsNotOthers find o x ×
      IsSome (parent_of s (Operation o)) × (parent_of s (Operation o) ≢ body s t)
  IsInsertRefusal find t o p outside = ((x : List ℕ) × IsSymbolNamed o x × IsNotOthers find o x) ×
      (parent_of s (Operation o) ≡ None) × ((q : OpInsertionPoint) × (p ≡ Some q) × (insertion_block s q ≢ body s t))
  IsInsertRefusal find t o p no_table = ⊥
  IsInsertRefusal find t o p (regions m n) = ⊥
  IsInsertRefusal find t o p blocks = ⊥
  IsInsertRefusal find t o p not_there = ⊥

  -- it stands in the body, or in no block and is put at a point there
  abbrev pub IsPlaceable : (t o : Ptr OperationKind) → Option OpInsertionPoint → Type 0
  IsPlaceable t o p = (parent_of s (Operation o) ≡ body s t) ⊎
      ((parent_of s (Operation o) ≡ None) × ((q : OpInsertionPoint) → p ≡ Some q → insertion_block s q ≡ body s t))

  -- An insertion into the body of t needs memory: the operation is a symbol with a name, and either its refusal reports
  -- that name, or nothing refuses it, and the name is recorded.
  abbrev pub IsInsertGrowth : (find : List ℕ → Option (Ptr OperationKind)) (t o : Ptr OperationKind) →
      Option OpInsertionPoint → Type 0
  IsInsertGrowth find t o p =
      (x : List ℕ) × IsSymbolNamed o x
      × (IsInsertRefusal find t o p (redefined x) ⊎ (IsInsertRefusal find t o p (elsewhere x) ⊎
      (IsNotOthers find o x × IsPlaceable t o p)))

  -- an insertion is refused: as its order says, or for want of memory where it needs some
  abbrev pub IsInsertErr : (find : List ℕ → Option (Ptr OperationKind)) (t o : Ptr OperationKind) →
      Option OpInsertionPoint → SymbolTableErr → Type 0
  IsInsertErr find t o p = ReportsOr (IsInsertGrowth find t o p) (IsInsertRefusal find t o p)

  -- a removal from the body of t is refused
  abbrev pub IsRemoveRefusal : (t o : Ptr OperationKind) → Refusal → Type 0
  IsRemoveRefusal t o no_symbol = is_symbol_kind own_symbol (kind_in (op_at s o)) ≡ false
  IsRemoveRefusal t o not_there = (is_symbol_kind own_symbol (kind_in (op_at s o)) ≡ true) ×
      (parent_of s (Operation o) ≢ body s t)
  IsRemoveRefusal t o unnamed = (is_symbol_kind own_symbol (kind_in (op_at s o)) ≡ true) ×
      (parent_of s (Operation o) ≡ body s t) × (name_held (op_at s o) ≡ None)
  IsRemoveRefusal t o (redefined x) = ⊥
  IsRemoveRefusal t o (elsewhere x) = ⊥
  IsRemoveRefusal t o outside = ⊥
  IsRemoveRefusal t o no_table = ⊥
  IsRemoveRefusal t o (regions m n) = ⊥
  IsRemoveRefusal t o blocks = ⊥

-- the first symbol with which a list of symbols is no longer named and apart
abbrev pub IsUnnamedFirst : Symbols → Type 0
IsUnnamedFirst es = (front : Symbols) × (o : Ptr OperationKind) × (back : Symbols) × (es ≡ front ++ (o, None) ∷ back) ×
    AllNamed front × NamesDiffer front

-- the same for a name, and that symbol is o
abbrev pub IsRepeatedAt : List ℕ → Ptr OperationKind → Symbols → Type 0
IsRepeatedAt x o es = (front : Symbols) × (back : Symbols) × (es ≡ front ++ (o, Some x) ∷ back) × AllNamed front ×
    NamesDiffer front × IsSome (find_named x front)

abbrev pub IsRepeatedFirst : List ℕ → Symbols → Type 0
IsRepeatedFirst x es = (o : Ptr OperationKind) × IsRepeatedAt x o es

module _ {K A T : Type 0} (s : ContextView K A T) where
  -- the operation t has no body: it has not one region, or that has not one block
  abbrev pub IsBodyRefusal : Ptr OperationKind → Refusal → Type 0
  IsBodyRefusal t (regions m n) = (m ≡ 1) × (length (children s (Operation t)) ≡ n) × (n ≢ 1)
  IsBodyRefusal t blocks = (length (children s (Operation t)) ≡ 1) × (body s t ≡ None)
  IsBodyRefusal t no_table = ⊥
  IsBodyRefusal t unnamed = ⊥
  IsBodyRefusal t (redefined x) = ⊥
  IsBodyRefusal t no_symbol = ⊥
  IsBodyRefusal t (elsewhere x) = ⊥
  IsBodyRefusal t outside = ⊥
  IsBodyRefusal t not_there = ⊥

-- an operation is a symbol table and has a body, so that its symbols are looked at
abbrev pub IsTableWithBody : {K A T : Type 0} (own_table : K → Bool) → ContextView K A T → Ptr OperationKind → Type 0
IsTableWithBody own_table s t = (is_table_kind own_table (kind_in (op_at s t)) ≡ true) × IsSome (body s t)

-- a table for t is refused
module _ {K A T : Type 0} (own_symbol own_table : K → Bool) (s : ContextView K A T) where
  abbrev pub IsTableRefusal : Ptr OperationKind → Refusal → Type 0
  IsTableRefusal t no_table = is_table_kind own_table (kind_in (op_at s t)) ≡ false
  IsTableRefusal t (regions m n) = (is_table_kind own_table (kind_in (op_at s t)) ≡ true) ×
      IsBodyRefusal s t (regions m n)
  IsTableRefusal t blocks = (is_table_kind own_table (kind_in (op_at s t)) ≡ true) × IsBodyRefusal s t blocks
  IsTableRefusal t unnamed = (is_table_kind own_table (kind_in (op_at s t)) ≡ true) × IsSome (body s t) ×
      IsUnnamedFirst (symbols own_symbol s t)
  IsTableRefusal t (redefined x) = (is_table_kind own_table (kind_in (op_at s t)) ≡ true) × IsSome (body s t) ×
      IsRepeatedFirst x (symbols own_symbol s t)
  IsTableRefusal t no_symbol = ⊥
  IsTableRefusal t (elsewhere x) = ⊥
  IsTableRefusal t outside = ⊥
  IsTableRefusal t not_there = ⊥
