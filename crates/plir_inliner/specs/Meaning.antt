-- Which function a call means.
use Rattle.std.specs.Prelude.{◌≡◌, ℕ, Bool, false, true, List, length, Option, Some, None}
use Rattle.plir_data.specs.declared.op_set.OpKind.TheVariants.{Func}
use Rattle.plir_store.specs.Members.{Has}
use Rattle.plir_core.specs.declared.ptr.Ptr.{Ptr}
use Rattle.plir_core.specs.declared.ptr.Operation.{Operation as OperationKind}
use Rattle.plir_core.specs.declared.ptr.BasicBlock.{BasicBlock as BlockKind}
use Rattle.plir_core.specs.declared.ptr.IRNode.TheVariants.{BasicBlock}
use Rattle.plir_core.specs.Contents.{OpView}
use Rattle.plir_core.specs.ContextView.{ContextView, kind_of, operands_of}
use Rattle.plir_builtin.specs.declared.symbol_table_err.SymbolTableErr.{SymbolTableErr}
use Rattle.plir_builtin.specs.Nearest.{IsFoundNearest, IsNearest}
use Rattle.plir_builtin.specs.Refusals.{IsTableRefusal, Reports}
use Rattle.plir_builtin.specs.Symbols.{body}
use Rattle.plir_flow.specs.declared.calls.CallOpCallable.{CallOpCallable}
use Rattle.plir_flow.specs.declared.calls.CallOpCallable.TheVariants.{Direct, Indirect}
use Rattle.plir_flow_sets.specs.Calls.{CallView, IsToldCall}
use Rattle.plir_flow_sets.specs.Told.{told_of}
use Rattle.plir_inliner.specs.declared.errors.InlineErr.{InlineErr}
use Rattle.plir_inliner.specs.declared.errors.InlineErr.TheVariants.{Memory, Table, TooManyNodes}

-- whether what is called is the function of a name
abbrev pub is_name : CallOpCallable → Bool
is_name (Direct name) = true
is_name (Indirect value) = false

-- whether what is told of an operation is a call of the function of a name
abbrev pub is_by_name : Option CallView → Bool
is_by_name None = false
is_by_name (Some c) = is_name c.callee

module _ {K A T : Type 0} (calls : OpView K A → Option CallView) (s : ContextView K A T) where
  -- whether an operation calls the function of a name
  abbrev pub calls_by_name : Ptr OperationKind → Bool
  calls_by_name p = is_by_name (told_of calls s p)

  -- it calls the function of this name, and its arguments are all of its operands
  abbrev pub PassesAll : Ptr OperationKind → List ℕ → Type 0
  PassesAll p name = IsToldCall calls s p (Direct name) (0, length (operands_of s p))

-- The operation f is a function of the builtin dialect, and the block is the only one of its only region.
pub record IsBodyOf {K A T : Type 0} (s : ContextView K A T) (f : Ptr OperationKind) (b : Ptr BlockKind) : Type 0 where
  pub function : kind_of s f ≡ Some Func
  pub body : body s f ≡ Some (BasicBlock b)

module _ {K A T : Type 0} (own_symbol own_table : K → Bool) (calls : OpView K A → Option CallView)
    (s : ContextView K A T) where
  -- A call means f: it passes all of its operands to the function of a name, and f is what a scan of the nearest table
  -- at or above the call finds under that name.
  pub record Means (call f : Ptr OperationKind) : Type 0 where
    pub name : List ℕ
    pub passes : PassesAll calls s call name
    pub found : IsFoundNearest own_symbol own_table s call name (Some f)

  -- the block is the body of a function that the call means
  pub record IsBodyMeant (call : Ptr OperationKind) (b : Ptr BlockKind) : Type 0 where
    pub callee : Ptr OperationKind
    pub means : Means call callee
    pub body : IsBodyOf s callee b

  -- What a call means is not told: it passes all of its operands to the function of a name, and the nearest table at or
  -- above it is refused.
  pub record IsCalleeRefusal (call : Ptr OperationKind) (e : SymbolTableErr) : Type 0 where
    pub name : List ℕ
    pub passes : PassesAll calls s call name
    pub table : Ptr OperationKind
    pub nearest : IsNearest own_table s call (Some table)
    pub refused : Reports (IsTableRefusal own_symbol own_table s table) e

  -- that is refused, or memory was
  abbrev pub IsMeaningRefusal : Ptr OperationKind → InlineErr → Type 0
  IsMeaningRefusal call Memory = Unit {0}
  IsMeaningRefusal call TooManyNodes = ⊥
  IsMeaningRefusal call (Table e) = IsCalleeRefusal call e

  -- the same of one of some operations that is not the root
  abbrev pub IsAnyRefusal : (root : Ptr OperationKind) → List (Ptr OperationKind) → InlineErr → Type 0
  IsAnyRefusal root ps Memory = Unit {0}
  IsAnyRefusal root ps TooManyNodes = ⊥
  IsAnyRefusal root ps (Table e) = (p : Ptr OperationKind) × Has ps p × (p ≡ root → ⊥) × IsMeaningRefusal p (Table e)
