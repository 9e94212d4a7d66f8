-- The nearest table at or above an operation.
use Rattle.std.specs.Prelude.{◌≡◌, ℕ, suc, ◌<◌, Bool, true, false, List, Option, Some, None, IfSome, option_and_then}
use Rattle.std.specs.FinMap as map
use Rattle.plir_core.specs.declared.ptr.Ptr.{Ptr}
use Rattle.plir_core.specs.declared.ptr.Operation.{Operation as OperationKind}
use Rattle.plir_core.specs.declared.ptr.IRNode.{IRNode}
use Rattle.plir_core.specs.declared.ptr.IRNode.TheVariants.{Operation, Region, BasicBlock}
use Rattle.plir_core.specs.Above.{climb}
use Rattle.plir_core.specs.ContextView.{ContextView, op_above, op_at, kind_in}
use Rattle.plir_builtin.specs.declared.symbol_table_err.SymbolTableErr.{SymbolTableErr}
use Rattle.plir_builtin.specs.Table.{Tables}
use Rattle.plir_builtin.specs.Symbols.{IsGood, is_table_kind, scan}
use Rattle.plir_builtin.specs.Agree.{IsBrought}
use Rattle.plir_builtin.specs.Refusals.{Reports, IsTableRefusal}

-- the node, if it is an operation
abbrev pub as_op : Option IRNode → Option (Ptr OperationKind)
as_op None = None
as_op (Some (Operation p)) = Some p
as_op (Some (Region p)) = None
as_op (Some (BasicBlock p)) = None

module _ {K A T : Type 0} where
  -- the parent operation of an operation
  abbrev pub op_over : ContextView K A T → Ptr OperationKind → Option (Ptr OperationKind)
  op_over s p = as_op (op_above s (Operation p))

  -- the first of n, its parent operation, that one's parent operation and so on that is of table kind, or none of them
  -- is
  abbrev pub IsNearest : (own_table : K → Bool) → ContextView K A T → Ptr OperationKind → Option (Ptr OperationKind)
      → Type 0
  IsNearest own_table s n (Some t) =
      (k : ℕ) × (climb (op_over s) k (Some n) ≡ Some t) × (is_table_kind own_table (kind_in (op_at s t)) ≡ true)
      × ((j : ℕ) (u : Ptr OperationKind) → j < k → climb (op_over s) j (Some n) ≡ Some u →
      is_table_kind own_table (kind_in (op_at s u)) ≡ false)
  IsNearest own_table s n None = (j : ℕ) (u : Ptr OperationKind) → climb (op_over s) j (Some n) ≡ Some u →
      is_table_kind own_table (kind_in (op_at s u)) ≡ false

-- how far it is up
abbrev pub levels_up : (IRNode → ℕ) → Option (Ptr OperationKind) → ℕ
levels_up depth None = 0
levels_up depth (Some p) = suc (depth (Operation p))

module _ {K A T : Type 0} (own_symbol own_table : K → Bool) (s : ContextView K A T) where
  -- what is found under the name x in the nearest table, which is good
  abbrev pub IsFoundNearest : Ptr OperationKind → List ℕ → Option (Ptr OperationKind) → Type 0
  IsFoundNearest n x r =
      (t : Option (Ptr OperationKind)) × IsNearest own_table s n t × IfSome t (IsGood own_symbol own_table s)
      × (r ≡ option_and_then (λ p. scan own_symbol s p x) t)

  -- what a look-up of the name x in that table answers, and the cached tables before and afterwards: the table is
  -- cached, as it was or newly, and what it has recorded under the name is answered; without a table nothing is found,
  -- nor changed
  abbrev pub IsAnswerOf : (c c' : Tables) → List ℕ → Option (Ptr OperationKind) → Option (Ptr OperationKind) → Type 0
  IsAnswerOf c c' x None r = (r ≡ None) × (c' ≡ c)
  IsAnswerOf c c' x (Some p) r = IsBrought own_symbol own_table s c p c' ×
      IfSome (map.get c' p) (λ t. r ≡ map.get t.names x)

  -- the same for the nearest table of n
  abbrev pub IsAnsweredNearest : (c c' : Tables) → Ptr OperationKind → List ℕ → Option (Ptr OperationKind) → Type 0
  IsAnsweredNearest c c' n x r = (t : Option (Ptr OperationKind)) × IsNearest own_table s n t × IsAnswerOf c c' x t r

  -- none is cached for the nearest table, which is refused
  abbrev pub IsNearestRefusal : Tables → Ptr OperationKind → SymbolTableErr → Type 0
  IsNearestRefusal c n e =
      (t : Ptr OperationKind) × IsNearest own_table s n (Some t) × (map.get c t ≡ None)
      × Reports (IsTableRefusal own_symbol own_table s t) e
