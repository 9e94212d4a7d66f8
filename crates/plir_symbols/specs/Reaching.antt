-- What the search for the reached symbols of a table reaches, step by step.
use Rattle.std.specs.Prelude.{◌≡◌, ℕ, Bool, true, false, ◌&&◌, nat_eq, cond, List, [], ◌∷◌, ◌++◌, Some, ◌⊎◌}
use Rattle.std.specs.FinMap as map
use Rattle.std.specs.List.{list_any}
use Rattle.std.specs.declared.ops.ControlFlow.{ControlFlow}
use Rattle.std.specs.declared.ops.ControlFlow.TheVariants.{Continue, Break}
use Rattle.plir_walk.specs.declared.interruptible.WalkContinue.{WalkContinue}
use Rattle.plir_walk.specs.declared.interruptible.WalkContinue.TheVariants.{Advance, Skip}
use Rattle.plir_store.specs.Members.{Distinct, Has}
use Rattle.plir_core.specs.declared.ptr.Ptr.{Ptr}
use Rattle.plir_core.specs.declared.ptr.Operation.{Operation as OperationKind}
use Rattle.plir_core.specs.declared.ptr.BasicBlock.{BasicBlock as BasicBlockKind}
use Rattle.plir_core.specs.declared.ptr.IRNode.TheVariants.{Operation, BasicBlock}
use Rattle.plir_core.specs.Contents.{OpView}
use Rattle.plir_core.specs.ContextView.{ContextView, IsAncestor, IsLive, children, kind_in, op_at}
use Rattle.plir_core.specs.SameValue.{same_ptr}
use Rattle.plir_builtin.specs.Symbols.{is_table_kind}
use Rattle.plir_builtin.specs.Table.{Table}
use Rattle.plir_symbols.specs.SymbolNames.{names_in}
use Rattle.plir_symbols.specs.DeadSymbols.{MayGo}
use Rattle.plir_symbols.specs.declared.reached.Reached.{Reached}

-- whether pointers are the same, as a hash set asks
abbrev pub ptr_eq : Ptr OperationKind → Ptr OperationKind → Bool
ptr_eq p q = nat_eq p.slot q.slot && (nat_eq p.version q.version && true)

-- whether an operation is one of some
abbrev pub is_among : List (Ptr OperationKind) → Ptr OperationKind → Bool
is_among [] p = false
is_among (q ∷ qs) p = cond (same_ptr q p) true (is_among qs p)

-- it is known whether P holds
abbrev pub Tells : Type 0 → Type 0
Tells P = P ⊎ (P → ⊥)

-- those that are reached
abbrev pub ops_of : Reached → List (Ptr OperationKind)
ops_of r = r.ops.items

-- The list and the marks tell of the same operations, and each stands in the list once.
pub record IsWhole (r : Reached) : Type 0 where
  pub marked : (p : Ptr OperationKind) → list_any (ptr_eq p) r.marks.keys ≡ is_among (ops_of r) p
  pub once : Distinct (ops_of r)

-- Behind those that were reached, those were put that P holds of and that were not among them.
pub record IsGrown (P : Ptr OperationKind → Type 0) (r r' : Reached) : Type 0 where
  pub more : List (Ptr OperationKind)
  pub behind : ops_of r' ≡ ops_of r ++ more
  pub only : (p : Ptr OperationKind) → Has more p → P p
  pub all : IsWhole r → (p : Ptr OperationKind) → P p → Has (ops_of r') p
  pub whole : IsWhole r → IsWhole r'

module _ {K A T : Type 0} (own_table : K → Bool) (names : OpView K A → List (List ℕ)) (s : ContextView K A T)
    (c : Table) where
  -- whether an operation is of table kind
  abbrev pub is_table_at : Ptr OperationKind → Bool
  is_table_at p = is_table_kind own_table (kind_in (op_at s p))

  -- the table c has the live operation q under a name that u uses
  abbrev pub IsTold : Ptr OperationKind → Ptr OperationKind → Type 0
  IsTold u q = IsLive s (Operation q) ×
      ((x : List ℕ) × Has (names_in names (op_at s u)) x × (map.get c.names x ≡ Some q))

  -- the operation u stands at or below p, and no table at or above it that does
  abbrev pub IsOpenUnder : Ptr OperationKind → Ptr OperationKind → Type 0
  IsOpenUnder p u = IsAncestor s (Operation p) (Operation u) × ((m : Ptr OperationKind) →
      IsAncestor s (Operation p) (Operation m) → IsAncestor s (Operation m) (Operation u) → is_table_at m ≡ false)

  -- of such an operation the table tells q
  abbrev pub IsToldUnder : Ptr OperationKind → Ptr OperationKind → Type 0
  IsToldUnder p q = (u : Ptr OperationKind) × IsOpenUnder p u × IsTold u q

  -- What a call at an operation does to what is reached: what the table tells of it is reached too, and the walk goes
  -- on; it is a table, nothing has changed, and what is below it is left out; or the walk is broken off.
  abbrev pub IsReachedAt : {B : Type 0} → Reached → Ptr OperationKind → ControlFlow B WalkContinue → Reached → Type 0
  IsReachedAt r p (Continue Advance) r' = (is_table_at p ≡ false) × IsGrown (IsTold p) r r'
  IsReachedAt r p (Continue Skip) r' = (is_table_at p ≡ true) × (r' ≡ r)
  IsReachedAt r p (Break b) r' = Unit {0}

module _ {K A T : Type 0} (own_symbol : K → Bool) (is_private : OpView K A → Bool) (s : ContextView K A T)
    (b : Ptr BasicBlockKind) where
  -- an operation of a block may not go
  abbrev pub IsKept : Ptr OperationKind → Type 0
  IsKept p = Has (children s (BasicBlock b)) (Operation p) × (MayGo own_symbol is_private s p → ⊥)
