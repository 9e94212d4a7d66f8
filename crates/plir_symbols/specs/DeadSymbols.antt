-- Which symbols of a table are reached, and which are dead.
use Rattle.std.specs.Prelude.{◌≡◌, ℕ, zero, suc, Bool, true, List, Some, ◌⊎◌}
use Rattle.plir_store.specs.Members.{Has}
use Rattle.plir_core.specs.declared.ptr.Ptr.{Ptr}
use Rattle.plir_core.specs.declared.ptr.Operation.{Operation as OperationKind}
use Rattle.plir_core.specs.declared.ptr.IRNode.TheVariants.{Operation}
use Rattle.plir_core.specs.Contents.{OpView}
use Rattle.plir_core.specs.ContextView.{ContextView, IsAncestor, op_at}
use Rattle.plir_core.specs.Unused.{IsUnusedOutside}
use Rattle.plir_builtin.specs.Nearest.{IsFoundNearest}
use Rattle.plir_builtin.specs.Symbols.{body, children_in}
use Rattle.plir_builtin.specs.Refusals.{IsSymbolNamed}
use Rattle.plir_symbols.specs.SymbolNames.{is_private_in, names_in}

-- The least set that holds what `root` holds of, and with a thing all that it uses: what is reached in k steps, and
-- what is reached.
module _ {X : Type 0} (root : X → Type 0) (uses : X → X → Type 0) where
  abbrev pub IsReachedIn : ℕ → X → Type 0
  IsReachedIn zero q = root q
  IsReachedIn (suc k) q = (p : X) × IsReachedIn k p × uses p q

  abbrev pub IsReachedFrom : X → Type 0
  IsReachedFrom q = (k : ℕ) × IsReachedIn k q

module _ {K A T : Type 0} (s : ContextView K A T) (table : Ptr OperationKind) where
  -- an operation stands in the body of a table
  abbrev pub IsInBody : Ptr OperationKind → Type 0
  IsInBody p = Has (children_in s (body s table)) (Operation p)

module _ {K A T : Type 0} (own_symbol : K → Bool) (is_private : OpView K A → Bool) where
  -- A symbol may go: it is private, it has a name, and nothing outside its tree uses a value or a block of the tree.
  pub record MayGo (s : ContextView K A T) (p : Ptr OperationKind) : Type 0 where
    pub name : List ℕ
    pub named : IsSymbolNamed own_symbol s p name
    pub private : is_private_in is_private (op_at s p) ≡ true
    pub unused : IsUnusedOutside s (Operation p)

  module _ (own_table : K → Bool) (names : OpView K A → List (List ℕ)) (s : ContextView K A T) where
    -- the operation u uses the symbol q: it uses a name under which a scan of its nearest table finds q
    abbrev pub IsUse : Ptr OperationKind → Ptr OperationKind → Type 0
    IsUse u q = (x : List ℕ) × Has (names_in names (op_at s u)) x × IsFoundNearest own_symbol own_table s u x (Some q)

    module _ (table : Ptr OperationKind) where
      -- it stays by itself: it may not go, or the table's own operation uses it
      abbrev pub IsRoot : Ptr OperationKind → Type 0
      IsRoot p = IsInBody s table p × ((MayGo s p → ⊥) ⊎ IsUse table p)

      -- an operation at or below p uses the symbol q of the table
      abbrev pub IsUsedUnder : Ptr OperationKind → Ptr OperationKind → Type 0
      IsUsedUnder p q =
          IsInBody s table q × ((u : Ptr OperationKind) × IsAncestor s (Operation p) (Operation u) × IsUse u q)

      -- What is reached is what stays by itself, and what operations use that stand at or below what is reached.
      abbrev pub IsReached : Ptr OperationKind → Type 0
      IsReached q = IsReachedFrom IsRoot IsUsedUnder q

      -- A dead symbol of the table stands in its body, may go, and is not reached: so symbols that use themselves or
      -- one another alone are dead.
      pub record IsDead (p : Ptr OperationKind) : Type 0 where
        pub here : IsInBody s table p
        pub may_go : MayGo s p
        pub unreached : IsReached p → ⊥

      -- no symbol of the table is dead
      abbrev pub HasNoDead : Type 0
      HasNoDead = (p : Ptr OperationKind) → IsDead p → ⊥
