-- What agreement lasts through: nodes and types that are made, and changes that leave tables as they were.
use Rattle.std.specs.Prelude.{◌≡◌, ◌⊎◌, ℕ, Bool, true, List, Some, IsSome}
use Rattle.std.specs.FinMap.{get}
use Rattle.plir_core.specs.declared.ptr.Ptr.{Ptr}
use Rattle.plir_core.specs.declared.ptr.Operation.{Operation as OperationKind}
use Rattle.plir_core.specs.declared.ptr.IRNode.{IRNode}
use Rattle.plir_core.specs.declared.ptr.IRNode.TheVariants.{Operation}
use Rattle.plir_core.specs.Changes.{SameLive}
use Rattle.plir_core.specs.Made.{IsMade}
use Rattle.plir_core.specs.ContextView.{ContextView, IsLive, kind_in, op_at}
use Rattle.plir_core.specs.WellFormed.{IsWellFormed}
use Rattle.plir_builtin.specs.Symbols.{is_table_kind, body, symbols}
use Rattle.plir_builtin.specs.Table.{Table, Tables}
use Rattle.plir_builtin.specs.Agree.{AllAgree, AreGivenOut}

module _ {K A T : Type 0} (own_symbol own_table : K → Bool) (own_handles : A → List ℕ) (t : ContextView K A T) where
  -- where a tree of new nodes was made on the way from s to t, the tables that agreed and were cached for what was
  -- given out agree
  abbrev pub LastsOverNodes : Type 0
  LastsOverNodes = (s : ContextView K A T) (n : IRNode) (c : Tables) → IsWellFormed own_handles s
      → IsMade s.nodes t.nodes n →
      AreGivenOut s c → AllAgree own_symbol own_table s c → AllAgree own_symbol own_table t c

  -- where no live node has changed, the tables that agreed agree
  abbrev pub LastsOverRefusals : Type 0
  LastsOverRefusals = (s : ContextView K A T) (c : Tables) → IsWellFormed own_handles s → SameLive s t →
      AllAgree own_symbol own_table s c → AllAgree own_symbol own_table t c

  -- and where nothing but the types has changed
  abbrev pub LastsOverTypes : Type 0
  LastsOverTypes = (s : ContextView K A T) (c : Tables) → IsWellFormed own_handles s → t.nodes ≡ s.nodes →
      AllAgree own_symbol own_table s c → AllAgree own_symbol own_table t c

module _ {K A T : Type 0} (own_symbol own_table : K → Bool) (s t : ContextView K A T) where
  -- From s to t an operation has stayed a table: it is of a table kind if it was, has a body if it had one, and the
  -- same symbols stand in it in their order, with the names that they had.
  pub record StaysTable (p : Ptr OperationKind) : Type 0 where
    pub kind : is_table_kind own_table (kind_in (op_at s p)) ≡ true →
        is_table_kind own_table (kind_in (op_at t p)) ≡ true
    pub body : IsSome (body s p) → IsSome (body t p)
    pub symbols : symbols own_symbol t p ≡ symbols own_symbol s p

  -- Each table that is cached for an operation which is live in t, or is its, was cached so for a live one in s, and
  -- its operation has stayed a table.
  abbrev pub StayTables : Tables → Type 0
  StayTables c = (p : Ptr OperationKind) (tab : Table) → get c p ≡ Some tab →
      IsLive t (Operation tab.op) ⊎ IsLive t (Operation p) →
      (IsLive s (Operation tab.op) ⊎ IsLive s (Operation p)) × (IsLive s (Operation tab.op) → StaysTable tab.op)

  -- where all cached tables have stayed tables, those that agreed agree
  abbrev pub LastsOverTables : Type 0
  LastsOverTables = (c : Tables) → StayTables c → AllAgree own_symbol own_table s c → AllAgree own_symbol own_table t c
