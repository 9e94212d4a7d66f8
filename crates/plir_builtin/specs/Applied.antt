-- What the two steps of an edit leave: a table is seen to, and the edit is called on it.
use Rattle.std.specs.Prelude.{◌≡◌, Bool, None, Result, Ok, Err}
use Rattle.std.specs.FinMap as map
use Rattle.plir_core.specs.declared.ptr.Ptr.{Ptr}
use Rattle.plir_core.specs.declared.ptr.Operation.{Operation as OperationKind}
use Rattle.plir_core.specs.ContextView.{ContextView}
use Rattle.plir_builtin.specs.declared.symbol_edits.SymbolEdit.{SymbolEdit}
use Rattle.plir_builtin.specs.declared.symbol_table_err.SymbolTableErr.{SymbolTableErr}
use Rattle.plir_builtin.specs.Table.{Table, Tables}
use Rattle.plir_builtin.specs.Agree.{AllAgree, IsCachedFor}
use Rattle.plir_builtin.specs.Refusals.{ReportsOr, IsTableRefusal}
use Rattle.plir_builtin.specs.SymbolEdits.{table_of, IsMadeEdit, IsCallGrowth, IsCallRefusal}

module _ {K A T : Type 0} (is_terminator own_symbol own_table : K → Bool) (s : ContextView K A T) (c : Tables) where
  -- a table that agrees is cached for p, and all agree; or that is refused, and only where none was cached
  abbrev pub IsSeenTo : Ptr OperationKind → Result (Unit {0}) SymbolTableErr → Tables → Type 0
  IsSeenTo p (Ok u) c' = IsCachedFor own_symbol own_table s c' p × AllAgree own_symbol own_table s c'
  IsSeenTo p (Err x) c' = (c' ≡ c) × ReportsOr (map.get c p ≡ None) (IsTableRefusal own_symbol own_table s p) x

  -- the edit is made through the table that is cached, or the call refuses it and nothing changes
  abbrev pub IsCalled : SymbolEdit → Result (Unit {0}) SymbolTableErr → ContextView K A T → Tables → Type 0
  IsCalled e (Ok u) s' c' =
      IsMadeEdit is_terminator own_symbol own_table s e s' × ((t : Table) × (c' ≡ map.insert c (table_of e) t))
      × AllAgree own_symbol own_table s' c'
  IsCalled e (Err x) s' c' =
      (s' ≡ s) × (c' ≡ c)
      × ReportsOr (IsCallGrowth is_terminator own_symbol own_table s e)
      (IsCallRefusal is_terminator own_symbol own_table s e) x
