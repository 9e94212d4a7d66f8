-- What the passes of the library say of themselves.
use Rattle.std.specs.Prelude.{ℕ, Bool, List, codes}
use Rattle.plir_core.specs.declared.ptr.Ptr.{Ptr}
use Rattle.plir_core.specs.declared.ptr.Operation.{Operation as OperationKind}
use Rattle.plir_core.specs.declared.ptr.IRNode.TheVariants.{Operation}
use Rattle.plir_core.specs.Contents.{OpView}
use Rattle.plir_core.specs.Forest.{look}
use Rattle.plir_core.specs.ContextView.{ContextView}
use Rattle.plir_core.specs.Unused.{IsUnusedOutside}
use Rattle.plir_walk.specs.Lawful.{Lawful}
use Rattle.plir_walk.specs.Unnamed.{IsUnnamed}
use Rattle.plir_passes.specs.Dead.{HasNoDead}
use Rattle.plir_passes.specs.Reached.{AreAllReached, IsReachedLeft}
use Rattle.plir_builtin.specs.Refusals.{IsTableRefusal, Reports}
use Rattle.plir_symbols.specs.DeadSymbols.{HasNoDead as HasNoDeadSymbol}
use Rattle.plir_symbols.specs.SweptSymbols.{AreSweeps, AreSwept}
use Rattle.plir_driver.specs.declared.library.LibraryPass.{LibraryPass}
use Rattle.plir_driver.specs.declared.library.LibraryPass.TheVariants.{EraseNames, Dce, SymbolDce}
use Rattle.plir_driver.specs.declared.pass_err.PassErr.{PassErr}
use Rattle.plir_driver.specs.declared.pass_err.PassErr.TheVariants.{NoTable, Unfit, OutOfMemory}

-- the name of a pass
abbrev pub library_name : LibraryPass → List ℕ
library_name EraseNames = codes "erase-names"
library_name Dce = codes "dce"
library_name SymbolDce = codes "symbol-dce"

module _ {K A T : Type 0} (effect ends : K → Bool) (p : Ptr OperationKind) where
  -- From s to t, of the operations at or below p exactly those are left that are reached, so that in t all of them
  -- are, and none is dead; all else stays as it was.
  pub record IsSweptOf (s t : ContextView K A T) : Type 0 where
    pub left : IsReachedLeft effect ends s p t
    pub clean : AreAllReached effect ends t p
    pub none_dead : HasNoDead effect ends t (Operation p)
    pub lawful : Lawful (look s) (Operation p) (look t)

module _ {K A T : Type 0} (effect ends own_symbol own_table : K → Bool) (private : OpView K A → Bool)
    (names : OpView K A → List (List ℕ)) where
  -- From s to t a pass has gone over the operation p and all below it: all names there are erased; or what is not
  -- reached from p is; or exactly the dead symbols of p are, in their order and until none is left.
  abbrev pub IsPassed : LibraryPass → Ptr OperationKind → ContextView K A T → ContextView K A T → Type 0
  IsPassed EraseNames p s t = IsUnnamed s t (Operation p)
  IsPassed Dce p s t = IsSweptOf effect ends p s t
  IsPassed SymbolDce p s t = AreSwept own_symbol private s t ×
      ((ms : List (ContextView K A T)) × AreSweeps own_symbol private own_table names p s ms t) ×
      HasNoDeadSymbol own_symbol private own_table names t p

module _ {K A T : Type 0} (p : Ptr OperationKind) (s : ContextView K A T) where
  -- Dead code is to go, and something outside uses a value or a block of the operation's tree; or memory is wanting.
  abbrev pub IsSweepRefusal : PassErr → Type 0
  IsSweepRefusal (Unfit why) = IsUnusedOutside s (Operation p) → ⊥
  IsSweepRefusal OutOfMemory = Unit {0}
  IsSweepRefusal _ = ⊥

  -- Dead symbols are to go, and the operation is no symbol table, or its table is refused; or memory is wanting.
  abbrev pub IsSymbolRefusal : (own_symbol own_table : K → Bool) → PassErr → Type 0
  IsSymbolRefusal own_symbol own_table (NoTable e) = Reports (IsTableRefusal own_symbol own_table s p) e
  IsSymbolRefusal own_symbol own_table OutOfMemory = Unit {0}
  IsSymbolRefusal own_symbol own_table _ = ⊥

module _ {K A T : Type 0} (own_symbol own_table : K → Bool) where
  -- a pass over the operation p in the context s is refused; names are erased always
  abbrev pub IsPassRefusal : LibraryPass → Ptr OperationKind → ContextView K A T → PassErr → Type 0
  IsPassRefusal EraseNames p s e = ⊥
  IsPassRefusal Dce p s e = IsSweepRefusal p s e
  IsPassRefusal SymbolDce p s e = IsSymbolRefusal p s own_symbol own_table e
