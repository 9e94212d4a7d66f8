-- What an edit of symbols answers, and the context afterwards, by scans of the bodies; and which tables are then
-- cached.
use Rattle.std.specs.Prelude.{◌≡◌, ℕ, Bool, List, [], ◌∷◌, Option, Some, None, Result, Ok, Err, IfSome, ◌⊎◌}
use Rattle.std.specs.FinMap as map
use Rattle.plir_core.specs.declared.ptr.Ptr.{Ptr}
use Rattle.plir_core.specs.declared.ptr.Operation.{Operation as OperationKind}
use Rattle.plir_core.specs.declared.ptr.IRNode.TheVariants.{Operation}
use Rattle.plir_core.specs.InsertionPoint.{IsPointLive}
use Rattle.plir_core.specs.ContextView.{ContextView, IsLive, IsAncestor, parent_of}
use Rattle.plir_core.specs.Changes.{with_op_unlinked}
use Rattle.plir_core.specs.Unused.{IsUnusedOutside, without_tree}
use Rattle.plir_builtin.specs.declared.symbol_edits.SymbolEdit.{SymbolEdit}
use Rattle.plir_builtin.specs.declared.symbol_edits.SymbolEdit.TheVariants.{Insert, Remove, Erase}
use Rattle.plir_builtin.specs.declared.symbol_edits.SymbolEditErr.{SymbolEditErr}
use Rattle.plir_builtin.specs.declared.symbol_edits.SymbolEditErr.TheVariants.{DeadPointer, WouldNest, StillUsed, Table}
use Rattle.plir_builtin.specs.Table.{Tables, Table as CachedTable}
use Rattle.plir_builtin.specs.Symbols.{IsGood, body, scan}
use Rattle.plir_builtin.specs.Agree.{AllAgree, IsBrought}
use Rattle.plir_builtin.specs.Insertion.{inserted}
use Rattle.plir_builtin.specs.Refusals.{Refusal, reported, IsSymbolNamed, IsNotOthers, IsPlaceable, IsInsertGrowth}
use Rattle.plir_builtin.specs.Refusals.{IsInsertRefusal, IsRemoveRefusal, IsTableRefusal}

-- the operation of the table that is edited
abbrev pub table_of : SymbolEdit → Ptr OperationKind
table_of (Insert t o p) = t
table_of (Remove t o) = t
table_of (Erase t o) = t

module _ {K A T : Type 0} (is_terminator own_symbol own_table : K → Bool) (s : ContextView K A T) where
  -- all that the edit names is live
  abbrev pub IsEditLive : SymbolEdit → Type 0
  IsEditLive (Insert t o p) = IsLive s (Operation t) × IsLive s (Operation o) × IfSome p (IsPointLive s)
  IsEditLive (Remove t o) = IsLive s (Operation t) × IsLive s (Operation o)
  IsEditLive (Erase t o) = IsLive s (Operation t) × IsLive s (Operation o)

  -- the operation is a symbol of the body with a name
  abbrev pub IsMember : Ptr OperationKind → Ptr OperationKind → Type 0
  IsMember t o = ((x : List ℕ) × IsSymbolNamed own_symbol s o x) × (parent_of s (Operation o) ≡ body s t)

  -- the edit is made: its conditions hold, and this is the context afterwards
  abbrev pub IsMadeEdit : SymbolEdit → ContextView K A T → Type 0
  IsMadeEdit (Insert t o p) s' =
      (IsAncestor s (Operation o) (Operation t) → ⊥) × ((x : List ℕ) × IsSymbolNamed own_symbol s o x ×
      IsNotOthers own_symbol s (scan own_symbol s t) o x) × IsPlaceable own_symbol s t o p
      × (s' ≡ inserted is_terminator s t o p)
  IsMadeEdit (Remove t o) s' = IsMember t o × (s' ≡ with_op_unlinked s o)
  IsMadeEdit (Erase t o) s' = IsMember t o × IsUnusedOutside s (Operation o) × (s' ≡ without_tree s (Operation o))

  -- the call on the table refuses
  abbrev pub IsCallRefusal : SymbolEdit → Refusal → Type 0
  IsCallRefusal (Insert t o p) r = (IsAncestor s (Operation o) (Operation t) → ⊥) ×
      IsInsertRefusal own_symbol s (scan own_symbol s t) t o p r
  IsCallRefusal (Remove t o) r = IsRemoveRefusal own_symbol s t o r
  IsCallRefusal (Erase t o) r = IsRemoveRefusal own_symbol s t o r

  -- the edit would put an operation below itself; it would erase what is still used
  abbrev pub IsNesting : SymbolEdit → Type 0
  IsNesting (Insert t o p) = IsAncestor s (Operation o) (Operation t)
  IsNesting (Remove t o) = ⊥
  IsNesting (Erase t o) = ⊥

  abbrev pub IsStillUsed : SymbolEdit → Type 0
  IsStillUsed (Insert t o p) = ⊥
  IsStillUsed (Remove t o) = ⊥
  IsStillUsed (Erase t o) = IsMember t o × (IsUnusedOutside s (Operation o) → ⊥)

  -- the call on the table needs memory: an insertion alone does
  abbrev pub IsCallGrowth : SymbolEdit → Type 0
  IsCallGrowth (Insert t o p) = (IsAncestor s (Operation o) (Operation t) → ⊥) ×
      IsInsertGrowth own_symbol s (scan own_symbol s t) t o p
  IsCallGrowth (Remove t o) = ⊥
  IsCallGrowth (Erase t o) = ⊥

  module _ (c : Tables) where
    -- what a table reports that refuses an edit: that it is not good, or what the call refuses; it is refused memory
    -- where no table was cached, or where the call needs some
    abbrev pub IsTableReportedFor : SymbolEdit → Option Refusal → Type 0
    IsTableReportedFor e (Some r) =
        IsTableRefusal own_symbol own_table s (table_of e) r
        ⊎ (IsGood own_symbol own_table s (table_of e) × IsCallRefusal e r)
    IsTableReportedFor e None =
        (map.get c (table_of e) ≡ None) ⊎ (IsGood own_symbol own_table s (table_of e) × IsCallGrowth e)

    -- Why an edit is refused: something that it names is dead; else the table is not good; else it would nest; else the
    -- call on the table refuses; else the operation is still used.
    abbrev pub IsEditRefusal : SymbolEdit → SymbolEditErr → Type 0
    IsEditRefusal e DeadPointer = IsEditLive e → ⊥
    IsEditRefusal e WouldNest = IsEditLive e × IsGood own_symbol own_table s (table_of e) × IsNesting e
    IsEditRefusal e StillUsed = IsEditLive e × IsGood own_symbol own_table s (table_of e) × IsStillUsed e
    IsEditRefusal e (Table x) = IsEditLive e × IsTableReportedFor e (reported x)

    -- Where an edit is refused, each table that was cached stays as it was; for the edited one a new table may be
    -- cached.
    abbrev pub IsAtMostBrought : SymbolEdit → Tables → Type 0
    IsAtMostBrought e c' = (c' ≡ c) ⊎ IsBrought own_symbol own_table s c (table_of e) c'

    -- what an edit answers, and the context and the cached tables afterwards: where it is made, the edited table is
    -- cached, and all else is cached as it was
    abbrev pub IsEdited : SymbolEdit → Result (Unit {0}) SymbolEditErr → ContextView K A T → Tables → Type 0
    IsEdited e (Ok u) s' c' =
        IsEditLive e × IsGood own_symbol own_table s (table_of e) × IsMadeEdit e s'
        × ((t : CachedTable) × (c' ≡ map.insert c (table_of e) t))
    IsEdited e (Err x) s' c' = (s' ≡ s) × IsEditRefusal e x × IsAtMostBrought e c'

    -- the same, and all tables agree afterwards
    abbrev pub IsStep : SymbolEdit → Result (Unit {0}) SymbolEditErr → ContextView K A T → Tables → Type 0
    IsStep e r s' c' = IsEdited e r s' c' × AllAgree own_symbol own_table s' c'

module _ {K A T : Type 0} (is_terminator own_symbol own_table : K → Bool) where
  -- The answers to edits one after another, from a context and its cached tables to those afterwards: each edit goes on
  -- from what the one before it left, and after each of them all tables agree.
  abbrev pub AreEdited : ContextView K A T → Tables → List SymbolEdit → List (Result (Unit {0}) SymbolEditErr) →
      ContextView K A T → Tables → Type 0
  AreEdited s c [] [] s' c' = (s' ≡ s) × (c' ≡ c)
  AreEdited s c [] (r ∷ rs) s' c' = ⊥
  AreEdited s c (e ∷ es) [] s' c' = ⊥
  AreEdited s c (e ∷ es) (r ∷ rs) s' c' =
      (m : ContextView K A T) × (d : Tables) × IsStep is_terminator own_symbol own_table s c e r m d ×
      AreEdited m d es rs s' c'
