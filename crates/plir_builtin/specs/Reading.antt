-- A table while the operations of a block are read into it.
use Rattle.std.specs.Prelude.{◌≡◌, ℕ, List, ◌++◌}
use Rattle.std.specs.FinMap as map
use Rattle.plir_core.specs.declared.ptr.Ptr.{Ptr}
use Rattle.plir_core.specs.declared.ptr.Operation.{Operation as OperationKind}
use Rattle.plir_builtin.specs.Table.{Table}
use Rattle.plir_builtin.specs.Symbols.{Symbols, find_named, AllNamed, NamesDiffer}
use Rattle.plir_builtin.specs.Refusals.{Refusal, unnamed, redefined, no_table, regions, blocks, no_symbol, elsewhere}
use Rattle.plir_builtin.specs.Refusals.{outside, not_there, IsUnnamedFirst, IsRepeatedAt}

-- the table has the symbols es, all named and no two alike
pub record IsRead (es : Symbols) (t : Table) : Type 0 where
  pub named : AllNamed es
  pub apart : NamesDiffer es
  pub names : (x : List ℕ) → map.get t.names x ≡ find_named x es

-- the first symbol of the list that is refused; one that repeats a name is o
abbrev pub IsFirstRefusalAt : Ptr OperationKind → Symbols → Refusal → Type 0
IsFirstRefusalAt o es unnamed = IsUnnamedFirst es
IsFirstRefusalAt o es (redefined x) = IsRepeatedAt x o es
IsFirstRefusalAt o es no_table = ⊥
IsFirstRefusalAt o es (regions m n) = ⊥
IsFirstRefusalAt o es blocks = ⊥
IsFirstRefusalAt o es no_symbol = ⊥
IsFirstRefusalAt o es (elsewhere x) = ⊥
IsFirstRefusalAt o es outside = ⊥
IsFirstRefusalAt o es not_there = ⊥

-- from t to u the symbols fs were read behind those that were read; the first that is refused is among them
abbrev pub ReadsOn : Table → Symbols → Table → Type 0
ReadsOn t fs u = (es : Symbols) → IsRead es t → IsRead (es ++ fs) u

abbrev pub RefusesOn : Table → Ptr OperationKind → Symbols → Refusal → Type 0
RefusesOn t o fs r = (es : Symbols) → IsRead es t → IsFirstRefusalAt o (es ++ fs) r
