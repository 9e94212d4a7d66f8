-- What is asked of operations by their own kinds, and reported of them.
use Rattle.std.specs.Prelude.{◌≡◌, Some}
use Rattle.plir_data.specs.declared.op_set.OpKind.{OpKind}
use Rattle.plir_data.specs.declared.location.Location.{Location}
use Rattle.plir_data.specs.declared.op_set.OpKind.TheVariants.{Own}
use Rattle.plir_core.specs.declared.ptr.Ptr.{Ptr}
use Rattle.plir_core.specs.declared.ptr.Operation.{Operation as OperationKind}
use Rattle.plir_core.specs.Contents.{OpView}
use Rattle.plir_core.specs.ContextView.{ContextView, kind_of}
use Rattle.plir_dialect.specs.Errors.{IsOfKind}
use Rattle.plir_dialect.specs.declared.dialect.DialectErr.{DialectErr}

-- What each own kind asks of an operation; and what may be reported of one of the kind: a location, and an error.
abbrev pub KindAsks : Type 0 → Type 0 → Type 0 → Type 0 → Type 1
KindAsks O K A T = O → ContextView K A T → Ptr OperationKind → Type 0

abbrev pub KindReports : Type 0 → Type 0 → Type 0 → Type 0 → Type 0 → Type 1
KindReports O K A T E = O → ContextView K A T → Ptr OperationKind → Location → E → Type 0

module _ {K A T : Type 0} where
  -- an operation of an own kind meets what its kind asks
  abbrev pub AsksOfKind : KindAsks K K A T → ContextView K A T → Ptr OperationKind → Type 0
  AsksOfKind asks s op = (k : K) → kind_of s op ≡ Some (Own k) → asks k s op

  -- it may be reported of an operation of an own kind, by its kind
  abbrev pub ReportsOfKind : {E F : Type 0} → KindReports K K A T E → ContextView K A T → Ptr OperationKind → Location →
      DialectErr E F → Type 0
  ReportsOfKind reports s op loc err = (k : K) × (kind_of s op ≡ Some (Own k)) × IsOfKind (reports k s op loc) err

module _ {K A X : Type 0} where
  -- what an answer is where the kind is this one
  abbrev pub answer_at : (own : K → OpView K A → X) → (builtin : OpView K A → X) → OpView K A → OpKind K → X
  answer_at own builtin held (Own k) = own k held
  answer_at own builtin held _ = builtin held

  -- what is answered by what an operation holds: as its own kind says, or, of a builtin one, as of those
  abbrev pub by_kind : (own : K → OpView K A → X) → (builtin : OpView K A → X) → OpView K A → X
  by_kind own builtin held = answer_at own builtin held held.kind
