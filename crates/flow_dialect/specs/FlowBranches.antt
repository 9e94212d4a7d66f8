-- What branches of flow forward.
use Rattle.std.specs.Prelude.{◌≡◌, ℕ, ◌+◌, Bool, ◌&&◌, ◌==◌, cond, List, length, sum, slice_index_or, Option, Some}
use Rattle.std.specs.Prelude.{None}
use Rattle.std.specs.Prelude.{option_and_then}
use Rattle.plir_data.specs.Dictionary.{dict_get}
use Rattle.plir_data.specs.declared.op_set.OpKind.TheVariants.{Own}
use Rattle.plir_core.specs.declared.ptr.Ptr.{Ptr}
use Rattle.plir_core.specs.declared.ptr.Operation.{Operation as OperationKind}
use Rattle.plir_core.specs.Contents.{OpView}
use Rattle.plir_core.specs.ContextView.{ContextView, kind_of}
use Rattle.plir_flow.specs.Branches.{Range as Places, HasNSuccs}
use Rattle.plir_flow.specs.Segments.{HasSegments, sizes_in, sizes_key, start_in}
use Rattle.flow_dialect.specs.declared.kinds.FlowKind.{FlowKind}
use Rattle.flow_dialect.specs.declared.kinds.FlowKind.TheVariants.{Call, CallValue, Return, CondBranch, Scope}
use Rattle.flow_dialect.specs.declared.kinds.FlowKind.TheVariants.{Leave}

-- the places of the values in a segment, by the sizes of all
abbrev pub segment_in : List ℕ → ℕ → Places
segment_in sizes i = (start_in sizes i, start_in sizes i + slice_index_or sizes i 0)

module _ {K A : Type 0} (held : OpView K A) where
  -- these are the sizes of three segments of all operands, and there are two successors
  abbrev pub are_sizes : List ℕ → Bool
  are_sizes sizes = (length sizes == 3) && ((sum sizes == length held.operands) && (length held.successors == 2))

  -- the first segment is the condition, and each of the others is for a successor
  abbrev pub forwards_by : ℕ → Option (List ℕ) → Option Places
  forwards_by i None = None
  forwards_by i (Some sizes) = cond (are_sizes sizes) (Some (segment_in sizes (i + 1))) None

  -- what an operation of a kind forwards to a successor
  abbrev pub forwards_of : FlowKind → ℕ → Option Places
  forwards_of CondBranch i = forwards_by i (option_and_then sizes_in (dict_get held.attributes sizes_key))
  forwards_of Call i = None
  forwards_of CallValue i = None
  forwards_of Return i = None
  forwards_of Scope i = None
  forwards_of Leave i = None

-- The operands stand in three segments, and there are two successors.
pub record IsLaidOut {K A T : Type 0} (s : ContextView K A T) (op : Ptr OperationKind) : Type 0 where
  pub segments : HasSegments (Some 3) s op
  pub successors : HasNSuccs 2 s op

-- An operation is a conditional branch: it is of that kind, and this.
pub record IsCondBranch {A T : Type 0} (s : ContextView FlowKind A T) (op : Ptr OperationKind) : Type 0 where
  pub kind : kind_of s op ≡ Some (Own CondBranch)
  pub laid_out : IsLaidOut s op
