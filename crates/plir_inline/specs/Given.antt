-- Values that are given in place of the results of an operation or the arguments of a block.
use Rattle.std.specs.Prelude.{◌≡◌, ℕ, List, cond, length, map, option_map, slice_index_or}
use Rattle.plir_store.specs.Members.{Has}
use Rattle.plir_core.specs.declared.ptr.Ptr.{Ptr}
use Rattle.plir_core.specs.declared.ptr.Operation.{Operation as OperationKind}
use Rattle.plir_core.specs.declared.ptr.BasicBlock.{BasicBlock as BlockKind}
use Rattle.plir_core.specs.declared.value.Value.{Value}
use Rattle.plir_core.specs.declared.value.DefiningEntity.{DefiningEntity}
use Rattle.plir_core.specs.Contents.{OpView}
use Rattle.plir_core.specs.ContextView.{ContextView, op_at, block_at}
use Rattle.plir_core.specs.Held.{KeepsNodes}
use Rattle.plir_copies.specs.Copied.{is_among_first}

-- the first n values of e become those at their places of vs; any other value stays
abbrev pub given_first : DefiningEntity → List Value → ℕ → Value → Value
given_first e vs n v = cond (is_among_first e n v) (slice_index_or vs v.index v) v

-- each value of e that has a place in vs becomes the one there; any other value stays
abbrev pub given : DefiningEntity → List Value → Value → Value
given e vs v = given_first e vs (length vs) v

-- no value of the list comes from e
abbrev pub NoneFrom : DefiningEntity → List Value → Type 0
NoneFrom e vs = (v : Value) → Has vs v → v.entity ≡ e → ⊥

-- what an operation holds, with f of each operand
abbrev pub with_operands_by : {K A : Type 0} → (Value → Value) → OpView K A → OpView K A
with_operands_by f o = record o { operands = map f o.operands }

-- From s to t each operand has become f of what it was, and nothing else has changed.
pub record IsGiven {K A T : Type 0} (s t : ContextView K A T) (f : Value → Value) : Type 0 where
  pub keeps : KeepsNodes s t
  pub ops : (p : Ptr OperationKind) → op_at t p ≡ option_map (with_operands_by f) (op_at s p)
  pub blocks : (b : Ptr BlockKind) → block_at t b ≡ block_at s b
