-- What an op set says of operations that come to forward one value less.
use Rattle.std.specs.Prelude.{◌≡◌, ◌≢◌, ◌<◌, ◌+◌, ℕ, Bool, false, List, [], Option, Some, None, length, remove, slice_range}
use Rattle.plir_data.specs.Dictionary.{dict_get}
use Rattle.plir_data.specs.declared.op_set.OpKind.{OpKind}
use Rattle.plir_data.specs.declared.op_set.OpKind.TheVariants.{Own}
use Rattle.plir_core.specs.declared.ptr.Ptr.{Ptr}
use Rattle.plir_core.specs.declared.ptr.Operation.{Operation as OperationKind}
use Rattle.plir_core.specs.declared.ptr.BasicBlock.{BasicBlock as BlockKind}
use Rattle.plir_core.specs.declared.ptr.IRNode.TheVariants.{Operation}
use Rattle.plir_core.specs.declared.value.Value.{Value}
use Rattle.plir_core.specs.Contents.{OpView}
use Rattle.plir_core.specs.ContextView.{ContextView, IsLive, block_at, op_at}
use Rattle.plir_core.specs.Held.{KeepsNodes}
use Rattle.plir_flow.specs.Branches.{Range as Places, is_key_among}

module _ {K A : Type 0} where
  -- the operands in places that are told; none where none are
  abbrev pub values_at : OpView K A → Option Places → List Value
  values_at o None = []
  values_at o (Some r) = slice_range o.operands r.0 r.1

  -- a test of what an operation holds, which no dead one passes
  abbrev pub test_held : (OpView K A → Bool) → Option (OpView K A) → Bool
  test_held test None = false
  test_held test (Some o) = test o

  -- a test of what an operation holds by its own kind, which no builtin one passes
  abbrev pub test_at_kind : (K → OpView K A → Bool) → OpView K A → OpKind K → Bool
  test_at_kind test held (Own k) = test k held
  test_at_kind test held _ = false

  abbrev pub test_by_own_kind : (K → OpView K A → Bool) → OpView K A → Bool
  test_by_own_kind test held = test_at_kind test held held.kind

  -- From o to o' an operation has come to forward one value less to its successor i, that for the argument at a place:
  -- its operands are those that it had but for this one, its other successors get what they got, and beside the
  -- attributes under these keys, which describe how its operands stand, it holds what it held.
  pub record ForwardsLess (keys : List (List ℕ)) (forwards : ℕ → OpView K A → Option Places) (i place : ℕ)
      (o o' : OpView K A) : Type 0 where
    pub kind : o'.kind ≡ o.kind
    pub result_types : o'.result_types ≡ o.result_types
    pub successors : o'.successors ≡ o.successors
    pub location : o'.location ≡ o.location
    pub attributes : (k : List ℕ) → is_key_among keys k ≡ false → dict_get o'.attributes k ≡ dict_get o.attributes k
    pub operands : (r : Places) → forwards i o ≡ Some r → o'.operands ≡ remove o.operands (r.0 + place)
    pub here : values_at o' (forwards i o') ≡ remove (values_at o (forwards i o)) place
    pub others : (j : ℕ) → j < length o.successors → j ≢ i →
        values_at o' (forwards j o') ≡ values_at o (forwards j o)

module _ {K A T : Type 0} where
  -- whether what an operation holds passes a test
  abbrev pub is_told : (OpView K A → Bool) → ContextView K A T → Ptr OperationKind → Bool
  is_told test s op = test_held test (op_at s op)

  -- From s to t the operation p has come to hold what stands in a relation to what it held, and nothing else has
  -- changed.
  pub record IsOpChanged (s t : ContextView K A T) (p : Ptr OperationKind)
      (becomes : OpView K A → OpView K A → Type 0) : Type 0 where
    pub keeps : KeepsNodes s t
    pub held : (o : OpView K A) → op_at s p ≡ Some o → (o' : OpView K A) × (op_at t p ≡ Some o') × becomes o o'
    pub ops : (q : Ptr OperationKind) → IsLive s (Operation q) → (q ≡ p → ⊥) → op_at t q ≡ op_at s q
    pub blocks : (b : Ptr BlockKind) → block_at t b ≡ block_at s b
