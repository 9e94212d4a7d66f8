-- What making an operation leaves.
use Rattle.std.specs.Prelude.{◌≡◌, ℕ, false, Some}
use Rattle.plir_store.specs.Table.{next_slot}
use Rattle.plir_core.specs.declared.ptr.Ptr.{Ptr}
use Rattle.plir_core.specs.declared.ptr.Operation.{Operation as OperationKind}
use Rattle.plir_core.specs.declared.ptr.IRNode.TheVariants.{Operation}
use Rattle.plir_core.specs.Nodes.{ptr_at}
use Rattle.plir_core.specs.Contents.{OpView}
use Rattle.plir_core.specs.ContextView.{ContextView, IsLive, given_out, op_at}
use Rattle.plir_core.specs.Changes.{SameLive, with_op}
use Rattle.plir_core.specs.Made.{IsMade, HasNewRegions}
use Rattle.plir_core.specs.Refused.{IsUnmade}

module _ {K A T : Type 0} (s t : ContextView K A T) (v : OpView K A) (n : ℕ) where
  -- From s to t an operation is new that stands in no block, holds v and has n new regions, and nothing else has
  -- changed. It is in the next slot of its kind, and its pointer was never given out before.
  pub record IsOpMade (p : Ptr OperationKind) : Type 0 where
    pub after : t ≡ with_op s v n
    pub held : op_at t p ≡ Some v
    pub pointer : p ≡ ptr_at t.nodes.ops (next_slot s.nodes.ops)
    pub live : IsLive t (Operation p)
    pub fresh : given_out s (Operation p) ≡ false
    pub made : IsMade s.nodes t.nodes (Operation p)
    pub regions : HasNewRegions t.nodes (Operation p) n

  -- From s to t such an operation was refused: no live node has changed, and the slots are as before, or as where it and
  -- some of its regions were made and freed again.
  pub record IsOpUnmade : Type 0 where
    pub same : SameLive s t
    pub slots : IsUnmade s.nodes t.nodes v n
