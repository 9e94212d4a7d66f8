-- The rules of regions and blocks, and how that of single blocks is refused.
use Rattle.std.specs.Prelude.{◌≡◌, ℕ, List, length, All, Option, Some, IfSome, slice_get, option_and_then}
use Rattle.plir_core.specs.declared.ptr.Ptr.{Ptr}
use Rattle.plir_core.specs.declared.ptr.Operation.{Operation as OperationKind}
use Rattle.plir_core.specs.declared.ptr.BasicBlock.{BasicBlock as BlockKind}
use Rattle.plir_core.specs.declared.ptr.IRNode.{IRNode}
use Rattle.plir_core.specs.declared.ptr.IRNode.TheVariants.{Operation, BasicBlock}
use Rattle.plir_core.specs.Changes.{with_op_last}
use Rattle.plir_store.specs.Members.{head}
use Rattle.plir_core.specs.ContextView.{ContextView, children, kind_of, IsAncestor}
use Rattle.plir_data.specs.declared.location.VerifyErr.{VerifyErr}
use Rattle.plir_iface.specs.Counts.{regions_of}
use Rattle.plir_iface.specs.Ids.{op_id}
use Rattle.plir_iface.specs.Verdict.{IsRefusal}
use Rattle.plir_iface.specs.declared.blocks.SingleBlockRegionVerifyErr.{SingleBlockRegionVerifyErr}

module _ {K A T : Type 0} where
  abbrev pub HasOneBlock : ContextView K A T → IRNode → Type 0
  HasOneBlock s region = length (children s region) ≡ 1

  abbrev pub HasSingleBlocks : ContextView K A T → Ptr OperationKind → Type 0
  HasSingleBlocks s op = All (HasOneBlock s) (regions_of s op)

  -- the first block of the region at an index
  abbrev pub body_of : ContextView K A T → Ptr OperationKind → ℕ → Option IRNode
  body_of s op i = option_and_then (λ r. head (children s r)) (slice_get (regions_of s op) i)

  -- the rule is refused with the operation's id
  abbrev pub IsSingleBlocksRefusal : (own_id : K → List ℕ) → ContextView K A T → Ptr OperationKind →
      VerifyErr SingleBlockRegionVerifyErr → Type 0
  IsSingleBlocksRefusal own_id s op = IsRefusal s op (λ e. IfSome (kind_of s op) (λ k. e.0.now ≡ op_id own_id k))

  -- an operation doesn't stand above the first block of that region
  abbrev pub IsNotAboveBody : ContextView K A T → Ptr OperationKind → ℕ → Ptr OperationKind → Type 0
  IsNotAboveBody s op i q = (b : IRNode) → body_of s op i ≡ Some b → IsAncestor s (Operation q) b → ⊥

  -- it was put last in that block
  abbrev pub IsAppendedToBody : (old new : ContextView K A T) → Ptr OperationKind → ℕ → Ptr OperationKind → Type 0
  IsAppendedToBody old new op i q = (b : Ptr BlockKind) → body_of old op i ≡ Some (BasicBlock b) →
      new ≡ with_op_last old q b
