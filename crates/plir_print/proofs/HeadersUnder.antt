-- Which nodes are printable.
use Rattle.std.proofs.Common.{[], refl}
use Rattle.plir_core.specs.declared.ptr.Ptr.{Ptr}
use Rattle.plir_core.specs.declared.ptr.Operation.{Operation as OperationKind}
use Rattle.plir_core.specs.declared.ptr.IRNode.{IRNode}
use Rattle.plir_core.specs.declared.ptr.IRNode.TheVariants.{Operation}
use Rattle.plir_core.specs.ContextView.{ContextView, children}
use Rattle.plir_store.specs.Members.{Has}
use Rattle.plir_walk.specs.TreeLaws.{under-child}
use Rattle.plir_print.specs.HeaderAttrs.{HasHeader, IsPrintable}

module _ {K A T : Type 0} (s : ContextView K A T) where
  -- a child of a printable node is printable
  pub child-printable : (over child : IRNode) → Has (children s over) child → IsPrintable s over → IsPrintable s child
  child-printable over child has printable p h = printable p (under-child (children s) over child (Operation p) has h)

  -- a printable operation has its header
  pub own-header : (p : Ptr OperationKind) → IsPrintable s (Operation p) → HasHeader s p
  own-header p printable = printable p ([], refl)
