-- What is reported of a mismatch is a fault of the branch.
use Rattle.std.proofs.Common.{ℕ, List}
use Rattle.plir_data.specs.OwnParts.{Part}
use Rattle.plir_core.specs.declared.ptr.Ptr.{Ptr}
use Rattle.plir_core.specs.declared.ptr.Operation.{Operation as OperationKind}
use Rattle.plir_core.specs.ContextView.{ContextView}
use Rattle.plir_flow.specs.declared.branch_errors.BranchOpInterfaceVerifyErr.{BranchOpInterfaceVerifyErr}
use Rattle.plir_flow.specs.declared.branch_errors.BranchOpInterfaceVerifyErr.TheVariants.{Layout}
use Rattle.plir_flow.specs.declared.branch_errors.BranchOpInterfaceVerifyErr.TheVariants.{SuccessorOperandsMismatch}
use Rattle.plir_flow.specs.declared.branch_errors.BranchOpInterfaceVerifyErr.TheVariants.{SuccessorOperandTypeMismatch}
use Rattle.plir_flow.specs.declared.branch_errors.Mismatch.{Mismatch}
use Rattle.plir_flow.specs.declared.branch_errors.Mismatch.TheVariants.{Count, Differ}
use Rattle.plir_flow.specs.Branches.{Range, IsFirstMismatch, ReportsMismatch, IsBranchFault}

module _ {K A T E : Type 0} (own_id : T → List ℕ) (own_body : T → List Part)
    (s : ContextView K A T) where
  no-layout : (m : Mismatch) (e : E) → ReportsMismatch own_id own_body s m (Layout e) → ⊥
  no-layout (Count p x) e t = t
  no-layout (Differ i f x) e t = t

  pub reported : (layout : Type 0) (refuses : E → Type 0) (op : Ptr OperationKind) (forwards : ℕ → Range) (m : Mismatch)
      → layout → IsFirstMismatch s op forwards m
      → (e : BranchOpInterfaceVerifyErr E) → ReportsMismatch own_id own_body s m e
      → IsBranchFault layout refuses own_id own_body s op forwards e
  reported layout refuses op forwards m l f (Layout e) t = absurd (no-layout m e t)
  reported layout refuses op forwards m l f (SuccessorOperandsMismatch p x) t = (l, (m, (f, t)))
  reported layout refuses op forwards m l f (SuccessorOperandTypeMismatch i g x) t = (l, (m, (f, t)))
