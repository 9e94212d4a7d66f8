-- What passes say of themselves.
use Rattle.plir_core.specs.declared.ptr.Ptr.{Ptr}
use Rattle.plir_core.specs.declared.ptr.Operation.{Operation as OperationKind}
use Rattle.plir_core.specs.ContextView.{ContextView}
use Rattle.plir_driver.specs.declared.pass_err.PassErr.{PassErr}

-- what one run of a pass over an operation leaves: from the first context to the second the pass has gone over it
abbrev pub RunRule : (P K A T : Type 0) → Type 1
RunRule P K A T = P → Ptr OperationKind → ContextView K A T → ContextView K A T → Type 0

-- when a pass that is run over an operation in a context may stop, and with which error
abbrev pub StopRule : (P K A T : Type 0) → Type 1
StopRule P K A T = P → Ptr OperationKind → ContextView K A T → PassErr → Type 0
