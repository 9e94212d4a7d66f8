use Rattle.std.proofs.Common.{◌≡◌, false}
use Rattle.plir_core.specs.declared.ptr.IRNode.TheVariants.{Operation}
use Rattle.plir_core.specs.ContextView.{IsLive}
use Rattle.plir_folding.specs.PassedOn.{IsPassedBelow}
use Rattle.plir_folding.proofs.Used.{in_use}
use Rattle.plir_folding.proofs.values.fold_values.Given as goal

abbrev pub invariant-left : goal.invariant-left
invariant-left g l =
    IsPassedBelow g.D.IdentitySet.is_identity g.D.OpSet.attr_handles l.fn.ctx (Operation l.fn.root) l.ctx ×
    IsLive l.ctx (Operation l.fn.root) × (l.any ≡ false → l.ctx ≡ l.fn.ctx)

abbrev pub decreases-left : goal.decreases-left
decreases-left g l = in_use l.fn.ctx l.ctx
