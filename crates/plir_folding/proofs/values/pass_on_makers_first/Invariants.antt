use Rattle.plir_core.specs.declared.ptr.IRNode.TheVariants.{Operation}
use Rattle.plir_core.specs.Forest.{look, IsBelow}
use Rattle.plir_folding.specs.PassedOn.{IsPassedBelow}
use Rattle.plir_folding.specs.Worklists.{AreOf, left_to_do}
use Rattle.plir_folding.proofs.values.pass_on_makers_first.Given as goal

abbrev pub invariant-steps : goal.invariant-steps
invariant-steps g l =
    IsPassedBelow g.D.IdentitySet.is_identity g.D.OpSet.attr_handles l.fn.ctx (Operation l.fn.root) l.ctx ×
    AreOf (λ p. IsBelow (look l.fn.ctx) (Operation l.fn.root) (Operation p)) l.list

abbrev pub decreases-steps : goal.decreases-steps
decreases-steps g l = left_to_do l.list
