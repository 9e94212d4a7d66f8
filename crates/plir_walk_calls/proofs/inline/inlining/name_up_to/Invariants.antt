use Rattle.std.proofs.Common.{IfSome}
use Rattle.plir_core.specs.declared.ptr.IRNode.TheVariants.{Operation}
use Rattle.plir_core.specs.ContextView.{IsLive}
use Rattle.plir_walk_calls.proofs.inline.inlining.name_up_to.Given as goal

abbrev pub invariant-ops : goal.invariant-ops
invariant-ops g l = IfSome l.next (λ op. IsLive l.fn.ctx (Operation op))
