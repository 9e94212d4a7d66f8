use Rattle.plir_core.specs.ContextView.{IsLive}
use Rattle.plir_core.specs.declared.ptr.IRNode.TheVariants.{BasicBlock}
use Rattle.plir_bench.proofs.building.build_functions.Given as goal

-- the body is live
abbrev pub invariant-loop-number : goal.invariant-loop-number
invariant-loop-number l = IsLive l.ctx (BasicBlock l.body)
