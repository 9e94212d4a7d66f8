use Rattle.plir_core.specs.ContextView.{IsLive}
use Rattle.plir_core.specs.declared.ptr.IRNode.TheVariants.{BasicBlock}
use Rattle.plir_bench.proofs.summing.add_sums.Given as goal

-- the body is live
abbrev pub invariant-loop : goal.invariant-loop
invariant-loop l = IsLive l.ctx (BasicBlock l.body)
