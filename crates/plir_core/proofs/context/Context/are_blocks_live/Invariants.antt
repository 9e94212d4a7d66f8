use Rattle.plir_core.specs.declared.ptr.IRNode.TheVariants.{BasicBlock}
use Rattle.plir_core.specs.ContextView.{IsLive}
use Rattle.plir_core.proofs.Ancestors.{AllSoFar}
use Rattle.plir_core.proofs.context.Context.are_blocks_live.Given as goal

abbrev pub invariant-loop-block : goal.invariant-loop-block
invariant-loop-block g l = AllSoFar (λ b. IsLive l.self (BasicBlock b)) l.blocks l.block-index
