use Rattle.plir_core.specs.declared.ptr.Ptr.{Ptr}
use Rattle.plir_core.specs.declared.ptr.BasicBlock.{BasicBlock as BasicBlockKind}
use Rattle.plir_core.specs.declared.ptr.IRNode.TheVariants.{BasicBlock}
use Rattle.plir_core.proofs.Counting.{IsLowering}
use Rattle.plir_core.proofs.uses.counts.UseCounts.lower_blocks.Given as goal

abbrev pub invariant-loop-block : goal.invariant-loop-block
invariant-loop-block l = IsLowering (λ (b : Ptr BasicBlockKind). BasicBlock b) l.blocks l.fn.self l.self l.block-index
