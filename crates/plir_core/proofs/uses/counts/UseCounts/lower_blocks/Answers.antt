use Rattle.plir_core.specs.declared.ptr.Ptr.{Ptr}
use Rattle.plir_core.specs.declared.ptr.BasicBlock.{BasicBlock as BasicBlockKind}
use Rattle.plir_core.specs.declared.ptr.IRNode.TheVariants.{BasicBlock}
use Rattle.plir_core.proofs.uses.counts.UseCounts.lower_blocks.Goals as goal
use Rattle.plir_core.proofs.Counting.{IsLowering-start, IsLowering-more, IsLowering-end}

pub loop-block-init : goal.loop-block-init
loop-block-init c = IsLowering-start (λ (b : Ptr BasicBlockKind). BasicBlock b) c.args.blocks.now c.args.self.now

pub loop-block-preserved : goal.loop-block-preserved
loop-block-preserved c =
    IsLowering-more (λ (b : Ptr BasicBlockKind). BasicBlock b) c.args.blocks.now c.args.self.now c.loop-block.self
    c.lower.new.self c.loop-block.block-index _ c.lower.ensures c.loop-block.invariant c.loop-block-test.true

pub returns : goal.returns
returns c = IsLowering-end (λ (b : Ptr BasicBlockKind). BasicBlock b) c.args.blocks.now c.args.self.now
    c.loop-block.self c.loop-block.block-index c.loop-block.invariant c.loop-block-test.false
