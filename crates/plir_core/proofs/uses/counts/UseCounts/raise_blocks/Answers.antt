use Rattle.plir_core.specs.declared.ptr.Ptr.{Ptr}
use Rattle.plir_core.specs.declared.ptr.BasicBlock.{BasicBlock as BasicBlockKind}
use Rattle.plir_core.specs.declared.ptr.IRNode.TheVariants.{BasicBlock}
use Rattle.plir_core.proofs.uses.counts.UseCounts.raise_blocks.Goals as goal
use Rattle.plir_core.proofs.Counting.{IsRaising-start, IsRaising-more, IsRaising-end}

pub loop-block-init : goal.loop-block-init
loop-block-init c = IsRaising-start (λ (b : Ptr BasicBlockKind). BasicBlock b) c.args.blocks.now c.args.self.now

pub loop-block-preserved : goal.loop-block-preserved
loop-block-preserved c =
    IsRaising-more (λ (b : Ptr BasicBlockKind). BasicBlock b) c.args.blocks.now c.args.self.now c.loop-block.self
    c.raise.new.self c.loop-block.block-index _ c.raise.ensures c.loop-block.invariant c.loop-block-test.true

pub returns : goal.returns
returns c = IsRaising-end (λ (b : Ptr BasicBlockKind). BasicBlock b) c.args.blocks.now c.args.self.now c.loop-block.self
    c.loop-block.block-index c.loop-block.invariant c.loop-block-test.false
