use Rattle.std.proofs.Common.{refl}
use Rattle.plir_core.specs.ContextView.{IsLive}
use Rattle.plir_core.specs.declared.ptr.IRNode.TheVariants.{BasicBlock}
use Rattle.plir_core.proofs.context.Context.are_blocks_live.Goals as goal
use Rattle.plir_core.proofs.Ancestors.{AllSoFar-all}

pub returns : goal.returns
returns g c = (
  λ t. AllSoFar-all (λ b. IsLive c.args.self.now (BasicBlock b)) c.args.blocks.now c.loop-block.block-index
      c.loop-block.invariant c.loop-block-test.false,
  λ all. refl,
)
