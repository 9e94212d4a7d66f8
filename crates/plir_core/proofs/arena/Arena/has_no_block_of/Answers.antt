use Rattle.std.proofs.Common.{refl}
use Rattle.plir_core.specs.Above.{Reaches}
use Rattle.plir_core.specs.Nodes.{node_parent}
use Rattle.plir_core.specs.declared.ptr.IRNode.TheVariants.{BasicBlock}
use Rattle.plir_core.proofs.arena.Arena.has_no_block_of.Goals as goal
use Rattle.plir_core.proofs.Ancestors.{not_all, AllSoFar-next, AllSoFar-all}

pub returns-then-is_ancestor : goal.returns-then-is_ancestor
returns-then-is_ancestor g c = (
  λ t. absurd (let f : ⊥ = cc in f),
  λ all. absurd (not_all (λ b. Reaches (node_parent c.args.self.now) (BasicBlock b) c.args.root → ⊥) c.args.blocks.now
      c.loop-block.block-index (record { slot = 0; version = 0; kind = record {} }) c.loop-block-test.true
      (λ out. out (c.is_ancestor.ensures.0 c.if-is_ancestor.true)) all),
)

pub loop-block-preserved : goal.loop-block-preserved
loop-block-preserved g c =
    AllSoFar-next (λ b. Reaches (node_parent c.args.self.now) (BasicBlock b) c.args.root → ⊥) c.args.blocks.now
    c.loop-block.block-index (record { slot = 0; version = 0; kind = record {} }) c.loop-block.invariant
    c.loop-block-test.true
    (λ r. let t = c.is_ancestor.ensures.1 r in let f : ⊥ = cc in f)

pub returns : goal.returns
returns g c = (
  λ t. AllSoFar-all (λ b. Reaches (node_parent c.args.self.now) (BasicBlock b) c.args.root → ⊥) c.args.blocks.now
      c.loop-block.block-index c.loop-block.invariant c.loop-block-test.false,
  λ all. refl,
)
