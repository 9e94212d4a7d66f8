use Rattle.plir_core.specs.Above.{Reaches}
use Rattle.plir_core.specs.Nodes.{node_parent}
use Rattle.plir_core.specs.declared.ptr.IRNode.TheVariants.{BasicBlock}
use Rattle.plir_core.proofs.Ancestors.{AllSoFar}
use Rattle.plir_core.proofs.arena.Arena.has_no_block_of.Given as goal

abbrev pub invariant-loop-block : goal.invariant-loop-block
invariant-loop-block g l = AllSoFar (λ b. Reaches (node_parent l.self) (BasicBlock b) l.root → ⊥) l.blocks l.block-index
