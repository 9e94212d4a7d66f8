use Rattle.std.specs.Prelude.{All}
use Rattle.plir_core.specs.ContextView.{IsLive}
use Rattle.plir_core.specs.declared.ptr.IRNode.TheVariants.{BasicBlock}
use Rattle.plir_scripts.proofs.made.Made.blocks_named.Given as goal

abbrev pub invariant-loop-name : goal.invariant-loop-name
invariant-loop-name g l = All (λ b. IsLive l.ctx (BasicBlock b)) l.blocks.items
