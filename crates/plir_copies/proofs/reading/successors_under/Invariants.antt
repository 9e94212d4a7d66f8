use Rattle.std.proofs.Common.{◌≡◌, take}
use Rattle.std.specs.Prelude.{All}
use Rattle.plir_core.specs.declared.ptr.IRNode.TheVariants.{BasicBlock}
use Rattle.plir_core.specs.ContextView.{IsLive, successors_of}
use Rattle.plir_copies.specs.Images.{images, blocks_in}
use Rattle.plir_copies.proofs.reading.successors_under.Given as goal

abbrev pub invariant-loop-i : goal.invariant-loop-i
invariant-loop-i g l =
    (l.successors.items ≡ blocks_in (images l.map) (take l.i (successors_of l.ctx l.op)))
    × All (λ b. IsLive l.ctx (BasicBlock b)) l.successors.items
