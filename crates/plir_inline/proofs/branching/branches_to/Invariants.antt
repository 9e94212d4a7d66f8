use Rattle.std.proofs.Common.{◌≡◌, false, take}
use Rattle.plir_core.specs.ContextView.{successors_of}
use Rattle.plir_inline.specs.Branches.{has_block}
use Rattle.plir_inline.proofs.branching.branches_to.Given as goal

abbrev pub invariant-loop-i : goal.invariant-loop-i
invariant-loop-i g l = has_block (take l.i (successors_of l.ctx l.op)) l.block ≡ false
