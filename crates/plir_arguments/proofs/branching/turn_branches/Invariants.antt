use Rattle.std.proofs.Common.{take}
use Rattle.plir_core.specs.WellFormed.{IsWellFormed}
use Rattle.plir_arguments.proofs.Changed.{AreTurnedAt}
use Rattle.plir_arguments.proofs.branching.turn_branches.Given as goal

abbrev pub invariant-loop-used : goal.invariant-loop-used
invariant-loop-used g l = record {
  turned : AreTurnedAt g.D.BranchEditSet.layout_keys g.D.BranchSet.forwards l.fn.ctx l.fn.block l.other l.arg l.ctx
      (take l.used-index l.uses);
  whole : IsWellFormed g.D.OpSet.attr_handles l.ctx;
}
