use Rattle.std.proofs.Common.{take}
use Rattle.plir_store.specs.Members.{Has}
use Rattle.plir_core.specs.declared.ptr.BasicBlock.{BasicBlock as BlockKind}
use Rattle.plir_core.specs.declared.ptr.Ptr.{Ptr}
use Rattle.plir_core.specs.declared.uses.Use.{Use}
use Rattle.plir_arguments.specs.Dropped.{CanForwardLess}
use Rattle.plir_arguments.proofs.testing.can_all_forward_less.Given as goal

abbrev pub invariant-loop-used : goal.invariant-loop-used
invariant-loop-used g l = (u : Use (Ptr BlockKind)) → Has (take l.used-index l.uses) u →
    CanForwardLess g.D.BranchEditSet.removes g.D.BranchSet.forwards l.ctx l.block u.op u.index
