use Rattle.std.proofs.Common.{ℕ, take}
use Rattle.plir_store.specs.Members.{Has}
use Rattle.plir_core.specs.declared.ptr.BasicBlock.{BasicBlock as BlockKind}
use Rattle.plir_core.specs.declared.ptr.Ptr.{Ptr}
use Rattle.plir_arguments.specs.Dropped.{CanDrop}
use Rattle.plir_arguments.proofs.finding.first_of.Given as goal

abbrev pub invariant-loop-at : goal.invariant-loop-at
invariant-loop-at g l = (b : Ptr BlockKind) → Has (take l.at l.list) b → (i : ℕ) →
    CanDrop g.D.BranchEditSet.removes g.D.BranchSet.forwards l.ctx b i → ⊥
