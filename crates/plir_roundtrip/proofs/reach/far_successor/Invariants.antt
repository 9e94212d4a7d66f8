use Rattle.std.proofs.Common.{◌≡◌, ◌<◌, ℕ, Some}
use Rattle.std.specs.Prelude.{slice_get}
use Rattle.plir_core.specs.ContextView.{successors_of}
use Rattle.plir_core.specs.declared.ptr.Ptr.{Ptr}
use Rattle.plir_core.specs.declared.ptr.BasicBlock.{BasicBlock as BlockKind}
use Rattle.plir_core.specs.declared.ptr.IRNode.TheVariants.{Operation}
use Rattle.plir_roundtrip.specs.UsesWithin.{IsBeside}
use Rattle.plir_roundtrip.proofs.reach.far_successor.Given as goal

abbrev pub invariant-successors : goal.invariant-successors
invariant-successors g l =
    (j : ℕ) (b : Ptr BlockKind) → j < l.place → slice_get (successors_of l.ctx l.op) j ≡ Some b →
    IsBeside l.ctx (Operation l.root) l.op b
