use Rattle.std.proofs.Common.{◌≡◌, ℕ, ◌<◌, Some}
use Rattle.std.specs.Prelude.{slice_get}
use Rattle.plir_core.specs.ContextView.{successors_of}
use Rattle.plir_core.specs.declared.ptr.BasicBlock.{BasicBlock as BlockKind}
use Rattle.plir_core.specs.declared.ptr.Ptr.{Ptr}
use Rattle.sample_dialect.specs.Rules.{BecomeArguments}
use Rattle.sample_dialect.proofs.rules.goes_on.Given as goal

-- the operands become the arguments of each successor before this place
abbrev pub invariant-loop-i : goal.invariant-loop-i
invariant-loop-i g l = (k : ℕ) (b : Ptr BlockKind) → k < l.i → slice_get (successors_of l.ctx l.op) k ≡ Some b →
    BecomeArguments l.first l.ctx l.op b
