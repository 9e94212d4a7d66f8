use Rattle.std.proofs.Common.{take}
use Rattle.plir_store.specs.Members.{Has}
use Rattle.plir_core.specs.ContextView.{successors_of}
use Rattle.plir_passes.specs.Marked.{IsGrown, ops_of}
use Rattle.plir_passes.specs.Reached.{IsBlockOf}
use Rattle.plir_passes.proofs.Marking.{AnyOf}
use Rattle.plir_passes.proofs.reaching.put_successors.Given as goal

abbrev pub invariant-loop-place : goal.invariant-loop-place
invariant-loop-place g l =
    IsGrown (AnyOf (λ b q. IsBlockOf l.ctx q b × Has (ops_of l.under) q)
    (take l.place (successors_of l.ctx l.op))) l.fn.reached l.reached
