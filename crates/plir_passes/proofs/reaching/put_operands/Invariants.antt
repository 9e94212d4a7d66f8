use Rattle.std.proofs.Common.{take}
use Rattle.plir_store.specs.Members.{Has}
use Rattle.plir_core.specs.declared.value.Value.{Value}
use Rattle.plir_core.specs.ContextView.{operands_of}
use Rattle.plir_passes.specs.Marked.{IsGrown, ops_of}
use Rattle.plir_passes.specs.Reached.{IsFrom}
use Rattle.plir_passes.proofs.Marking.{AnyOf}
use Rattle.plir_passes.proofs.reaching.put_operands.Given as goal

abbrev pub invariant-loop-place : goal.invariant-loop-place
invariant-loop-place g l =
    IsGrown (AnyOf (λ (v : Value) q. IsFrom l.ctx q v.entity × Has (ops_of l.under) q)
    (take l.place (operands_of l.ctx l.op))) l.fn.reached l.reached
