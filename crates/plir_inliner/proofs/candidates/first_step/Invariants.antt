use Rattle.std.proofs.Common.{◌≡◌, take}
use Rattle.plir_core.specs.declared.ptr.BasicBlock.{BasicBlock as BlockKind}
use Rattle.plir_core.specs.declared.ptr.Operation.{Operation as OperationKind}
use Rattle.plir_core.specs.declared.ptr.Ptr.{Ptr}
use Rattle.plir_store.specs.Members.{Has}
use Rattle.plir_inliner.specs.Calls.{CanInlineCall}
use Rattle.plir_inliner.specs.Known.{AreRight, AreSure}
use Rattle.plir_inliner.proofs.candidates.first_step.Given as goal

abbrev pub invariant-loop-call : goal.invariant-loop-call
invariant-loop-call g l = record {
  sure : AreSure g.D.OpSet.is_symbol g.D.OpSet.is_symbol_table l.ctx l.tables;
  right : AreRight g.D.OpSet.is_symbol g.D.CallSet.call g.D.CallSet.returned l.ctx l.bodies;
  none : (p : Ptr OperationKind) → Has (take l.call-index l.calls) p → (p ≡ l.root → ⊥) → (b : Ptr BlockKind) →
      CanInlineCall g.D.OpSet.is_symbol g.D.OpSet.is_symbol_table g.D.CallSet.call g.D.CallSet.returned l.ctx p b → ⊥;
}
