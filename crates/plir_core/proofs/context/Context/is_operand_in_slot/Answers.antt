use Rattle.std.proofs.Common.{ap, subst}
use Rattle.std.specs.Prelude.{◌↔◌, IsTrue, Contains}
use Rattle.plir_store.specs.Table.{content_at}
use Rattle.plir_core.specs.declared.ptr.Ptr.{Ptr}
use Rattle.plir_core.specs.declared.ptr.Operation.{Operation as OperationKind}
use Rattle.plir_core.specs.ContextView.{operands_in}
use Rattle.plir_core.proofs.ValueUses.{no_operand}
use Rattle.plir_core.proofs.context.Context.is_operand_in_slot.Goals as goal

pub returns-in-None : goal.returns-in-None
returns-in-None g c = (
  λ t. absurd (let f : ⊥ = cc in f),
  λ h. absurd (no_operand _ c.args.self.now c.self.view_is
      c.args.value c.args.slot (c.op_in_slot.ensures.none c.in-None.is) h),
)

pub returns-in-Some : goal.returns-in-Some
returns-in-Some g c =
    subst (λ i. IsTrue c.has_operand.result ↔ Contains (operands_in (content_at c.args.self.now.nodes.ops i))
    c.args.value) (ap (λ (z : Ptr OperationKind). z.slot) c.in-Some.ensures.here) c.has_operand.ensures
