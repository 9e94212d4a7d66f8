use Rattle.std.proofs.Common.{◌≡◌, ap, subst}
use Rattle.plir_store.specs.Table.{content_at}
use Rattle.plir_core.specs.declared.ptr.Ptr.{Ptr}
use Rattle.plir_core.specs.declared.ptr.Operation.{Operation as OperationKind}
use Rattle.plir_core.specs.ContextView.{operands_in}
use Rattle.plir_core.specs.ValueUses.{times_in}
use Rattle.plir_core.proofs.TimesUsed.{free_slot}
use Rattle.plir_core.proofs.context.Context.num_uses_in_slot.Goals as goal

pub returns-in-None : goal.returns-in-None
returns-in-None g c = free_slot _ c.args.self.now c.self.view_is c.args.value c.args.slot
    (c.op_in_slot.ensures.none c.in-None.is)

pub returns-in-Some : goal.returns-in-Some
returns-in-Some g c =
    subst (λ i. c.num_uses_by.result ≡ times_in c.args.value (operands_in (content_at c.args.self.now.nodes.ops i)))
    (ap (λ (z : Ptr OperationKind). z.slot) c.in-Some.ensures.here) c.num_uses_by.ensures
