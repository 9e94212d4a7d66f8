use Rattle.std.proofs.Common.{ap, ◌∙◌}
use Rattle.std.specs.List.{insert}
use Rattle.plir_core.specs.Changes.{with_op_edit}
use Rattle.plir_read_ir.proofs.linking.push_operand.Goals as goal

pub returns-in-Ok-clause-pushed : goal.returns-in-Ok-clause-pushed
returns-in-Ok-clause-pushed g c =
    c.in-Ok.ensures.ok ∙
    ap (λ n. with_op_edit c.args.ctx.now c.args.op (λ o. record o { operands = insert o.operands n c.args.value }))
    c.get_num_operands-place.ensures.value
