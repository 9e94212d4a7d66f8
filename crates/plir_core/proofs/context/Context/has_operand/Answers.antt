use Rattle.std.proofs.Common.{◌∙◌, ap, subst}
use Rattle.std.specs.Prelude.{◌↔◌, IsTrue, Contains}
use Rattle.plir_core.specs.Contents.{OpView}
use Rattle.plir_core.proofs.ValueUses.{operands_seen}
use Rattle.plir_core.proofs.context.Context.has_operand.Goals as goal

pub returns : goal.returns
returns g c =
    let seen = c.deref.ensures.value ∙ ap (λ (v : OpView g.row.D-Kind.Denot g.row.D-Attr.Denot). v.operands)
    c.data.view_is in
    subst (λ xs. IsTrue c.is_among.result ↔ Contains xs c.args.value) (operands_seen _ c.args.self.now c.self.view_is
    c.args.op c.op-data.result.now c.deref.result.now c.op-data.ensures seen) c.is_among.ensures
