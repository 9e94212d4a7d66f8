use Rattle.std.proofs.Common.{◌≡◌, ◌∙◌, ap, subst}
use Rattle.plir_core.specs.Contents.{OpView}
use Rattle.plir_core.specs.ValueUses.{times_in}
use Rattle.plir_core.proofs.ValueUses.{operands_seen}
use Rattle.plir_core.proofs.context.Context.num_uses_by.Goals as goal

pub returns : goal.returns
returns g c =
    let seen = c.deref.ensures.value ∙ ap (λ (v : OpView g.row.D-Kind.Denot g.row.D-Attr.Denot). v.operands)
    c.data.view_is in
    subst (λ xs. c.count_among.result ≡ times_in c.args.value xs) (operands_seen _ c.args.self.now c.self.view_is
    c.args.op c.op-data.result.now c.deref.result.now c.op-data.ensures seen) c.count_among.ensures
