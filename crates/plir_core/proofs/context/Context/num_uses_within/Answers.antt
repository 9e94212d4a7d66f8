use Rattle.std.proofs.Common.{inl, inr, ◌∙◌, ap}
use Rattle.plir_core.specs.Contents.{OpView}
use Rattle.plir_core.proofs.TreeUses.{within-told, within-region, within-block}
use Rattle.plir_core.proofs.context.Context.num_uses_within.Goals as goal

pub returns-in-Operation : goal.returns-in-Operation
returns-in-Operation g c =
    let vs = c.deref.ensures.value ∙ ap (λ (v : OpView g.row.D-Kind.Denot g.row.D-Attr.Denot). v.operands)
    c.data.view_is in
    let bs = c.as_slice.ensures ∙ ap (λ (v : OpView g.row.D-Kind.Denot g.row.D-Attr.Denot).
    v.successors) c.data.view_is in
    within-told _ c.args.self.now c.self.view_is c.args.root c.args.node c.in-Operation.op c.op-data.result.now
    c.in-Operation.is c.op-data.ensures
    c.deref.result.now c.as_slice.result.now vs bs c.count_values_of-values.result c.count_blocks_of.result _
    c.count_values_of-values.ensures c.count_blocks_of.ensures c.saturating_add.ensures

pub returns-in-Region : goal.returns-in-Region
returns-in-Region g c = elim (c.in-Region.is) [
  | inl r ↦ within-region c.args.self.now.nodes c.args.root c.args.node r.0 r.1
  | inr b ↦ within-block c.args.self.now.nodes c.args.root c.args.node b.0 b.1
]
