use Rattle.std.proofs.Common.{ap, ◌∙◌}
use Rattle.plir_core.specs.Contents.{OpView}
use Rattle.plir_core.proofs.context.Context.uses_none_of.Goals as goal
use Rattle.plir_core.proofs.Scan.{none_told, operands_told, successors_told}

pub returns-then-has_no_value_of : goal.returns-then-has_no_value_of
returns-then-has_no_value_of g c =
    let vs = c.deref.ensures.value ∙ ap (λ (v : OpView g.row.D-Kind.Denot g.row.D-Attr.Denot). v.operands)
    c.data.view_is in
    let bs = c.as_slice.ensures ∙ ap (λ (v : OpView g.row.D-Kind.Denot g.row.D-Attr.Denot). v.successors) c.data.view_is
    in (
      λ t. none_told _ c.args.self.now c.self.view_is c.args.root c.args.op c.op-data.result.now c.op-data.ensures
          c.deref.result.now c.as_slice.result.now vs bs (c.has_no_value_of.ensures.0 c.if-has_no_value_of.true)
          (c.has_no_block_of.ensures.0 t),
      λ u. c.has_no_block_of.ensures.1 (successors_told _ c.args.self.now c.self.view_is c.args.root c.args.op
          c.op-data.result.now c.op-data.ensures c.as_slice.result.now bs u),
    )

pub returns-else-has_no_value_of : goal.returns-else-has_no_value_of
returns-else-has_no_value_of g c =
    let vs = c.deref.ensures.value ∙ ap (λ (v : OpView g.row.D-Kind.Denot g.row.D-Attr.Denot). v.operands)
    c.data.view_is in (
      λ t. absurd (let f : ⊥ = cc in f),
      λ u. c.has_no_value_of.ensures.1 (operands_told _ c.args.self.now c.self.view_is c.args.root c.args.op
          c.op-data.result.now c.op-data.ensures c.deref.result.now vs u),
    )
