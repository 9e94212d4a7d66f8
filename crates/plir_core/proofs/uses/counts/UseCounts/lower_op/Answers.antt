use Rattle.std.proofs.Common.{◌∙◌, ap}
use Rattle.plir_core.specs.Contents.{OpView}
use Rattle.plir_core.proofs.uses.counts.UseCounts.lower_op.Goals as goal
use Rattle.plir_core.proofs.Counting.{op_lowered}

pub returns : goal.returns
returns g c =
    op_lowered c.args.self.now c.lower_values.new.self c.lower_blocks.new.self c.args.held.now c.deref.result.now
    c.as_slice.result.now
    (c.deref.ensures.value ∙ ap (λ (v : OpView g.row.D-Kind.Denot g.row.D-Attr.Denot). v.operands) c.held.view_is)
    (c.as_slice.ensures ∙ ap (λ (v : OpView g.row.D-Kind.Denot g.row.D-Attr.Denot). v.successors) c.held.view_is)
    c.lower_values.ensures c.lower_blocks.ensures
