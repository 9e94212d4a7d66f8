use Rattle.std.proofs.Common.{◌∙◌, ap}
use Rattle.plir_core.specs.Contents.{OpView}
use Rattle.plir_core.proofs.uses.counts.UseCounts.raise_op.Goals as goal
use Rattle.plir_core.proofs.Counting.{op_raised}

pub returns : goal.returns
returns g c =
    op_raised c.args.self.now c.raise_values.new.self c.raise_blocks.new.self c.args.held.now c.deref.result.now
    c.as_slice.result.now
    (c.deref.ensures.value ∙ ap (λ (v : OpView g.row.D-Kind.Denot g.row.D-Attr.Denot). v.operands) c.held.view_is)
    (c.as_slice.ensures ∙ ap (λ (v : OpView g.row.D-Kind.Denot g.row.D-Attr.Denot). v.successors) c.held.view_is)
    c.raise_values.ensures c.raise_blocks.ensures
