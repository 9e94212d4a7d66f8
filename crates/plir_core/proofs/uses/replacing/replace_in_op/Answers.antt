use Rattle.std.proofs.Common.{◌∙◌, ap, sym, Some}
use Rattle.plir_core.specs.Contents.{OpView}
use Rattle.plir_core.proofs.uses.replacing.replace_in_op.Goals as goal
use Rattle.plir_core.proofs.Counted.{Counts-rewritten}
use Rattle.plir_core.proofs.Edited.{operands_replaced}

pub invariant_of-ctx : goal.invariant_of-ctx
invariant_of-ctx g c =
    record {
      whole = operands_replaced g.D.OpSet.attr_handles _ c.args.ctx.now c.ctx.view_is c.ctx.invariant.whole
          c.args.op.slot (record {
            kind = c.behind-ctx.inside.kind;
            result_types = c.behind-ctx.inside.result_types;
            operands = c.behind-ctx.inside.operands.items;
            successors = c.behind-ctx.inside.successors;
            attributes =
                c.behind-ctx.inside.attributes;
            location = c.behind-ctx.inside.location;
          }) c.args.value c.args.other _
          (c.op_mut.ensures.value ∙ ap (λ z. Some z) (sym c.behind-ctx.view_is)) c.replace_among.ensures
          c.requires.value_live;
      counted =
          let new : OpView g.row.D-Kind.Denot g.row.D-Attr.Denot = (record {
            kind = c.behind-ctx.inside.kind;
            result_types = c.behind-ctx.inside.result_types;
            operands = c.replace_among.new.values.items;
            successors =
                c.behind-ctx.inside.successors;
            attributes = c.behind-ctx.inside.attributes;
            location =
                c.behind-ctx.inside.location;
          }) in
          Counts-rewritten c.ctx.inside.uses c.lower_op.new.self c.raise_again.new.self c.ctx.inside.nodes.ops
          c.args.op.slot c.op.result.now new c.op-2.result.now c.op.ensures c.op-2.ensures c.ctx.invariant.counted
          c.lower_op.ensures c.raise_again.ensures;
    }
