use Rattle.std.proofs.Common.{◌∙◌, ap, Some}
use Rattle.plir_store.specs.Table.{next_slot}
use Rattle.plir_core.specs.Edits.{with_new_op, with_new_regions}
use Rattle.plir_core.specs.Contents.{OpView}
use Rattle.plir_core.proofs.ptr.Operation.with_attributes.Goals as goal
use Rattle.plir_core.proofs.Counted.{Counts-made, Counts-unmade}
use Rattle.plir_core.proofs.Holds.{op_new, whole_same}
use Rattle.plir_data.specs.declared.location.Location.TheVariants.{Unknown}

pub invariant_of-ctx : goal.invariant_of-ctx
invariant_of-ctx g c =
    record {
      whole = whole_same g.D.OpSet.attr_handles _ c.ctx.invariant.whole c.make_op_with_regions.new.self
          c.in_err-op.ensures.err c.make_op_with_regions.ensures.stored;
      counted = Counts-unmade c.ctx.inside.nodes c.make_op_with_regions.new.self c.in_err-op.ensures.err
          c.ctx.inside.uses c.ctx.invariant.counted;
    }

pub returns-in_err-op-clause-whole : goal.returns-in_err-op-clause-whole
returns-in_err-op-clause-whole g c = (invariant_of-ctx g c).whole

pub invariant_of-ctx-2 : goal.invariant_of-ctx-2
invariant_of-ctx-2 g c =
    let ok = c.in_ok-op.ensures.ok ∙ ap (λ (v : OpView g.row.D-Kind.Denot g.row.D-Attr.Denot). with_new_regions
    (with_new_op c.ctx.inside.nodes v) (next_slot c.ctx.inside.nodes.ops) c.args.num_regions) c.in_ok-data.ensures.held
    in
    let held = c.in_ok-op.ensures.held ∙ ap (λ (v : OpView g.row.D-Kind.Denot g.row.D-Attr.Denot). Some v)
    c.in_ok-data.ensures.held in
    record {
      whole = op_new g.D.OpSet.attr_handles _ c.args.ctx.now c.ctx.view_is c.ctx.invariant.whole
          c.make_op_with_regions.new.self c.args.kind c.args.result_types.items c.args.operands.items
          c.args.successors.items c.args.attributes Unknown (next_slot c.ctx.inside.nodes.ops) c.args.num_regions ok
          c.requires.handles_live c.make_op_with_regions.ensures.stored c.requires.types_live c.requires.operands_live
          c.requires.successors_live;
      counted =
          let made : OpView g.row.D-Kind.Denot g.row.D-Attr.Denot = record {
            kind = c.args.kind;
            result_types =
                c.args.result_types.items;
            operands = c.args.operands.items;
            successors = c.args.successors.items;
            attributes = c.args.attributes;
            location = Unknown;
          } in
          Counts-made g.D.OpSet.attr_handles _ c.ctx.invariant.whole c.ctx.inside.uses c.begin.new.self
          c.raise_new.new.self made c.op.result.now c.make_op_with_regions.new.self c.in_ok-op.op c.args.num_regions
          c.ctx.invariant.counted
          ok c.in_ok-op.ensures.pointer held c.op.ensures c.begin.ensures c.raise_new.ensures;
    }

pub returns-clause-whole : goal.returns-clause-whole
returns-clause-whole g c = (invariant_of-ctx-2 g c).whole
