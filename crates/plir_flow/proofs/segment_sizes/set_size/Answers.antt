use Rattle.std.proofs.Common.{ap, ◌∙◌}
use Rattle.std.specs.Prelude.{slice_set}
use Rattle.plir_data.specs.AttrView.{leaf, unit}
use Rattle.plir_core.specs.Changes.{with_op_edit}
use Rattle.plir_flow.specs.Segments.{sizes_attr, with_sizes}
use Rattle.plir_flow.proofs.SizesPut.{sizes-again, sizes-there}
use Rattle.plir_flow.proofs.segment_sizes.set_size.Goals as goal

pub restore_sizes-requires-clause-present : goal.restore_sizes-requires-clause-present
restore_sizes-requires-clause-present g c =
    sizes-there c.args.ctx.now c.args.op c.take_sizes-sizes.new.ctx (leaf unit) c.requires.live
    c.take_sizes-sizes.ensures.after (c.op_edits_keep_the_rest.ensures (with_sizes (leaf unit)))

pub returns-clause-after : goal.returns-clause-after
returns-clause-after g c =
    sizes-again c.args.ctx.now c.args.op c.take_sizes-sizes.new.ctx c.restore_sizes.new.ctx (leaf unit) _
    c.op_edits_join.ensures.join c.op_edits_join.ensures.same c.take_sizes-sizes.ensures.after
    c.restore_sizes.ensures.after
    ∙ ap (λ ns. with_op_edit c.args.ctx.now c.args.op (with_sizes (sizes_attr (slice_set ns c.args.seg c.args.size))))
    (c.sizes.view_is ∙ c.take_sizes-sizes.ensures.value)
