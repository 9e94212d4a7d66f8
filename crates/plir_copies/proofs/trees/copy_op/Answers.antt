use Rattle.std.proofs.Common.{◌∙◌}
use Rattle.plir_core.specs.ContextView.{op_at}
use Rattle.plir_copies.specs.Images.{images}
use Rattle.plir_copies.proofs.Adding.{bare-same, none-live}
use Rattle.plir_copies.proofs.trees.copy_op.Goals as goal

pub copy_bare-requires-clause-images_live : goal.copy_bare-requires-clause-images_live
copy_bare-requires-clause-images_live g c =
    none-live c.args.ctx.now (images c.new-nothing.result) c.new-nothing.ensures

pub returns-clause-held : goal.returns-clause-held
returns-clause-held g c =
    c.in_ok-copy.ensures.held ∙ bare-same (images c.new-nothing.result) c.new-nothing.ensures (op_at c.args.ctx.now c.args.op)
