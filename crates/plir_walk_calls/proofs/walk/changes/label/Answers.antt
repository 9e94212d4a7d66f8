use Rattle.std.proofs.Common.{sym, subst}
use Rattle.plir_core.specs.declared.ptr.IRNode.TheVariants.{BasicBlock}
use Rattle.plir_core.specs.Forest.{look}
use Rattle.plir_walk.specs.Lawful.{Lawful}
use Rattle.plir_walk_calls.proofs.walk.changes.label.Goals as goal

pub returns : goal.returns
returns g c =
    let block = BasicBlock c.args.block in
    subst (λ z. Lawful (look c.args.ctx.now) block (look z)) (sym c.set_label.ensures.after)
    (c.lawful_changes.ensures.block_edit c.args.ctx.now block c.args.block _)
