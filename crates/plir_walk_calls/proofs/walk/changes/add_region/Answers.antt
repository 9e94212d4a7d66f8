use Rattle.std.proofs.Common.{sym, subst}
use Rattle.plir_core.specs.declared.ptr.IRNode.TheVariants.{Operation, Region}
use Rattle.plir_core.specs.Forest.{look}
use Rattle.plir_walk.specs.Lawful.{Lawful}
use Rattle.plir_walk_calls.proofs.walk.changes.add_region.Goals as goal

pub returns-in_err-_region : goal.returns-in_err-_region
returns-in_err-_region g c =
    let op = Operation c.args.op in
    subst (λ z. Lawful (look c.args.ctx.now) op (look z)) (sym c.in_err-_region.ensures.err)
    (c.lawful_changes.ensures.none c.args.ctx.now op)

pub returns : goal.returns
returns g c =
    let s = c.args.ctx.now in
    let forest = c.lawful_changes.ensures.forest s c.is_live.ensures.whole in
    c.lawful_changes.ensures.region s c.add_region.new.ctx (Operation c.args.op) (Region c.in_ok-_region._region) forest
    c.in_ok-_region.ensures.added
