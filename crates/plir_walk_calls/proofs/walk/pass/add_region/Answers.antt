use Rattle.plir_core.specs.declared.ptr.IRNode.TheVariants.{Operation, Region}
use Rattle.plir_walk_calls.proofs.walk.pass.add_region.Goals as goal

pub returns : goal.returns
returns g c = c.lawful_changes.ensures.region c.args.ctx.now c.add_region.new.ctx (Operation c.args.op)
    (Region c.in_ok-_region._region) c.forest.ensures c.in_ok-_region.ensures.added
