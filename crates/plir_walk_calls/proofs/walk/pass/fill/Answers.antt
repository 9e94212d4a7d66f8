use Rattle.plir_core.specs.declared.ptr.IRNode.TheVariants.{Region, BasicBlock}
use Rattle.plir_walk_calls.proofs.walk.pass.fill.Goals as goal

pub insert_at_back-requires-clause-not_above : goal.insert_at_back-requires-clause-not_above
insert_at_back-requires-clause-not_above g c = c.in_ok-block.ensures.made.apart (Region c.args.region) c.requires

pub returns-clause-lawful : goal.returns-clause-lawful
returns-clause-lawful g c = λ n over. c.lawful_changes.ensures.placed c.args.ctx.now c.new-2.new.ctx
    c.insert_at_back.new.ctx n (Region c.args.region) (BasicBlock c.in_ok-block.block) _ c.forest.ensures over
    c.in_ok-block.ensures.made c.insert_at_back.ensures.placed
