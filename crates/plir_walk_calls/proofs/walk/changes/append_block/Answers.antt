use Rattle.std.proofs.Common.{zero, sym, refl, subst}
use Rattle.plir_core.specs.declared.ptr.IRNode.TheVariants.{Region, BasicBlock}
use Rattle.plir_core.specs.Forest.{look}
use Rattle.plir_walk.specs.Lawful.{Lawful}
use Rattle.plir_walk_calls.proofs.walk.changes.append_block.Goals as goal

pub insert_at_back-requires-clause-not_above : goal.insert_at_back-requires-clause-not_above
insert_at_back-requires-clause-not_above g c = c.in_ok-block.ensures.made.apart (Region c.args.region)
    (sym c.if-not-is_live.ensures.value)

pub returns-in_err-block : goal.returns-in_err-block
returns-in_err-block g c =
    let region = Region c.args.region in
    subst (λ z. Lawful (look c.args.ctx.now) region (look z)) (sym c.in_err-block.ensures.err)
    (c.lawful_changes.ensures.none c.args.ctx.now region)

pub returns : goal.returns
returns g c =
    let s = c.args.ctx.now in
    let region = Region c.args.region in
    let forest = c.lawful_changes.ensures.forest s c.is_live.ensures.whole in
    c.lawful_changes.ensures.placed s c.new-2.new.ctx c.insert_at_back.new.ctx region region
    (BasicBlock c.in_ok-block.block) _ forest (zero, refl) c.in_ok-block.ensures.made
    c.insert_at_back.ensures.placed
