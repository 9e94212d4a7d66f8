use Rattle.std.proofs.Common.{zero, refl}
use Rattle.plir_core.specs.declared.ptr.IRNode.TheVariants.{Operation, BasicBlock}
use Rattle.plir_walk_calls.proofs.walk.pass.replace_last.Goals as goal

pub erase-requires-clause-unused : goal.erase-requires-clause-unused
erase-requires-clause-unused g c = c.if-not-is_unused_outside.ensures.value.0 refl

pub append-requires : goal.append-requires
append-requires g c =
    let erased = c.lawful_changes.ensures.erased c.args.ctx.now c.erase.new.ctx (BasicBlock c.args.block)
    (Operation c.in-Some.last) (zero, c.in-Some.ensures.here) c.erase.ensures.tree in
    c.lawful_changes.ensures.stays c.args.ctx.now c.erase.new.ctx (BasicBlock c.args.block) c.forest.ensures erased
    c.requires

pub returns : goal.returns
returns g c =
    let erased = c.lawful_changes.ensures.erased c.args.ctx.now c.erase.new.ctx (BasicBlock c.args.block)
    (Operation c.in-Some.last) (zero, c.in-Some.ensures.here) c.erase.ensures.tree in
    c.lawful_changes.ensures.both c.args.ctx.now c.erase.new.ctx c.append.new.ctx (BasicBlock c.args.block)
    c.forest.ensures erased c.append.ensures.lawful
