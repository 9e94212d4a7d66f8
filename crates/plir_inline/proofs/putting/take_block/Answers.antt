use Rattle.std.proofs.Common.{ap}
use Rattle.plir_core.specs.declared.ptr.IRNode.TheVariants.{BasicBlock}
use Rattle.plir_inline.proofs.Taking.{taken}
use Rattle.plir_inline.proofs.putting.take_block.Goals as goal

pub returns-clause-taken : goal.returns-clause-taken
returns-clause-taken g c =
    taken c.args.ctx.now c.erase.new.ctx (BasicBlock c.args.block) c.nothing_stands_below_a_leaf.ensures
    c.erase.ensures.tree (ap (λ z. z.types) c.erase.ensures.after)
