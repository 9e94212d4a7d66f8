use Rattle.std.proofs.Common.{IsSome, sym, subst}
use Rattle.plir_core.specs.declared.ptr.IRNode.TheVariants.{Operation, BasicBlock}
use Rattle.plir_core.proofs.Facts.{parent-live}
use Rattle.plir_core.proofs.Splits.{split-apart}
use Rattle.plir_core.proofs.splicing.Ptr+BasicBlock.split_block.Goals as goal

-- the block is live, since it has an operation
pub insert_after-requires-clause-mark_live : goal.insert_after-requires-clause-mark_live
insert_after-requires-clause-mark_live g c =
    c.in_ok-block.ensures.made.keeps.live (BasicBlock c.args.self)
    (parent-live c.args.ctx.now.nodes c.stands.ensures.whole.stored (BasicBlock c.args.self) (Operation c.args.at)
    c.requires.here)

pub insert_after-requires-clause-linked : goal.insert_after-requires-clause-linked
insert_after-requires-clause-linked g c =
    subst IsSome (sym (c.in_ok-block.ensures.made.keeps.parents (BasicBlock c.args.self)
    (parent-live c.args.ctx.now.nodes c.stands.ensures.whole.stored (BasicBlock c.args.self) (Operation c.args.at)
    c.requires.here))) c.requires.linked

pub insert_after-requires-clause-not_above : goal.insert_after-requires-clause-not_above
insert_after-requires-clause-not_above g c =
    c.in_ok-block.ensures.made.apart (BasicBlock c.args.self)
    (parent-live c.args.ctx.now.nodes c.stands.ensures.whole.stored (BasicBlock c.args.self) (Operation c.args.at)
    c.requires.here)

pub move_tail-requires-clause-not_above : goal.move_tail-requires-clause-not_above
move_tail-requires-clause-not_above g c =
    split-apart c.args.ctx.now.nodes c.new-2.new.ctx.nodes c.insert_after.new.ctx.nodes c.stands.ensures.whole.stored
    c.new-2.ensures.whole.stored (BasicBlock c.in_ok-block.block) (BasicBlock c.args.self) c.in_ok-block.ensures.made
    c.insert_after.ensures.placed
    (parent-live c.args.ctx.now.nodes c.stands.ensures.whole.stored (BasicBlock c.args.self) (Operation c.args.at)
    c.requires.here) c.requires.linked

pub returns-clause-split : goal.returns-clause-split
returns-clause-split g c = (
  c.new-2.new.ctx.nodes,
  c.insert_after.new.ctx.nodes,
  (c.in_ok-block.ensures.made, (c.insert_after.ensures.placed, c.move_tail.ensures.split)),
)
