use Rattle.plir_core.specs.declared.ptr.IRNode.TheVariants.{Operation, BasicBlock}
use Rattle.plir_core.proofs.ChildPlaces.{first_is}
use Rattle.plir_core.proofs.Splits.{spliced-none, spliced-last, nothing_first}
use Rattle.plir_core.proofs.splicing.Ptr+BasicBlock.splice_at_back.Goals as goal

pub returns-in-Some-clause-spliced : goal.returns-in-Some-clause-spliced
returns-in-Some-clause-spliced g c =
    spliced-last c.args.ctx.now.nodes c.move_tail.new.ctx.nodes (BasicBlock c.args.self) (BasicBlock c.args.target)
    (Operation c.in-Some.first)
    (first_is c.args.ctx.now.nodes (BasicBlock c.args.self) Operation _ _ c.get_head.ensures.value c.in-Some.is)
    c.move_tail.ensures.split

pub returns-in_default-clause-spliced : goal.returns-in_default-clause-spliced
returns-in_default-clause-spliced g c =
    spliced-none c.args.ctx.now.nodes (BasicBlock c.args.self) (BasicBlock c.args.target) (nothing_first _
    (first_is c.args.ctx.now.nodes (BasicBlock c.args.self) Operation _ _ c.get_head.ensures.value c.in_default.is))
