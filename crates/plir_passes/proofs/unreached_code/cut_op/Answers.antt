use Rattle.std.proofs.Common.{◌∙◌, Some, ap, sym}
use Rattle.plir_core.specs.declared.ptr.IRNode.TheVariants.{Operation, BasicBlock}
use Rattle.plir_passes.proofs.Freed.{cut-both}
use Rattle.plir_passes.proofs.unreached_code.cut_op.Goals as goal

pub get_parent_block-requires : goal.get_parent_block-requires
get_parent_block-requires g c = c.drop_operands.ensures.cut.keeps.live (Operation c.args.op) ∙ c.requires.live

pub turn_successors-requires-clause-live : goal.turn_successors-requires-clause-live
turn_successors-requires-clause-live g c =
    c.drop_operands.ensures.cut.keeps.live (Operation c.args.op) ∙ c.requires.live

pub unreachable-requires : goal.unreachable-requires
unreachable-requires g c =
    let same = c.drop_operands.ensures.cut.keeps.parents (Operation c.args.op) in
    c.requires.in_block (sym same ∙ sym c.in-None.ensures.value)

pub returns-clause-cut : goal.returns-clause-cut
returns-clause-cut g c =
    cut-both c.args.ctx.now c.drop_operands.new.ctx c.turn_successors.new.ctx (λ q x. x) (λ q x. x)
    c.drop_operands.ensures.cut c.turn_successors.ensures.cut

pub returns-clause-none : goal.returns-clause-none
returns-clause-none g c = record {
  operands = c.turn_successors.ensures.operands ∙ c.drop_operands.ensures.none;
  successors = λ b has.
      c.turn_successors.ensures.cut.keeps.parents (Operation c.args.op) ∙ sym c.in-Some.ensures.value
      ∙ ap (λ x. Some (BasicBlock x)) (sym (c.turn_successors.ensures.all b has));
}
