use Rattle.std.proofs.Common.{◌<◌, ◌-◌, ◌∙◌, arith, length, sym}
use Rattle.std.proofs.lemmas.List.{nil_from_length}
use Rattle.plir_core.specs.declared.ptr.IRNode.TheVariants.{Operation}
use Rattle.plir_core.specs.ContextView.{operands_of}
use Rattle.plir_passes.proofs.Cuts.{cut-more, operand-less, without_operand}
use Rattle.plir_passes.proofs.Freed.{cut-none}
use Rattle.plir_passes.proofs.unreached_code.drop_operands.Goals as goal

pub operands-init : goal.operands-init
operands-init g c = record {
  cut = cut-none c.args.ctx.now;
  count = sym c.get_num_operands-left.ensures.value;
}

pub op_edits_keep_the_rest-requires : goal.op_edits_keep_the_rest-requires
op_edits_keep_the_rest-requires g c = c.operands.invariant.cut.keeps.live (Operation c.args.op) ∙ c.requires

pub remove_operand-requires-clause-live : goal.remove_operand-requires-clause-live
remove_operand-requires-clause-live g c = c.operands.invariant.cut.keeps.live (Operation c.args.op) ∙ c.requires

pub operands-preserved : goal.operands-preserved
operands-preserved g c =
    let s = c.operands.ctx in
    let t = c.remove_operand.new.ctx in
    let p = c.args.op in
    let i = c.operands.left - 1 in
    let f = c.op_edits_keep_the_rest.ensures (without_operand i) in
    let some = c.operands-test.true in
    let count = c.operands.invariant.count in
    let within : i < length (operands_of s p) = omega (arith, count, some) in
    let after = c.remove_operand.ensures.after in
    let less = operand-less c.args.ctx.now s t p i within f after in
    record {
      cut = cut-more c.args.ctx.now s t p (without_operand i) f after c.operands.invariant.cut;
      count = omega (arith, count, less);
    }

pub remove_operand-requires-clause-below : goal.remove_operand-requires-clause-below
remove_operand-requires-clause-below g c =
    let some = c.operands-test.true in
    let count = c.operands.invariant.count in
    omega (arith, count, some)

pub operands-smaller : goal.operands-smaller
operands-smaller g c =
    let some = c.operands-test.true in
    let less : c.operands.left - 1 < c.operands.left = omega (arith, some) in
    less

pub returns-clause-cut : goal.returns-clause-cut
returns-clause-cut g c = c.operands.invariant.cut

pub returns-clause-none : goal.returns-clause-none
returns-clause-none g c =
    let none = c.operands-test.false in
    let count = c.operands.invariant.count in
    nil_from_length _ (omega (arith, count, none))
