use Rattle.std.proofs.Common.{◌≡◌, true, arith}
use Rattle.plir_core.specs.ContextView.{operands_of}
use Rattle.plir_core.specs.declared.ptr.IRNode.TheVariants.{Operation}
use Rattle.plir_roundtrip.specs.UsesWithin.{IsWithinReach}
use Rattle.plir_roundtrip.proofs.Climbs.{all_from_each, one_more_at}
use Rattle.plir_roundtrip.proofs.reach.far_operand.Goals as goal

pub operands-preserved : goal.operands-preserved
operands-preserved g c =
    let passed : c.is_within_reach.result ≡ true = cc in
    one_more_at (IsWithinReach g.D.ReadSet.is_isolated c.args.ctx.now (Operation c.args.root) c.args.op)
    (operands_of c.args.ctx.now c.args.op) c.operands.place c.get_operand.result c.get_operand.ensures.value
    (c.is_within_reach.ensures.0 passed) c.operands.invariant

pub returns : goal.returns
returns g c =
    all_from_each (IsWithinReach g.D.ReadSet.is_isolated c.args.ctx.now (Operation c.args.root) c.args.op)
    (operands_of c.args.ctx.now c.args.op) c.operands.place (omega arith) c.operands.invariant
