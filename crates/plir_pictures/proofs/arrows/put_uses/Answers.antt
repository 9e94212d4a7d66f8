use Rattle.std.proofs.Common.{arith}
use Rattle.plir_core.specs.ContextView.{operands_of}
use Rattle.plir_pictures.specs.Arrows.{use_arrow}
use Rattle.plir_pictures.proofs.Pieces.{all-put, one-more}
use Rattle.plir_pictures.proofs.arrows.put_uses.Goals as goal

pub operands-preserved : goal.operands-preserved
operands-preserved g c =
    one-more (use_arrow c.args.ctx.now c.args.op) (operands_of c.args.ctx.now c.args.op) _ _ _ c.operands.place
    c.get_operand.result c.in_ok-put_use.ensures c.get_operand.ensures.value c.operands.invariant

pub returns : goal.returns
returns g c =
    all-put (use_arrow c.args.ctx.now c.args.op) (operands_of c.args.ctx.now c.args.op) _ _ c.operands.place
    (omega arith) c.operands.invariant
