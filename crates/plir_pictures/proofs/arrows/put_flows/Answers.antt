use Rattle.std.proofs.Common.{arith}
use Rattle.plir_core.specs.ContextView.{successors_of}
use Rattle.plir_pictures.specs.Arrows.{flow_arrow}
use Rattle.plir_pictures.proofs.Pieces.{all-put, one-more}
use Rattle.plir_pictures.proofs.arrows.put_flows.Goals as goal

pub successors-preserved : goal.successors-preserved
successors-preserved g c =
    one-more (flow_arrow c.args.ctx.now c.args.op) (successors_of c.args.ctx.now c.args.op) _ _ _ c.successors.place
    c.get_successor.result c.in_ok-put_flow.ensures c.get_successor.ensures.value c.successors.invariant

pub returns : goal.returns
returns g c =
    all-put (flow_arrow c.args.ctx.now c.args.op) (successors_of c.args.ctx.now c.args.op) _ _ c.successors.place
    (omega arith) c.successors.invariant
