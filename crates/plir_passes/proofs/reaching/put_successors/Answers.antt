use Rattle.std.proofs.Common.{arith}
use Rattle.plir_store.specs.Members.{Has}
use Rattle.plir_core.specs.ContextView.{successors_of}
use Rattle.plir_passes.specs.Marked.{ops_of}
use Rattle.plir_passes.specs.Reached.{IsBlockOf}
use Rattle.plir_passes.proofs.Marking.{each-all, each-next, grown-as}
use Rattle.plir_passes.proofs.reaching.put_successors.Goals as goal

pub loop-place-preserved : goal.loop-place-preserved
loop-place-preserved g c =
    each-next (λ b q. IsBlockOf c.args.ctx.now q b × Has (ops_of c.args.under.now) q)
    (successors_of c.args.ctx.now c.args.op) c.loop-place.place c.get_successor.result c.args.reached.now
    c.loop-place.reached c.put_block.new.reached c.get_successor.ensures.value c.loop-place.invariant
    c.in_ok-put_block.ensures

pub returns : goal.returns
returns g c =
    grown-as _ _ (λ q h. ((h.0, h.1, h.2.0), h.2.1)) (λ q h. (h.0.0, h.0.1, (h.0.2, h.1)))
    (each-all (λ b q. IsBlockOf c.args.ctx.now q b × Has (ops_of c.args.under.now) q)
    (successors_of c.args.ctx.now c.args.op) c.loop-place.place c.args.reached.now c.loop-place.reached (omega arith)
    c.loop-place.invariant)
