use Rattle.std.proofs.Common.{◌<◌, ◌↔◌, subst, arith, take, length}
use Rattle.std.proofs.Math.Logic.Iff
use Rattle.std.proofs.lemmas.List.{take_all}
use Rattle.plir_flow.specs.RegionEdges.{IsStep}
use Rattle.plir_flow.specs.Hops.{IsHop}
use Rattle.plir_flow.proofs.TakenLists.{one-more}
use Rattle.plir_flow.proofs.Hopping.{steps-more, sum-like}
use Rattle.plir_flow.proofs.hops.add_edges.Goals as goal

pub loop-edge-preserved : goal.loop-edge-preserved
loop-edge-preserved g c =
    let i = c.loop-edge.edge-index in
    let es = c.args.edges.now in
    let s = c.args.ctx.now in
    let below : i < length es = omega arith in
    let done = c.in_ok-add_edge.ensures in (
      done.linked,
      done.heads,
      λ a b. subst (λ l. IsHop c.add_edge.new.hops.items a b ↔ IsStep s l a b)
          (one-more es i c.edge-item.result below c.edge-item.is)
          (Iff.trans (done.more a b) (Iff.trans (sum-like (c.loop-edge.invariant.2 a b) (λ h. h, λ h. h))
          (steps-more s (take i es) c.edge-item.result a b))),
    )

pub returns-clause-steps : goal.returns-clause-steps
returns-clause-steps g c =
    λ a b. subst (λ l. IsHop c.loop-edge.hops.items a b ↔ IsStep c.args.ctx.now l a b)
    (take_all _ c.args.edges.now (omega arith)) (c.loop-edge.invariant.2 a b)
