use Rattle.std.proofs.Common.{[], subst, ◌<◌, arith, take, length}
use Rattle.std.specs.List.{flat_map}
use Rattle.std.proofs.lemmas.List.{take_all}
use Rattle.plir_flow.specs.Taken.{IsOnceEach}
use Rattle.plir_flow.proofs.TakenLists.{joined-more, once-none}
use Rattle.plir_flow.proofs.edge_lists.taken.Goals as goal

pub loop-edge-init : goal.loop-edge-init
loop-edge-init g c = rw c.new-seen.ensures once-none

pub loop-edge-preserved : goal.loop-edge-preserved
loop-edge-preserved g c =
    let on = g.P.EdgePart.on in
    let i = c.loop-edge.edge-index in
    let es = c.args.edges.now in
    let below : i < length es = omega arith in
    rw (← joined-more on [] es i c.edge-item.result below c.edge-item.is)
    (c.in_ok-add.ensures (flat_map on (take i es)) c.loop-edge.invariant)

pub returns : goal.returns
returns g c =
    rw c.into_list.ensures
    (subst (λ l. IsOnceEach (flat_map g.P.EdgePart.on l) c.loop-edge.seen) (take_all _ c.args.edges.now (omega arith))
    c.loop-edge.invariant)
