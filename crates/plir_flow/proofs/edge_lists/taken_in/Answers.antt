use Rattle.std.proofs.Common.{◌<◌, ◌+◌, subst, sym, arith, take, length}
use Rattle.std.proofs.lemmas.Bool.{both_ways}
use Rattle.std.proofs.lemmas.List.{take_all}
use Rattle.plir_flow.specs.Taken.{AreTakenOnce}
use Rattle.plir_flow.specs.RegionEdges.{EdgeView, IsPointIn, IsFromRegion}
use Rattle.plir_flow.proofs.TakenLists.{taken-none, taken-yes, taken-no}
use Rattle.plir_flow.proofs.edge_lists.taken_in.Goals as goal
use Rattle.plir_flow.proofs.edge_lists.taken_in.Goals.{then-is_point_in+in_ok-add, else-is_point_in}

pub loop-edge-init : goal.loop-edge-init
loop-edge-init g c = rw c.new-seen.ensures (taken-none (IsFromRegion c.args.ctx.now c.args.region) g.P.EdgePart.on)

pub loop-edge-preserved : goal.loop-edge-preserved
loop-edge-preserved g c =
    let on = g.P.EdgePart.on in
    let s = c.args.ctx.now in
    let r = c.args.region in
    let i = c.loop-edge.edge-index in
    let es = c.args.edges.now in
    let below : i < length es = omega arith in
    elim c.if-is_point_in.branch [
      | then-is_point_in+in_ok-add w ↦
          subst (AreTakenOnce (IsFromRegion s r) on (take (i + 1) es)) (sym w.seen-is)
          (taken-yes (IsFromRegion s r) on es i c.edge-item.result below c.edge-item.is c.loop-edge.seen _
          c.loop-edge.invariant
          (subst (λ (e : EdgeView). IsPointIn s r e.from) c.edge.view_is
          (c.is_point_in.ensures.value.0 w.if-is_point_in.true))
          w.in_ok-add.ensures)
      | else-is_point_in w ↦
          subst (AreTakenOnce (IsFromRegion s r) on (take (i + 1) es)) (sym w.seen-is)
          (taken-no (IsFromRegion s r) on es i c.edge-item.result below c.edge-item.is c.loop-edge.seen
          c.loop-edge.invariant
          (λ p. both_ways c.is_point_in.result w.if-is_point_in.false
          (c.is_point_in.ensures.value.1 (subst (λ (e : EdgeView). IsPointIn s r e.from) (sym c.edge.view_is) p))))
    ]

pub returns-clause-taken : goal.returns-clause-taken
returns-clause-taken g c =
    rw c.into_list.ensures
    (subst (λ l. AreTakenOnce (IsFromRegion c.args.ctx.now c.args.region) g.P.EdgePart.on l c.loop-edge.seen)
    (take_all _ c.args.edges.now (omega arith)) c.loop-edge.invariant)
