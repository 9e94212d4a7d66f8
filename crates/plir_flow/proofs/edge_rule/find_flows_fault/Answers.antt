use Rattle.std.proofs.Common.{◌≡◌, ◌<◌, ◌∙◌, sym, arith, length, true, false}
use Rattle.std.specs.Option.{is_some}
use Rattle.plir_flow.proofs.EdgeRules.{flows-stop, flows-go}
use Rattle.plir_flow.proofs.edge_rule.find_flows_fault.Goals as goal

pub returns-then-is_some-clause-reported : goal.returns-then-is_some-clause-reported
returns-then-is_some-clause-reported g c =
    let i = c.loop-flow.flow-index in
    let gs = c.deref-flow-items.result.now in
    let below : i < length gs = omega (arith, c.deref-flow-items.ensures.len) in
    let some : is_some c.in_ok-found.found ≡ true = sym c.is_some.ensures ∙ c.if-is_some.true in
    flows-stop g.D.OpSet.is_terminator c.args.ctx.now c.args.op _ c.args.edge.now c.edge.view_is gs
    c.deref-flow-items.ensures.value i _ c.loop-flow.received _ below c.in_ok-found.found
    c.loop-flow.invariant.0 c.in_ok-found.ensures.reported some

pub loop-flow-preserved : goal.loop-flow-preserved
loop-flow-preserved g c =
    let i = c.loop-flow.flow-index in
    let gs = c.deref-flow-items.result.now in
    let below : i < length gs = omega (arith, c.deref-flow-items.ensures.len) in
    let none : is_some c.in_ok-found.found ≡ false = sym c.is_some.ensures ∙ c.if-is_some.false in
    flows-go g.D.OpSet.is_terminator c.args.ctx.now c.args.op _ c.args.edge.now c.edge.view_is gs
    c.deref-flow-items.ensures.value i _ c.loop-flow.received c.find_flow_fault.new.received below
    c.in_ok-found.found
    c.loop-flow.invariant.0 c.loop-flow.invariant.1 c.loop-flow.invariant.2 c.in_ok-found.ensures.reported none
