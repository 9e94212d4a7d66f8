use Rattle.std.proofs.Common.{refl}
use Rattle.std.specs.declared.ops.ControlFlow.TheVariants.{Continue, Break}
use Rattle.plir_walk.specs.declared.interruptible.WalkContinue.TheVariants.{Advance}
use Rattle.plir_walk.specs.Calls.{ReadsBack}
use Rattle.plir_walk.specs.OperationWalks.{AtEachNode}
use Rattle.plir_walk.specs.Step.{goes_on}
use Rattle.plir_walk.proofs.Hops.{answer-left}
use Rattle.plir_walk.proofs.OperationCalls.{reads-each, read-operations}
use Rattle.plir_walk.proofs.OperationHops.{ended-past, moved-past, op-hop-at, op-hop-none}
use Rattle.plir_walk.proofs.Walking.{begin}
use Rattle.plir_walk.proofs.Visiting.{more, allowed, cursor, halfway, visit-broke}
use Rattle.plir_walk.proofs.operations.immutable.walk_ops.Goals as goal

pub nodes-init : goal.nodes-init
nodes-init g c =
    let look = g.C.NodeLinks.look in
    let w = c.args.config.now in
    let post = AtEachNode (ReadsBack g.F.Fn c.args.callback) in
    let e = c.args.ctx.now in
    let st = c.args.state.now in
    let start = begin look w post e st c.args.root 0 c.forest.ensures c.requires.root_live in
    ((0, cursor look w post e st c.args.root 0 e st c.args.root _ 0 start), c.is_due-due.ensures)

pub returns-in-Break : goal.returns-in-Break
returns-in-Break g c =
    let look = g.C.NodeLinks.look in
    let w = c.args.config.now in
    let at = ReadsBack g.F.Fn c.args.callback in
    let post = AtEachNode at in
    let e = c.args.ctx.now in
    let s0 = c.args.state.now in
    let r = c.args.root in
    let lawful = reads-each look r g.F.Fn c.args.callback in
    let due = c.nodes.due in
    let node = c.nodes.node in
    let en = c.nodes.entering in
    let may = allowed look w post e s0 r lawful c.nodes.invariant.0.0 due c.nodes.state node en c.nodes.invariant.0.1 in
    let made = more look w post e s0 r lawful c.nodes.invariant.0.0 due in
    read-operations look r g.F.Fn c.args.callback w e s0 made (Break c.in-Break.b) c.visit.new.state
    (visit-broke look w post e s0 r lawful made e e c.nodes.state c.visit.new.state node en due may.0 0 c.visit.result
    may.1.0 c.nodes.invariant.1 may.1.1 c.visit.ensures c.in-Break.b c.in-Break.is)

pub nodes-preserved : goal.nodes-preserved
nodes-preserved g c =
    let look = g.C.NodeLinks.look in
    let w = c.args.config.now in
    let at = ReadsBack g.F.Fn c.args.callback in
    let post = AtEachNode at in
    let e = c.args.ctx.now in
    let s0 = c.args.state.now in
    let r = c.args.root in
    let lawful = reads-each look r g.F.Fn c.args.callback in
    let due = c.nodes.due in
    let node = c.nodes.node in
    let en = c.nodes.entering in
    let below = goes_on c.nodes.entering c.in-Continue.answer in
    let to = op-hop-at w (look e) r node below _ c.onward.ensures c.in-Some.next c.in-Some.enter c.in-Some.call
    c.in-Some.is in
    let may = allowed look w post e s0 r lawful c.nodes.invariant.0.0 due c.nodes.state node en c.nodes.invariant.0.1 in
    let made = more look w post e s0 r lawful c.nodes.invariant.0.0 due in
    let half =
    halfway look w post e s0 r lawful made e e c.nodes.state c.visit.new.state node en due may.0 0 c.visit.result
    may.1.0 c.nodes.invariant.1 may.1.1 c.visit.ensures c.in-Continue.answer c.in-Continue.is below refl in
    let next =
    moved-past look w at e s0 r lawful to.0.0 made e c.visit.new.state node below c.in-Some.next c.in-Some.enter half
    to.0.1 in
    ((next.0, cursor look w post e s0 r next.0 e c.visit.new.state c.in-Some.next c.in-Some.enter 0 next.1), to.1)

pub returns-in-None : goal.returns-in-None
returns-in-None g c =
    let look = g.C.NodeLinks.look in
    let w = c.args.config.now in
    let at = ReadsBack g.F.Fn c.args.callback in
    let post = AtEachNode at in
    let e = c.args.ctx.now in
    let s0 = c.args.state.now in
    let r = c.args.root in
    let lawful = reads-each look r g.F.Fn c.args.callback in
    let due = c.nodes.due in
    let node = c.nodes.node in
    let en = c.nodes.entering in
    let below = goes_on c.nodes.entering c.in-Continue.answer in
    let to = op-hop-none w (look e) r node below _ c.onward.ensures c.in-None.is in
    let may = allowed look w post e s0 r lawful c.nodes.invariant.0.0 due c.nodes.state node en c.nodes.invariant.0.1 in
    let made = more look w post e s0 r lawful c.nodes.invariant.0.0 due in
    let half =
    halfway look w post e s0 r lawful made e e c.nodes.state c.visit.new.state node en due may.0 0 c.visit.result
    may.1.0 c.nodes.invariant.1 may.1.1 c.visit.ensures c.in-Continue.answer c.in-Continue.is below refl in
    let end = ended-past look w at e s0 r lawful to.0 made e c.visit.new.state node below half to.1 in
    read-operations look r g.F.Fn c.args.callback w e s0 end.0 (Continue Advance) c.visit.new.state end.1

pub nodes-smaller : goal.nodes-smaller
nodes-smaller g c =
    let look = g.C.NodeLinks.look in
    let w = c.args.config.now in
    let e = c.args.ctx.now in
    let r = c.args.root in
    let node = c.nodes.node in
    let en = c.nodes.entering in
    let below = goes_on c.nodes.entering c.in-Continue.answer in
    let to = op-hop-at w (look e) r node below _ c.onward.ensures c.in-Some.next c.in-Some.enter c.in-Some.call
    c.in-Some.is in
    answer-left w (look e) c.forest.ensures r _ node en c.in-Continue.answer c.in-Some.next c.in-Some.enter to.0
