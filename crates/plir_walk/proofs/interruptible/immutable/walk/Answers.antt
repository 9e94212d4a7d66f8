use Rattle.std.proofs.Common.{refl}
use Rattle.std.specs.declared.ops.ControlFlow.TheVariants.{Continue, Break}
use Rattle.plir_walk.specs.declared.interruptible.WalkContinue.TheVariants.{Advance}
use Rattle.plir_walk.specs.Calls.{ReadsBack}
use Rattle.plir_walk.specs.Step.{goes_on}
use Rattle.plir_walk.proofs.Hops.{hop-at, hop-none}
use Rattle.plir_walk.proofs.Walking.{begin}
use Rattle.plir_walk.proofs.Visiting.{more, allowed, cursor, visit-broke, visit-moved, visit-ended, read-smaller}
use Rattle.plir_walk.proofs.Reading.{reads-lawful, walked-over}
use Rattle.plir_walk.proofs.interruptible.immutable.walk.Goals as goal

pub nodes-init : goal.nodes-init
nodes-init g c =
    let look = g.C.NodeLinks.look in
    let w = c.args.config.now in
    let post = ReadsBack g.F.Fn c.args.callback in
    let e = c.args.ctx.now in
    let st = c.args.state.now in
    let start = begin look w post e st c.args.root 0 c.forest.ensures c.requires.root_live in
    ((0, cursor look w post e st c.args.root 0 e st c.args.root _ 0 start), c.is_due-due.ensures)

pub returns-in-Break : goal.returns-in-Break
returns-in-Break g c =
    let look = g.C.NodeLinks.look in
    let w = c.args.config.now in
    let post = ReadsBack g.F.Fn c.args.callback in
    let e = c.args.ctx.now in
    let s0 = c.args.state.now in
    let r = c.args.root in
    let lawful = reads-lawful look g.F.Fn c.args.callback r in
    let due = c.nodes.due in
    let node = c.nodes.node in
    let en = c.nodes.entering in
    let may = allowed look w post e s0 r lawful c.nodes.invariant.0.0 due c.nodes.state node en c.nodes.invariant.0.1 in
    let made = more look w post e s0 r lawful c.nodes.invariant.0.0 due in
    walked-over look w g.F.Fn c.args.callback e s0 r made (Break c.in-Break.b) c.visit.new.state
    (visit-broke look w post e s0 r lawful made e e c.nodes.state c.visit.new.state node en due may.0 0 c.visit.result
    may.1.0 c.nodes.invariant.1 may.1.1 c.visit.ensures c.in-Break.b c.in-Break.is)

pub nodes-preserved : goal.nodes-preserved
nodes-preserved g c =
    let look = g.C.NodeLinks.look in
    let w = c.args.config.now in
    let post = ReadsBack g.F.Fn c.args.callback in
    let e = c.args.ctx.now in
    let s0 = c.args.state.now in
    let r = c.args.root in
    let lawful = reads-lawful look g.F.Fn c.args.callback r in
    let due = c.nodes.due in
    let node = c.nodes.node in
    let en = c.nodes.entering in
    let below = goes_on c.nodes.entering c.in-Continue.answer in
    let at = hop-at w (look e) r c.nodes.node below _ c.onward.ensures c.in-Some.next c.in-Some.enter c.in-Some.call
    c.in-Some.is in
    let may = allowed look w post e s0 r lawful c.nodes.invariant.0.0 due c.nodes.state node en c.nodes.invariant.0.1 in
    let made = more look w post e s0 r lawful c.nodes.invariant.0.0 due in
    let next =
    visit-moved look w post e s0 r lawful made e e c.nodes.state c.visit.new.state node en due may.0 0 c.visit.result
    may.1.0 c.nodes.invariant.1 may.1.1 c.visit.ensures c.in-Continue.answer c.in-Continue.is below refl
    _ at.0 c.in-Some.next c.in-Some.enter refl in
    ((made, next), at.1)

pub returns-in-None : goal.returns-in-None
returns-in-None g c =
    let look = g.C.NodeLinks.look in
    let w = c.args.config.now in
    let post = ReadsBack g.F.Fn c.args.callback in
    let e = c.args.ctx.now in
    let s0 = c.args.state.now in
    let r = c.args.root in
    let lawful = reads-lawful look g.F.Fn c.args.callback r in
    let due = c.nodes.due in
    let node = c.nodes.node in
    let en = c.nodes.entering in
    let below = goes_on c.nodes.entering c.in-Continue.answer in
    let may = allowed look w post e s0 r lawful c.nodes.invariant.0.0 due c.nodes.state node en c.nodes.invariant.0.1 in
    let made = more look w post e s0 r lawful c.nodes.invariant.0.0 due in
    walked-over look w g.F.Fn c.args.callback e s0 r made (Continue Advance) c.visit.new.state
    (visit-ended look w post e s0 r lawful made e e c.nodes.state c.visit.new.state node en due may.0 0 c.visit.result
    may.1.0 c.nodes.invariant.1 may.1.1 c.visit.ensures c.in-Continue.answer c.in-Continue.is below refl
    _ (hop-none w (look e) r node below _ c.onward.ensures c.in-None.is) refl)

pub nodes-smaller : goal.nodes-smaller
nodes-smaller g c =
    let look = g.C.NodeLinks.look in
    let w = c.args.config.now in
    let post = ReadsBack g.F.Fn c.args.callback in
    let e = c.args.ctx.now in
    let s0 = c.args.state.now in
    let r = c.args.root in
    let lawful = reads-lawful look g.F.Fn c.args.callback r in
    let due = c.nodes.due in
    let node = c.nodes.node in
    let en = c.nodes.entering in
    let below = goes_on c.nodes.entering c.in-Continue.answer in
    let at = hop-at w (look e) r c.nodes.node below _ c.onward.ensures c.in-Some.next c.in-Some.enter c.in-Some.call
    c.in-Some.is in
    let may = allowed look w post e s0 r lawful c.nodes.invariant.0.0 due c.nodes.state node en c.nodes.invariant.0.1 in
    let made = more look w post e s0 r lawful c.nodes.invariant.0.0 due in
    read-smaller look w post e s0 r lawful made e e c.nodes.state c.visit.new.state node en due may.0 0 c.visit.result
    may.1.0 c.nodes.invariant.1 may.1.1 c.visit.ensures c.in-Continue.answer c.in-Continue.is below refl
    _ at.0 c.forest.ensures c.in-Some.next c.in-Some.enter refl
