use Rattle.plir_core.specs.ContextView.{children}
use Rattle.plir_core.proofs.laws.child_at.Goals as goal
use Rattle.plir_core.proofs.Facts.{child-live, child-parent}
use Rattle.plir_core.proofs.Depths.{depth-child}
use Rattle.plir_core.proofs.ChildPlaces.{next-place}
use Rattle.plir_store.specs.MemberLaws.{Has-at}

pub returns-clause-live : goal.returns-clause-live
returns-clause-live g c = child-live c.args.ctx.now.nodes c.stands.ensures.whole.stored c.args.over c.args.child
    (Has-at (children c.args.ctx.now c.args.over) c.args.place c.args.child c.requires)

pub returns-clause-parent : goal.returns-clause-parent
returns-clause-parent g c = child-parent c.args.ctx.now.nodes c.stands.ensures.whole.stored c.args.over c.args.child
    (Has-at (children c.args.ctx.now c.args.over) c.args.place c.args.child c.requires)

pub returns-clause-deeper : goal.returns-clause-deeper
returns-clause-deeper g c = depth-child c.args.ctx.now.nodes c.stands.ensures.whole.stored c.args.over c.args.child
    (child-parent c.args.ctx.now.nodes c.stands.ensures.whole.stored c.args.over c.args.child
    (Has-at (children c.args.ctx.now c.args.over) c.args.place c.args.child c.requires))

pub returns-clause-next : goal.returns-clause-next
returns-clause-next g c = next-place c.args.ctx.now.nodes c.stands.ensures.whole.stored c.args.over c.args.child
    c.args.place c.requires
