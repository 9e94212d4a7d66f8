use Rattle.std.proofs.Common.{◌∙◌, sym, subst, arith}
use Rattle.plir_store.specs.Lists.{children_at}
use Rattle.plir_core.proofs.arena.index.place_of.Goals as goal
use Rattle.plir_core.proofs.Siblings.{IsSeeking, IsSeeking-start, IsSeeking-more, IsSeeking-on, next_at, child_in}
use Rattle.plir_core.proofs.Siblings.{children_few, none_past}

pub loop-at-init : goal.loop-at-init
loop-at-init c =
    let a = c.first-at.ensures.agreed in
    subst (IsSeeking (children_at c.args.lists.now c.args.list) c.args.child 0) (sym c.first-at.ensures.value)
    (IsSeeking-start (children_at c.args.lists.now c.args.list) c.args.child
    (a.held c.args.list c.args.child c.requires.listed))

pub overflow_add-place : goal.overflow_add-place
overflow_add-place c =
    let h = IsSeeking-on (children_at c.args.lists.now c.args.list) c.args.child c.loop-at.place c.loop-at.at
    c.loop-at.invariant in
    let f = children_few c.args.lists.now c.first-at.ensures.agreed c.args.list in
    omega arith

pub next-at-requires : goal.next-at-requires
next-at-requires c = child_in c.args.lists.now c.first-at.ensures.agreed c.args.list c.loop-at.place c.in-Some.current
    (sym c.loop-at.invariant.at_place ∙ c.in-Some.is)

pub loop-at-smaller : goal.loop-at-smaller
loop-at-smaller c =
    let h = IsSeeking-on (children_at c.args.lists.now c.args.list) c.args.child c.loop-at.place c.loop-at.at
    c.loop-at.invariant in
    omega arith

pub loop-at-preserved : goal.loop-at-preserved
loop-at-preserved c =
    IsSeeking-more (children_at c.args.lists.now c.args.list) c.args.child c.loop-at.place c.in-Some.current
    c.loop-at.at c.next-at.result c.loop-at.invariant c.in-Some.is c.if-current-child.false
    (c.next-at.ensures.value ∙ next_at c.args.lists.now c.first-at.ensures.agreed c.args.list c.loop-at.place
    c.in-Some.current (sym c.loop-at.invariant.at_place ∙ c.in-Some.is))

pub unreachable-requires : goal.unreachable-requires
unreachable-requires c =
    let h = IsSeeking-on (children_at c.args.lists.now c.args.list) c.args.child c.loop-at.place c.loop-at.at
    c.loop-at.invariant in
    let e = none_past (children_at c.args.lists.now c.args.list) c.loop-at.place
    (sym c.loop-at.invariant.at_place ∙ c.in_default.is) in
    omega arith
