use Rattle.std.proofs.Common.{◌∙◌, sym, arith}
use Rattle.std.proofs.lemmas.Option.{slice_get_within}
use Rattle.plir_store.specs.Lists.{children_at}
use Rattle.plir_core.proofs.arena.count_children.Goals as goal
use Rattle.plir_core.proofs.Siblings.{next_at, child_in, none_past, children_few}

pub overflow_add-count : goal.overflow_add-count
overflow_add-count c =
    let h = slice_get_within (children_at c.args.lists.now c.args.list) c.loop-at.count c.in-Some.child
    (sym c.loop-at.invariant.0 ∙ c.in-Some.is) in
    let f = children_few c.args.lists.now c.first-at.ensures.agreed c.args.list in
    omega arith

pub next-at-requires : goal.next-at-requires
next-at-requires c = child_in c.args.lists.now c.first-at.ensures.agreed c.args.list c.loop-at.count c.in-Some.child
    (sym c.loop-at.invariant.0 ∙ c.in-Some.is)

pub loop-at-smaller : goal.loop-at-smaller
loop-at-smaller c =
    let h = slice_get_within (children_at c.args.lists.now c.args.list) c.loop-at.count c.in-Some.child
    (sym c.loop-at.invariant.0 ∙ c.in-Some.is) in
    omega arith

pub loop-at-preserved : goal.loop-at-preserved
loop-at-preserved c =
    let e = sym c.loop-at.invariant.0 ∙ c.in-Some.is in
    let h = slice_get_within (children_at c.args.lists.now c.args.list) c.loop-at.count c.in-Some.child e in (
      c.next-at.ensures.value ∙ next_at c.args.lists.now c.first-at.ensures.agreed c.args.list c.loop-at.count
          c.in-Some.child e,
      omega arith,
    )

pub returns : goal.returns
returns c =
    let h = none_past (children_at c.args.lists.now c.args.list) c.loop-at.count
    (sym c.loop-at.invariant.0 ∙ c.in_default.is) in
    omega (arith, c.loop-at.invariant.1)
