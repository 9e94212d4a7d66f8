use Rattle.std.proofs.Common.{◌∙◌, sym, arith}
use Rattle.plir_store.specs.Lists.{children_at}
use Rattle.plir_core.proofs.arena.child_at.Goals as goal
use Rattle.plir_core.proofs.arena.child_at.Goals.{in-Some, in-None}
use Rattle.plir_core.proofs.Siblings.{next_at, child_in, none_past}

pub next-at-requires : goal.next-at-requires
next-at-requires c = child_in c.args.lists.now c.first-at.ensures.agreed c.args.list c.loop-i._i c.in-Some.child
    (sym c.loop-i.invariant ∙ c.in-Some.is)

pub loop-i-preserved : goal.loop-i-preserved
loop-i-preserved c = elim c.match-at.branch [
  | in-Some w ↦ w.at-is ∙ w.next-at.ensures.value ∙ next_at c.args.lists.now c.first-at.ensures.agreed c.args.list
      c.loop-i._i w.in-Some.child (sym c.loop-i.invariant ∙ w.in-Some.is)
  | in-None w ↦ absurd (let h = none_past (children_at c.args.lists.now c.args.list) c.loop-i._i
      (sym c.loop-i.invariant ∙ w.in-None.is) in omega arith)
]

pub unreachable-requires : goal.unreachable-requires
unreachable-requires c = let h = none_past (children_at c.args.lists.now c.args.list) c.loop-i._i
    (sym c.loop-i.invariant ∙ c.in-None-at.is) in omega arith
