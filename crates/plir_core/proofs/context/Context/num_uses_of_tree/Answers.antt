use Rattle.std.proofs.Common.{ap, subst, arith}
use Rattle.plir_core.specs.Stored.{seat_of, IsStored}
use Rattle.plir_core.specs.ContextView.{ContextView}
use Rattle.plir_core.specs.Uses.{uses_of}
use Rattle.plir_core.proofs.Walked.{IsCome-start, IsCome-on, sum-ends}
use Rattle.plir_core.proofs.context.Context.num_uses_of_tree.Goals as goal

pub loop-step-init : goal.loop-step-init
loop-step-init g c = record {
  come = IsCome-start c.args.self.now.nodes (subst (λ (z : ContextView g.row.D-Kind.Denot g.row.D-Attr.Denot
      g.row.D-Ty.Denot). IsStored z.nodes) c.self.view_is c.self.invariant.whole.stored) c.args.root
      (λ n. uses_of c.args.self.now.nodes.ops (seat_of n)) c.requires;
  fits = omega arith;
}

pub loop-step-preserved : goal.loop-step-preserved
loop-step-preserved g c =
    let same = ap (λ (z : ContextView g.row.D-Kind.Denot g.row.D-Attr.Denot g.row.D-Ty.Denot). z.nodes)
    c.self.view_is in
    record {
      come = IsCome-on (λ n. uses_of c.args.self.now.nodes.ops (seat_of n)) _ c.args.self.now.nodes same c.args.root
          c.loop-step.at c.loop-step.uses c.in-Some.count c.in-Some.ensures c.loop-step.invariant.come
          c.in-Some-next_in_tree.next c.in-Some-next_in_tree.ensures.on;
      fits = let fits = c.loop-step.invariant.fits in omega arith;
    }

pub returns-in-None-next_in_tree-clause-sum : goal.returns-in-None-next_in_tree-clause-sum
returns-in-None-next_in_tree-clause-sum g c =
    let same = ap (λ (z : ContextView g.row.D-Kind.Denot g.row.D-Attr.Denot g.row.D-Ty.Denot). z.nodes)
    c.self.view_is in
    sum-ends (λ n. uses_of c.args.self.now.nodes.ops (seat_of n)) _ c.args.self.now.nodes same c.args.root
    c.loop-step.at c.loop-step.uses c.in-Some.count c.in-Some.ensures c.loop-step.invariant.come
    (c.next_in_tree.ensures.done c.in-None-next_in_tree.is)
