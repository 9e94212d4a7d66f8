use Rattle.std.proofs.Common.{◌+◌, ◌-◌, ◌^◌, min, refl, ◌∙◌, ap, subst, arith}
use Rattle.plir_core.specs.Stored.{IsStored}
use Rattle.plir_core.specs.ContextView.{ContextView}
use Rattle.plir_core.specs.Uses.{uses_within}
use Rattle.plir_core.proofs.Walked.{IsCome-start, IsCome-on, sum-ends}
use Rattle.plir_core.proofs.TreeUses.{min_more}
use Rattle.plir_core.proofs.context.Context.num_uses_inside.Goals as goal

pub loop-step-init : goal.loop-step-init
loop-step-init g c = (
  0,
  (
    IsCome-start c.args.self.now.nodes (subst (λ (z : ContextView g.row.D-Kind.Denot g.row.D-Attr.Denot
        g.row.D-Ty.Denot). IsStored z.nodes) c.self.view_is c.self.invariant.whole.stored) c.args.root
        (uses_within c.args.self.now.nodes c.args.root) c.requires,
    omega arith,
  ),
)

pub loop-step-preserved : goal.loop-step-preserved
loop-step-preserved g c =
    let same = ap (λ (z : ContextView g.row.D-Kind.Denot g.row.D-Attr.Denot g.row.D-Ty.Denot). z.nodes)
    c.self.view_is in
    let more = uses_within c.args.self.now.nodes c.args.root c.loop-step.at in
    let sum = c.loop-step.invariant.0 in (
      sum + more,
      (
        IsCome-on (uses_within c.args.self.now.nodes c.args.root) _ c.args.self.now.nodes same c.args.root
            c.loop-step.at sum more refl c.loop-step.invariant.1.0 c.in-Some.next c.in-Some.ensures.on,
        min_more sum more c.loop-step.uses c.num_uses_within.result c.saturating_add-uses.result
            c.loop-step.invariant.1.1 c.num_uses_within.ensures c.saturating_add-uses.ensures,
      ),
    )

pub returns-in-None : goal.returns-in-None
returns-in-None g c =
    let same = ap (λ (z : ContextView g.row.D-Kind.Denot g.row.D-Attr.Denot g.row.D-Ty.Denot). z.nodes)
    c.self.view_is in
    let more = uses_within c.args.self.now.nodes c.args.root c.loop-step.at in
    let sum = c.loop-step.invariant.0 in
    min_more sum more c.loop-step.uses c.num_uses_within.result c.saturating_add-uses.result c.loop-step.invariant.1.1
    c.num_uses_within.ensures c.saturating_add-uses.ensures
    ∙ ap (λ k. min k (2 ^ 64 - 1)) (sum-ends (uses_within c.args.self.now.nodes c.args.root) _ c.args.self.now.nodes
    same c.args.root c.loop-step.at sum more refl c.loop-step.invariant.1.0
    (c.next_in_tree.ensures.done c.in-None.is))
