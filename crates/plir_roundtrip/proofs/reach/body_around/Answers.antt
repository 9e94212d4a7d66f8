use Rattle.std.proofs.Common.{◌≡◌, true, sym, subst, ◌∙◌}
use Rattle.plir_core.specs.declared.ptr.IRNode.TheVariants.{Operation}
use Rattle.plir_roundtrip.proofs.Climbs.{IsClimbing, climb_ends, climb_more, climb_whole, fewer_left}
use Rattle.plir_roundtrip.proofs.Climbs.{live_over, steps_left}
use Rattle.plir_core.specs.Measures.{depth}
use Rattle.std.proofs.Common.{◌<◌}
use Rattle.plir_roundtrip.proofs.reach.body_around.Goals as goal

pub returns-then-is_op : goal.returns-then-is_op
returns-then-is_op g c =
    let s = c.args.ctx.now in
    let here = subst (IsClimbing g.D.ReadSet.is_isolated s (Operation c.args.root) c.args.node) c.in-Some.is
    c.up.invariant.climbing in
    climb_whole s c.stands.ensures.standing g.D.ReadSet.is_isolated (Operation c.args.root) c.args.node c.in-Some.inner
    here (c.is_op.ensures.0 c.if-is_op.true)

pub returns-in-Some-isolated_at : goal.returns-in-Some-isolated_at
returns-in-Some-isolated_at g c =
    let s = c.args.ctx.now in
    let here = subst (IsClimbing g.D.ReadSet.is_isolated s (Operation c.args.root) c.args.node) c.in-Some.is
    c.up.invariant.climbing in
    climb_ends s c.stands.ensures.standing g.D.ReadSet.is_isolated (Operation c.args.root) c.args.node c.in-Some.inner
    c.parent-over.result c.in-Some-isolated_at.op here
    (λ e. let yes : c.is_op.result ≡ true = c.is_op.ensures.1 e in let f : ⊥ = cc in f)
    (sym c.parent-over.ensures.value) (sym c.isolated_at.ensures ∙ c.in-Some-isolated_at.is)

pub up-smaller : goal.up-smaller
up-smaller g c =
    let s = c.args.ctx.now in
    subst (λ z. steps_left (depth s) c.parent-over.result < steps_left (depth s) z) (sym c.in-Some.is)
    (fewer_left s c.stands.ensures.standing c.in-Some.inner c.parent-over.result (sym c.parent-over.ensures.value))

pub up-preserved : goal.up-preserved
up-preserved g c =
    let s = c.args.ctx.now in
    let here = subst (IsClimbing g.D.ReadSet.is_isolated s (Operation c.args.root) c.args.node) c.in-Some.is
    c.up.invariant.climbing in
    record {
      live = live_over s c.parent-over.result c.parent-over.ensures.live;
      climbing =
          climb_more s c.stands.ensures.standing g.D.ReadSet.is_isolated (Operation c.args.root) c.args.node
          c.in-Some.inner c.parent-over.result here
          (λ e. let yes : c.is_op.result ≡ true = c.is_op.ensures.1 e in let f : ⊥ = cc in f)
          (sym c.parent-over.ensures.value) (sym c.isolated_at.ensures ∙ c.in_default-isolated_at.is);
    }
