use Rattle.std.proofs.Common.{sym, subst}
use Rattle.plir_core.specs.ContextView.{IsLive}
use Rattle.plir_core.specs.Forest.{look}
use Rattle.plir_walk.specs.Lawful.{Lawful}
use Rattle.plir_walk_calls.proofs.walk.changes.follow.Goals as goal
use Rattle.plir_walk_calls.proofs.walk.changes.follow.Goals.{then-eq+in_ok-apply, else-eq}

pub loop-at-init : goal.loop-at-init
loop-at-init g c = (c.lawful_changes.ensures.none c.args.ctx.now c.args.node, c.requires)

pub loop-at-preserved : goal.loop-at-preserved
loop-at-preserved g c =
    let s = c.args.ctx.now in
    elim c.if-eq.branch [
      | then-eq+in_ok-apply w ↦
          let f = c.lawful_changes.ensures.both s c.loop-at.ctx w.apply.new.ctx c.args.node c.forest.ensures
          c.loop-at.invariant.0 w.apply.ensures in
          let g = subst (λ z. Lawful (look s) c.args.node (look z)) (sym w.ctx-is) f in
          (g, c.lawful_changes.ensures.stays s c.if-eq.ctx c.args.node c.forest.ensures g c.requires)
      | else-eq w ↦ subst (λ z. Lawful (look s) c.args.node (look z) × IsLive z c.args.node) (sym w.ctx-is)
          c.loop-at.invariant
    ]

pub returns-in_err-apply : goal.returns-in_err-apply
returns-in_err-apply g c = c.lawful_changes.ensures.both c.args.ctx.now c.loop-at.ctx c.apply.new.ctx c.args.node
    c.forest.ensures c.loop-at.invariant.0 c.apply.ensures
