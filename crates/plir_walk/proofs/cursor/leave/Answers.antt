use Rattle.std.proofs.Common.{◌≡◌, false, Some, sym, ◌∙◌}
use Rattle.plir_core.specs.Forest.{IsForest}
use Rattle.plir_walk.specs.Step.{IsNotDue}
use Rattle.plir_walk.specs.Tree.{same}
use Rattle.plir_walk.proofs.Hops.{climbed, leave-next, left-up, one-more}
use Rattle.plir_walk.proofs.Remaining.{step-smaller}
use Rattle.plir_walk.proofs.cursor.leave.Goals as goal

pub returns-in-Some : goal.returns-in-Some
returns-in-Some g c =
    let w = c.args.config.now in
    let s = g.C.NodeLinks.look c.args.ctx.now in
    let r = c.args.root in
    let apart : same c.up.here r ≡ false = sym c.is_same.ensures ∙ c.if-is_same.false in
    climbed w s r c.args.node c.up.here c.up.invariant.1 (Some c.in-Some.next)
    (leave-next w s r c.up.here _ c.in-Some.next apart c.enter_behind.ensures c.in-Some.is)

pub returns-then-is_due : goal.returns-then-is_due
returns-then-is_due g c =
    let step = left-up c.args.config.now (g.C.NodeLinks.look c.args.ctx.now) c.args.root c.up.here
    c.in_ok-parent.parent _ c.enter_behind.ensures c.in_default.is (sym c.is_same.ensures ∙ c.if-is_same.false)
    (sym c.parent.ensures ∙ c.in_ok-parent.was) in
    (c.up.invariant.1 (Some (c.in_ok-parent.parent, false)) (0, sym step), sym c.if-is_due.true ∙ c.is_due.ensures)

pub up-smaller : goal.up-smaller
up-smaller g c =
    step-smaller c.args.config.now (g.C.NodeLinks.look c.args.ctx.now) c.forest.ensures c.args.root c.up.here false
    c.in_ok-parent.parent false
    (left-up c.args.config.now (g.C.NodeLinks.look c.args.ctx.now) c.args.root c.up.here
    c.in_ok-parent.parent _ c.enter_behind.ensures c.in_default.is (sym c.is_same.ensures ∙ c.if-is_same.false)
    (sym c.parent.ensures ∙ c.in_ok-parent.was))

pub up-preserved : goal.up-preserved
up-preserved g c =
    let s = g.C.NodeLinks.look c.args.ctx.now in
    let f : IsForest s = c.forest.ensures in
    let step = left-up c.args.config.now (g.C.NodeLinks.look c.args.ctx.now) c.args.root c.up.here
    c.in_ok-parent.parent _ c.enter_behind.ensures c.in_default.is (sym c.is_same.ensures ∙ c.if-is_same.false)
    (sym c.parent.ensures ∙ c.in_ok-parent.was) in
    let passed = sym c.is_due.ensures ∙ c.if-is_due.false in (
      f.parent_live c.in_ok-parent.parent c.up.here (sym c.parent.ensures ∙ c.in_ok-parent.was),
      λ o h. c.up.invariant.1 o
          (one-more c.args.config.now s c.args.root (IsNotDue c.args.config.now) c.up.here false c.in_ok-parent.parent
          false o step passed h),
    )
