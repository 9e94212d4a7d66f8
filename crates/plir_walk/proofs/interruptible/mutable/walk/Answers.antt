use Rattle.std.proofs.Common.{refl, sym, ◌∙◌, subst}
use Rattle.plir_walk.specs.Calls.{CallsBack}
use Rattle.plir_walk.specs.Step.{goes_on}
use Rattle.plir_walk.proofs.Hops.{hop-at, hop-none}
use Rattle.plir_walk.proofs.Walking.{begin, limited}
use Rattle.plir_walk.proofs.Visiting.{IsCounted, cursor, visit-broke, visit-moved, visit-ended, visit-smaller}
use Rattle.plir_walk.proofs.interruptible.mutable.walk.Goals as goal
use Rattle.plir_walk.proofs.interruptible.mutable.walk.Goals.{then-due+else-left-eq0, else-due}

pub nodes-init : goal.nodes-init
nodes-init g c =
    let look = g.C.NodeLinks.look in
    let w = c.args.config.now in
    let post = CallsBack g.F.Fn c.args.callback in
    let e = c.args.ctx.now in
    let st = c.args.state.now in (
      cursor look w post e st c.args.root c.args.limit e st c.args.root _ c.args.limit
          (begin look w post e st c.args.root c.args.limit c.forest.ensures c.requires.root_live),
      c.is_due-due.ensures,
    )

pub returns-then-left-eq0 : goal.returns-then-left-eq0
returns-then-left-eq0 g c =
    let w = c.args.config.now in
    let post = CallsBack g.F.Fn c.args.callback in
    limited g.C.NodeLinks.look w post c.args.ctx.now c.args.state.now c.args.root c.args.limit
    c.nodes.ctx c.nodes.state c.nodes.node c.nodes.entering c.nodes.left (record {}) c.nodes.invariant.0.walking
    (sym c.nodes.invariant.1 ∙ c.if-due.true) c.if-left-eq0.true

pub returns-in-Break : goal.returns-in-Break
returns-in-Break g c =
    let w = c.args.config.now in
    let post = CallsBack g.F.Fn c.args.callback in
    let due = c.nodes.due in
    let left = c.if-due.left in
    let counted : IsCounted due c.nodes.left left = elim c.if-due.branch [
      | then-due+else-left-eq0 v ↦
          subst (λ d. IsCounted d c.nodes.left left) (sym v.if-due.true) (v.if-left-eq0.false, v.left-is)
      | else-due v ↦ subst (λ d. IsCounted d c.nodes.left left) (sym v.if-due.false) v.left-is
    ] in
    visit-broke g.C.NodeLinks.look w post c.args.ctx.now c.args.state.now c.args.root c.requires.lawful c.args.limit
    c.nodes.ctx c.visit.new.ctx c.nodes.state c.visit.new.state c.nodes.node c.nodes.entering due c.nodes.left left
    c.visit.result c.nodes.invariant.0 c.nodes.invariant.1 counted c.visit.ensures.visited c.in-Break.b
    c.in-Break.is

pub nodes-preserved : goal.nodes-preserved
nodes-preserved g c =
    let w = c.args.config.now in
    let post = CallsBack g.F.Fn c.args.callback in
    let due = c.nodes.due in
    let r = c.args.root in
    let s = g.C.NodeLinks.look c.visit.new.ctx in
    let below = goes_on c.nodes.entering c.in-Continue.answer in
    let at = hop-at w s r c.nodes.node below _ c.onward.ensures c.in-Some.next c.in-Some.enter c.in-Some.call
    c.in-Some.is in
    let left = c.if-due.left in
    let counted : IsCounted due c.nodes.left left = elim c.if-due.branch [
      | then-due+else-left-eq0 v ↦
          subst (λ d. IsCounted d c.nodes.left left) (sym v.if-due.true) (v.if-left-eq0.false, v.left-is)
      | else-due v ↦ subst (λ d. IsCounted d c.nodes.left left) (sym v.if-due.false) v.left-is
    ] in (
      visit-moved g.C.NodeLinks.look w post c.args.ctx.now c.args.state.now c.args.root c.requires.lawful c.args.limit
          c.nodes.ctx c.visit.new.ctx c.nodes.state c.visit.new.state c.nodes.node c.nodes.entering due c.nodes.left
          left
          c.visit.result c.nodes.invariant.0 c.nodes.invariant.1 counted c.visit.ensures.visited c.in-Continue.answer
          c.in-Continue.is
          below refl _ at.0 c.in-Some.next c.in-Some.enter refl,
      at.1,
    )

pub returns-in-None : goal.returns-in-None
returns-in-None g c =
    let w = c.args.config.now in
    let post = CallsBack g.F.Fn c.args.callback in
    let due = c.nodes.due in
    let r = c.args.root in
    let s = g.C.NodeLinks.look c.visit.new.ctx in
    let below = goes_on c.nodes.entering c.in-Continue.answer in
    let left = c.if-due.left in
    let counted : IsCounted due c.nodes.left left = elim c.if-due.branch [
      | then-due+else-left-eq0 v ↦
          subst (λ d. IsCounted d c.nodes.left left) (sym v.if-due.true) (v.if-left-eq0.false, v.left-is)
      | else-due v ↦ subst (λ d. IsCounted d c.nodes.left left) (sym v.if-due.false) v.left-is
    ] in
    visit-ended g.C.NodeLinks.look w post c.args.ctx.now c.args.state.now c.args.root c.requires.lawful c.args.limit
    c.nodes.ctx c.visit.new.ctx c.nodes.state c.visit.new.state c.nodes.node c.nodes.entering due c.nodes.left left
    c.visit.result c.nodes.invariant.0 c.nodes.invariant.1 counted c.visit.ensures.visited c.in-Continue.answer
    c.in-Continue.is
    below refl _ (hop-none w s r c.nodes.node below _ c.onward.ensures c.in-None.is) refl

pub nodes-smaller : goal.nodes-smaller
nodes-smaller g c =
    let w = c.args.config.now in
    let post = CallsBack g.F.Fn c.args.callback in
    let due = c.nodes.due in
    let r = c.args.root in
    let s = g.C.NodeLinks.look c.visit.new.ctx in
    let below = goes_on c.nodes.entering c.in-Continue.answer in
    let at = hop-at w s r c.nodes.node below _ c.onward.ensures c.in-Some.next c.in-Some.enter c.in-Some.call
    c.in-Some.is in
    let left = c.if-due.left in
    let counted : IsCounted due c.nodes.left left = elim c.if-due.branch [
      | then-due+else-left-eq0 v ↦
          subst (λ d. IsCounted d c.nodes.left left) (sym v.if-due.true) (v.if-left-eq0.false, v.left-is)
      | else-due v ↦ subst (λ d. IsCounted d c.nodes.left left) (sym v.if-due.false) v.left-is
    ] in
    visit-smaller g.C.NodeLinks.look w post c.args.ctx.now c.args.state.now c.args.root c.requires.lawful c.args.limit
    c.nodes.ctx c.visit.new.ctx c.nodes.state c.visit.new.state c.nodes.node c.nodes.entering due c.nodes.left left
    c.visit.result c.nodes.invariant.0 c.nodes.invariant.1 counted c.visit.ensures.visited c.in-Continue.answer
    c.in-Continue.is
    below refl _ at.0 c.in-Some.next c.in-Some.enter refl
