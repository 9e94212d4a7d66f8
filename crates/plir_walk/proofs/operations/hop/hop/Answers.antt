use Rattle.std.proofs.Common.{◌≡◌, true, false, Some, sym, subst, ◌∙◌}
use Rattle.plir_walk.specs.OperationSteps.{IsOperationHop, SinksIf}
use Rattle.plir_walk.specs.Step.{IsHop, IsNotDue}
use Rattle.plir_walk.proofs.OperationHops.{hop-down, hop-left, hop-sunk, sunk}
use Rattle.plir_walk.proofs.operations.hop.hop.Goals.{then-below+else-entering+else-is_due, else-below}
use Rattle.plir_walk.proofs.operations.hop.hop.Goals as goal

pub returns-then-entering : goal.returns-then-entering
returns-then-entering g c =
    let w = c.args.config.now in
    let s = g.C.NodeLinks.look c.args.ctx.now in
    let r = c.args.root in
    let n = c.args.node in
    let sinks = sunk w s c.sink_if-low.result c.if-below.true c.if-entering.true c.sink_if-low.ensures.sinks in
    subst (λ b. IsOperationHop w s r n b (Some c.cursor_at.result)) (sym c.if-below.true)
    (subst (λ v. IsOperationHop w s r n true (Some v)) (sym c.cursor_at.ensures) (hop-down w s r n _ sinks))

pub returns-then-is_due : goal.returns-then-is_due
returns-then-is_due g c =
    let w = c.args.config.now in
    let s = g.C.NodeLinks.look c.args.ctx.now in
    subst (λ b. IsOperationHop w s c.args.root c.args.node b (Some (c.sink_if-low.result.0, false, true)))
    (sym c.if-below.true) (
      sunk w s c.sink_if-low.result c.if-below.true c.if-entering.false c.sink_if-low.ensures.sinks c.args.root,
      sym c.if-is_due.true ∙ c.is_due.ensures,
    )

pub returns : goal.returns
returns g c =
    let w = c.args.config.now in
    let s = g.C.NodeLinks.look c.args.ctx.now in
    let r = c.args.root in
    let n = c.args.node in
    let low = c.sink_if-low.result.0 in
    elim c.if-below.branch [
      | then-below+else-entering+else-is_due v ↦
          (let sinks = sunk w s c.sink_if-low.result v.if-below.true v.if-entering.false c.sink_if-low.ensures.sinks in
          let passed : IsNotDue w low false = sym v.is_due.ensures ∙ v.if-is_due.false in
          subst (λ b. IsOperationHop w s r n b c.leave.result) (sym v.if-below.true)
          (hop-sunk w s r n low c.leave.result sinks passed c.leave.ensures))
      | else-below v ↦
          (let stays : c.sink_if-low.result ≡ (n, false) =
          subst (λ b. SinksIf b w s n c.sink_if-low.result) v.if-below.false c.sink_if-low.ensures.sinks in
          let left : IsHop w s r n false c.leave.result =
          subst (λ m. IsHop w s r m.0 false c.leave.result) stays c.leave.ensures in
          subst (λ b. IsOperationHop w s r n b c.leave.result) (sym v.if-below.false)
          (hop-left w s r n c.leave.result left))
    ]
