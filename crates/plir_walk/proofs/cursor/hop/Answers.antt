use Rattle.std.proofs.Common.{◌≡◌, false, None, sym, subst, ◌∙◌}
use Rattle.plir_walk.specs.Step.{first_of, IsHop, IsNotDue}
use Rattle.plir_walk.proofs.Hops.{sink-past}
use Rattle.plir_walk.proofs.cursor.hop.Goals.{then-below+in_default+else-is_due, else-below}
use Rattle.plir_walk.proofs.cursor.hop.Goals as goal

pub returns : goal.returns
returns g c =
    let w = c.args.config.now in
    let s = g.C.NodeLinks.look c.args.ctx.now in
    let r = c.args.root in
    let n = c.args.node in
    elim c.if-below.branch [
      | then-below+in_default+else-is_due v ↦
          (let none : first_of w s n ≡ None = sym v.first_below.ensures ∙ v.in_default.is in
          let passed : IsNotDue w n false = sym v.is_due.ensures ∙ v.if-is_due.false in
          subst (λ b. IsHop w s r n b c.leave.result) (sym v.if-below.true)
          (sink-past w s r n none passed c.leave.result c.leave.ensures))
      | else-below v ↦ subst (λ b. IsHop w s r n b c.leave.result) (sym v.if-below.false) c.leave.ensures
    ]
