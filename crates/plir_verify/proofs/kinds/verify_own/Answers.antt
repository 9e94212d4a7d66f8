use Rattle.std.proofs.Common.{sym, subst}
use Rattle.plir_verify.specs.RuleRefusals.{IsKindVerdict}
use Rattle.plir_verify.proofs.OfKinds.{own-verdict}
use Rattle.plir_verify.proofs.kinds.verify_own.Goals as goal

pub returns : goal.returns
returns g c =
    let S = g.D.OpSet in
    let U = g.D.SymbolUserSet in
    let V = g.D.VerifySet in
    let s = c.args.ctx.now in
    let op = c.args.op in
    subst (λ z. IsKindVerdict S U.uses_hold U.use_refusal V.rule V.rule_refusal s op z) (sym c.of_own.ensures)
    (own-verdict S U.uses_hold V.rule s op U.use_refusal V.rule_refusal c.requires.of_kind
    c.verify_op.result c.verify_op.ensures.ok c.verify_op.ensures.refused)
