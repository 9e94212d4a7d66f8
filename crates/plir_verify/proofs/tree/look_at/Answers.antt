use Rattle.std.proofs.Common.{refl, sym, subst}
use Rattle.plir_verify.specs.RuleRefusals.{IsCallVerdict}
use Rattle.plir_verify.proofs.tree.look_at.Goals as goal

pub returns-in-Ok : goal.returns-in-Ok
returns-in-Ok g c =
    subst (λ z. IsCallVerdict g.D.OpSet g.D.SymbolUserSet.uses_hold g.D.SymbolUserSet.use_refusal g.D.VerifySet.rule
    g.D.VerifySet.rule_refusal c.args.ctx.now (λ r. r.why) c.args.op z)
    (sym c.walk_advance.ensures) (refl, c.in-Ok.ensures)

pub returns-in-Err : goal.returns-in-Err
returns-in-Err g c =
    subst (λ z. IsCallVerdict g.D.OpSet g.D.SymbolUserSet.uses_hold g.D.SymbolUserSet.use_refusal g.D.VerifySet.rule
    g.D.VerifySet.rule_refusal c.args.ctx.now (λ r. r.why) c.args.op z)
    (sym c.walk_break.ensures) c.in-Err.ensures
