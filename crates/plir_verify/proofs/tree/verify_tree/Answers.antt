use Rattle.std.proofs.Common.{subst}
use Rattle.plir_verify.specs.Rules.{HasRules}
use Rattle.plir_verify.specs.RuleRefusals.{IsCallVerdict, IsOpRefusal}
use Rattle.plir_verify.proofs.Walked.{all-right, first-refused}
use Rattle.plir_verify.proofs.Reported.{first-reported}
use Rattle.plir_verify.proofs.tree.verify_tree.Goals as goal

pub returns-in-Continue-clause-ok : goal.returns-in-Continue-clause-ok
returns-in-Continue-clause-ok g c =
    let S = g.D.OpSet in
    let U = g.D.SymbolUserSet in
    let V = g.D.VerifySet in
    let s = c.args.ctx.now in
    all-right _ _
    (λ d p a. IsCallVerdict S U.uses_hold U.use_refusal V.rule V.rule_refusal d (λ r. r.why) p a)
    (λ d t p a d' t' h. (
      h.stays,
      subst (λ z. IsCallVerdict S U.uses_hold U.use_refusal V.rule V.rule_refusal z (λ r. r.why) p a) h.shows.0
          h.met.1,
    ))
    s c.args.root _ _ (HasRules S U.uses_hold V.rule s)
    (λ p b. IsOpRefusal S U.uses_hold U.use_refusal V.rule V.rule_refusal s p b.why)
    (λ p k h. h) (λ p b h. h) _ _ c.in-Continue.is c.walk_ops.ensures

pub returns-in-Break-clause-refused : goal.returns-in-Break-clause-refused
returns-in-Break-clause-refused g c =
    let S = g.D.OpSet in
    let U = g.D.SymbolUserSet in
    let V = g.D.VerifySet in
    let s = c.args.ctx.now in
    let f = first-refused _ _
    (λ d p a. IsCallVerdict S U.uses_hold U.use_refusal V.rule V.rule_refusal d (λ r. r.why) p a)
    (λ d t p a d' t' h. (
      h.stays,
      subst (λ z. IsCallVerdict S U.uses_hold U.use_refusal V.rule V.rule_refusal z (λ r. r.why) p a) h.shows.0
          h.met.1,
    ))
    s c.args.root _ _ (HasRules S U.uses_hold V.rule s)
    (λ p b. IsOpRefusal S U.uses_hold U.use_refusal V.rule V.rule_refusal s p b.why)
    (λ p k h. h) (λ p b h. h) _ _ c.in-Break.is c.before_is_a_total_order.ensures c.walk_ops.ensures in
    first-reported S U.uses_hold U.use_refusal V.rule V.rule_refusal s c.args.root _ f.op f.under f.refused f.before
