use Rattle.std.proofs.Common.{◌≡◌, Some, IsOk, OnOk, IfErr, sym, subst}
use Rattle.std.proofs.lemmas.Bool.{false≢true}
use Rattle.plir_data.specs.declared.op_set.OpKind.TheVariants.{Func}
use Rattle.plir_core.specs.declared.ptr.IRNode.TheVariants.{Operation}
use Rattle.plir_core.specs.ContextView.{IsLive, kind_of}
use Rattle.plir_builtin.specs.OpRules.{HasFuncRules}
use Rattle.plir_builtin.specs.OpRefusals.{IsFuncRefusal}
use Rattle.plir_verify.specs.RuleRefusals.{IsKindVerdict}
use Rattle.plir_verify.proofs.OfKinds.{func-verdict}
use Rattle.plir_verify.proofs.kinds.verify_func.Goals as goal

pub verify_interfaces-requires : goal.verify_interfaces-requires
verify_interfaces-requires g c =
    subst (λ p. IsLive c.args.ctx.now (Operation p)) (sym c.in-Some.ensures.same) c.requires.live

pub returns : goal.returns
returns g c =
    let S = g.D.OpSet in
    let U = g.D.SymbolUserSet in
    let V = g.D.VerifySet in
    let s = c.args.ctx.now in
    let op = c.args.op in
    let r = c.verify_interfaces.result in
    let same = c.in-Some.ensures.same in
    subst (λ z. IsKindVerdict S U.uses_hold U.use_refusal V.rule V.rule_refusal s op z) (sym c.of_builtin.ensures)
    (func-verdict S U.uses_hold V.rule s op U.use_refusal V.rule_refusal c.requires.of_kind r
    (λ ok. subst (λ p. HasFuncRules s p) same (c.verify_interfaces.ensures.ok.0 ok))
    (subst (λ p. IfErr r (IsFuncRefusal s p)) same c.verify_interfaces.ensures.refused))

pub unreachable-requires : goal.unreachable-requires
unreachable-requires g c = false≢true (c.in-None.ensures.found.1 c.requires.of_kind)
