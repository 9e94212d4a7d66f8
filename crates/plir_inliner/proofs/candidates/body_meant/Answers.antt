use Rattle.std.proofs.Common.{subst}
use Rattle.std.specs.Prelude.{IfSome}
use Rattle.plir_inliner.specs.Meaning.{Means}
use Rattle.plir_inliner.proofs.Meant.{body-meant, no-body-meant}
use Rattle.plir_inliner.proofs.candidates.body_meant.Goals as goal

pub returns-in-Some-clause-some : goal.returns-in-Some-clause-some
returns-in-Some-clause-some g c =
    let means =
    subst (λ o. IfSome o (Means g.D.OpSet.is_symbol g.D.OpSet.is_symbol_table g.D.CallSet.call c.args.ctx.now
    c.args.call)) c.in-Some.is c.in_ok-callee.ensures.some in
    body-meant g.D.OpSet.is_symbol g.D.OpSet.is_symbol_table g.D.CallSet.call c.args.ctx.now c.args.call
    c.in-Some.callee means c.function_body.result c.function_body.ensures.some

pub returns-in-Some-clause-none : goal.returns-in-Some-clause-none
returns-in-Some-clause-none g c = λ none b h.
    (let means =
    subst (λ o. IfSome o (Means g.D.OpSet.is_symbol g.D.OpSet.is_symbol_table g.D.CallSet.call c.args.ctx.now
    c.args.call)) c.in-Some.is c.in_ok-callee.ensures.some in
    no-body-meant g.D.OpSet.is_symbol g.D.OpSet.is_symbol_table g.D.CallSet.call c.args.ctx.now c.args.call
    c.in-Some.callee means c.function_body.result c.function_body.ensures.none none b h)

pub returns-in-None-clause-none : goal.returns-in-None-clause-none
returns-in-None-clause-none g c = λ _ b h. c.in_ok-callee.ensures.none c.in-None.is h.callee h.means
