use Rattle.std.proofs.Common.{sym, refl, subst}
use Rattle.plir_pipelines.specs.Options.{AreSet, AreSetRefused}
use Rattle.plir_pipelines.proofs.Answering.{if-err, if-ok}
use Rattle.plir_pipelines.proofs.Names.{name-refused}
use Rattle.plir_pipelines.proofs.passes.pass_in.Goals as goal

pub returns-in-Some-clause-named : goal.returns-in-Some-clause-named
returns-in-Some-clause-named g c =
    if-ok c.set_all.result (λ q set. (
      c.in-Some.pass,
      sym c.in-Some.ensures.first,
      subst (λ z. AreSet g.P.Offered.pass_name g.P.Offered.pass_options g.P.Offered.with_option z c.in-Some.pass q)
          c.as_slice.ensures.value set,
    )) c.set_all.ensures.set

pub returns-in-Some-clause-refused : goal.returns-in-Some-clause-refused
returns-in-Some-clause-refused g c =
    if-err c.set_all.result (λ e h. name-refused g.P.Offered.pass_name g.P.Offered.pass_options g.P.Offered.with_option
    c.args.offered.now c.args.step.now c.in-Some.pass (sym c.in-Some.ensures.first) e
    (subst (λ z. AreSetRefused g.P.Offered.pass_name g.P.Offered.pass_options g.P.Offered.with_option z c.in-Some.pass
    e) c.as_slice.ensures.value h)) c.set_all.ensures.refused

pub returns-in-None-clause-refused : goal.returns-in-None-clause-refused
returns-in-None-clause-refused g c = (refl, sym c.in-None.ensures.first)
