use Rattle.std.proofs.Common.{ap, sym, ◌∙◌}
use Rattle.plir_pipelines.specs.Options.{place_of}
use Rattle.plir_pipelines.proofs.Sets.{place-below, rule-at, set-made}
use Rattle.plir_pipelines.proofs.options.set.Goals as goal

pub returns-in-Some-clause-set : goal.returns-in-Some-clause-set
returns-in-Some-clause-set g c =
    let found = ap (λ z. place_of z c.args.setting.name.now) (sym c.options-options.ensures)
    ∙ sym c.place_of.ensures ∙ c.in-Some.is in
    let below = place-below c.options-options.result.now c.args.setting.name.now c.in-Some.place
    (sym c.place_of.ensures ∙ c.in-Some.is) in
    set-made g.P.Offered.pass_name g.P.Offered.pass_options g.P.Offered.with_option c.set_at.result c.args.setting
    c.args.pass c.in-Some.place _ found
    (rule-at c.options-options.result.now (g.P.Offered.pass_options c.args.pass) c.in-Some.place _
    c.options-options.ensures below) c.set_at.ensures.set
