use Rattle.std.proofs.Common.{◌≡◌, [], ap, arith, get_or, length, refl, subst, sym, ◌∙◌}
use Rattle.std.proofs.lemmas.List.{length-map}
use Rattle.std.proofs.lemmas.Result.{err_from_is_err_and}
use Rattle.plir_pipelines.specs.Flags.{IsNumberGiven, IsNumberRefused}
use Rattle.plir_pipelines.specs.Options.{rule_of}
use Rattle.plir_pipelines.proofs.Flagged.{number-refused, numbers-all, numbers-next, out-of-range}
use Rattle.plir_pipelines.proofs.Sets.{no_option, rule-at}
use Rattle.plir_pipelines.proofs.flags.configured_one.Goals as goal

pub loop-place-init : goal.loop-place-init
loop-place-init g c = record { numbers = []; many = refl; each = tt; is = refl; named = refl; same = refl }

pub returns-in_err-number-clause-refused : goal.returns-in_err-number-clause-refused
returns-in_err-number-clause-refused g c =
    let p = err_from_is_err_and c.from_residual.result c.from_residual.ensures.1 in
    rw (p.1, p.2) (number-refused g.P.Offered.pass_name g.P.Offered.pass_options g.P.Offered.with_option
    c.args.given.now c.args.pass c.loop-place.place _
    (rule-at c.options-options.result.now (g.P.Offered.pass_options c.args.pass) c.loop-place.place no_option
    c.options-options.ensures (omega arith)) c.in_err-number.field-0.0
    (subst (λ n. IsNumberRefused c.args.given.now n (rule_of (get_or c.options-options.result.now c.loop-place.place no_option)) c.in_err-number.field-0.0) c.name-name.ensures
    c.in_err-number.ensures.refused))

pub set_at-requires : goal.set_at-requires
set_at-requires g c =
    rule-at c.options-options.result.now (g.P.Offered.pass_options c.loop-place.configured) c.loop-place.place no_option
    (c.options-options.ensures ∙ sym c.loop-place.invariant.same) (omega arith)

pub returns-in_err-configured-clause-refused : goal.returns-in_err-configured-clause-refused
returns-in_err-configured-clause-refused g c =
    let p =
    err_from_is_err_and c.from_residual-in_err-configured.result c.from_residual-in_err-configured.ensures.1 in
    rw (p.1, p.2) (out-of-range g.P.Offered.pass_name g.P.Offered.pass_options g.P.Offered.with_option
    c.args.given.now c.args.pass c.loop-place.place _
    (rule-at c.options-options.result.now (g.P.Offered.pass_options c.args.pass) c.loop-place.place no_option
    c.options-options.ensures (omega arith)) c.loop-place.configured c.in_ok-number.number c.loop-place.invariant
    (subst (λ n. IsNumberGiven c.args.given.now n (rule_of (get_or c.options-options.result.now c.loop-place.place no_option)) c.in_ok-number.number) c.name-name.ensures
    c.in_ok-number.ensures.given) c.in_err-configured.field-0.0 c.in_err-configured.ensures.refused)

pub loop-place-preserved : goal.loop-place-preserved
loop-place-preserved g c =
    numbers-next g.P.Offered.pass_name g.P.Offered.pass_options g.P.Offered.with_option c.args.given.now c.args.pass
    c.loop-place.place _
    (rule-at c.options-options.result.now (g.P.Offered.pass_options c.args.pass) c.loop-place.place no_option
    c.options-options.ensures (omega arith)) c.loop-place.configured c.in_ok-configured.configured
    c.in_ok-number.number c.loop-place.invariant
    (subst (λ n. IsNumberGiven c.args.given.now n (rule_of (get_or c.options-options.result.now c.loop-place.place no_option)) c.in_ok-number.number) c.name-name.ensures
    c.in_ok-number.ensures.given) c.in_ok-configured.ensures.set c.in_ok-configured.ensures.named
    c.in_ok-configured.ensures.same

pub returns-clause-configured : goal.returns-clause-configured
returns-clause-configured g c =
    let many : length (g.P.Offered.pass_options c.args.pass) ≡ length c.options-options.result.now =
    ap length (sym c.options-options.ensures) ∙ length-map c.options-options.result.now rule_of in
    numbers-all g.P.Offered.pass_name g.P.Offered.pass_options g.P.Offered.with_option c.args.given.now c.args.pass
    c.loop-place.place c.loop-place.configured (omega (arith, many)) c.loop-place.invariant
