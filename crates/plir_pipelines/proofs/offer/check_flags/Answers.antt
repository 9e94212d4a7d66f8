use Rattle.std.proofs.Common.{ap, arith, subst, sym, take, ◌∙◌}
use Rattle.std.proofs.lemmas.Result.{err_from_is_err_and}
use Rattle.plir_pipelines.specs.FlagOffers.{CanBeFlag, IsFlagClash, flag_bytes}
use Rattle.plir_pipelines.proofs.FlagOffering.{flag-refused-at, flags-all, flags-next}
use Rattle.plir_pipelines.proofs.offer.check_flags.Goals as goal

pub loop-place-preserved : goal.loop-place-preserved
loop-place-preserved g c =
    flags-next g.P.Offered.pass_name c.args.passes.now c.args.flags.now c.loop-place.place c.index-flags-place.result
    (omega arith) c.index-flags-place.is c.loop-place.invariant
    (subst (λ z. CanBeFlag g.P.Offered.pass_name c.args.passes.now (take c.loop-place.place c.args.flags.now) z)
    (c.as_str.ensures.value ∙ ap flag_bytes (sym c.index-flags-place.is)) c.in_ok-check_flag.ensures.offered)

pub returns-in_err-check_flag-clause-refused : goal.returns-in_err-check_flag-clause-refused
returns-in_err-check_flag-clause-refused g c =
    let p = err_from_is_err_and c.from_residual.result c.from_residual.ensures.1 in
    rw (p.1, p.2) (flag-refused-at g.P.Offered.pass_name c.args.passes.now c.args.flags.now c.loop-place.place
    c.index-flags-place.result (omega arith) c.index-flags-place.is c.in_err-check_flag.field-0.0
    c.loop-place.invariant
    (subst (λ z. IsFlagClash g.P.Offered.pass_name c.args.passes.now (take c.loop-place.place c.args.flags.now) z
    c.in_err-check_flag.field-0.0) (c.as_str.ensures.value ∙ ap flag_bytes (sym c.index-flags-place.is))
    c.in_err-check_flag.ensures.refused))

pub returns-clause-offered : goal.returns-clause-offered
returns-clause-offered g c =
    flags-all g.P.Offered.pass_name c.args.passes.now c.args.flags.now c.loop-place.place (omega arith)
    c.loop-place.invariant
