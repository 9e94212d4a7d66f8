use Rattle.std.proofs.Common.{arith}
use Rattle.std.proofs.lemmas.Result.{err_from_is_err_and}
use Rattle.plir_pipelines.proofs.Offering.{offered-all, offered-next, refused-at}
use Rattle.plir_pipelines.proofs.offer.check_offer.Goals as goal

pub loop-place-preserved : goal.loop-place-preserved
loop-place-preserved g c =
    offered-next g.P.Offered.pass_name c.args.passes.now c.loop-place.place c.index-passes-place.result (omega arith)
    c.index-passes-place.is c.loop-place.invariant c.in_ok-check_behind.ensures.offered

pub returns-in_err-check_behind-clause-refused : goal.returns-in_err-check_behind-clause-refused
returns-in_err-check_behind-clause-refused g c =
    let p = err_from_is_err_and c.from_residual.result c.from_residual.ensures.1 in
    rw (p.1, p.2) (refused-at g.P.Offered.pass_name c.args.passes.now c.loop-place.place c.index-passes-place.result
    (omega arith) c.index-passes-place.is c.in_err-check_behind.field-0.0 c.loop-place.invariant
    c.in_err-check_behind.ensures.refused)

pub returns-clause-offered : goal.returns-clause-offered
returns-clause-offered g c =
    offered-all g.P.Offered.pass_name c.args.passes.now c.loop-place.place (omega arith) c.loop-place.invariant
