use Rattle.std.proofs.Common.{ap, subst, sym}
use Rattle.std.proofs.lemmas.Result.{err_from_is_err_and}
use Rattle.plir_core.specs.declared.ptr.IRNode.TheVariants.{Operation, Region}
use Rattle.plir_core.specs.Grown.{IsGrown}
use Rattle.plir_core.specs.RoomLaws.{region_comes, region_full}
use Rattle.plir_copies.proofs.Children.{grown-none}
use Rattle.plir_copies.proofs.trees.add_region_to.Goals as goal

pub returns-clause-types : goal.returns-clause-types
returns-clause-types g c = ap (λ z. z.types) c.in_ok-region.ensures.ok

pub returns-clause-grown : goal.returns-clause-grown
returns-clause-grown g c =
    c.growth.ensures.region c.add_region.new.ctx.nodes (Operation c.args.op) (Region c.in_ok-region.region)
    c.in_ok-region.ensures.added

pub returns-in_err-region-clause-types : goal.returns-in_err-region-clause-types
returns-in_err-region-clause-types g c = ap (λ z. z.types) c.in_err-region.ensures.err

pub returns-in_err-region-clause-grown : goal.returns-in_err-region-clause-grown
returns-in_err-region-clause-grown g c =
    subst (λ z. IsGrown c.args.ctx.now.nodes z.nodes (Operation c.args.op)) (sym c.in_err-region.ensures.err)
    (grown-none c.args.ctx.now (Operation c.args.op))

pub returns-clause-come : goal.returns-clause-come
returns-clause-come g c =
    region_comes c.args.ctx.now c.stands.ensures.whole.stored c.add_region.new.ctx c.args.op c.in_ok-region.ensures.ok

pub returns-in_err-region-clause-full : goal.returns-in_err-region-clause-full
returns-in_err-region-clause-full g c =
    let p = err_from_is_err_and c.from_residual.result c.from_residual.ensures.1 in
    rw (p.1, p.2) (λ e. region_full c.args.ctx.now.nodes c.stands.ensures.whole.stored
    (c.in_err-region.ensures.too_many.0 e))
