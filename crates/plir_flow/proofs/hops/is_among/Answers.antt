use Rattle.plir_flow.specs.Hops.{same_region}
use Rattle.plir_flow.proofs.Exact.{same-region-exact}
use Rattle.plir_flow.proofs.TakenLists.{any-is}
use Rattle.plir_flow.proofs.hops.is_among.Goals as goal

pub returns : goal.returns
returns c =
    let d = any-is same_region same-region-exact c.args.region c.args.regions.now in
    rw c.contains.ensures.value (d.0, d.1)
