use Rattle.std.proofs.Common.{List, ap}
use Rattle.std.specs.Prelude.{Vec}
use Rattle.std.specs.declared.alloc.Global.{Global}
use Rattle.plir_core.specs.declared.ptr.Ptr.{Ptr}
use Rattle.plir_core.specs.declared.ptr.Operation.{Operation as OperationKind}
use Rattle.plir_flow_sets.proofs.SitesWalked.{walked-sites, put-again}
use Rattle.plir_flow_sets.proofs.searching.call_sites.Goals as goal

abbrev items : Vec (Ptr OperationKind) Global → List (Ptr OperationKind)
items v = v.items

pub returns-in-Continue : goal.returns-in-Continue
returns-in-Continue g c =
    let calls = g.D.CallSet.call in
    let name = c.args.name.now in
    walked-sites calls name c.args.ctx.now items c.args.root _
    (λ d u p a d' u' h.
    (h.stays, put-again calls name p a h.shows.0 (ap items h.shows.1) (ap items h.leaves) h.met.1))
    _ _ c.in-Continue.is _ _ c.new-sites.ensures.items c.walk_ops.ensures
