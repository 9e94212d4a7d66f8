use Rattle.std.proofs.Common.{List, ap}
use Rattle.std.specs.Prelude.{Vec}
use Rattle.std.specs.declared.alloc.Global.{Global}
use Rattle.plir_core.specs.declared.ptr.Ptr.{Ptr}
use Rattle.plir_core.specs.declared.ptr.Operation.{Operation as OperationKind}
use Rattle.plir_core.specs.declared.ptr.IRNode.TheVariants.{Operation}
use Rattle.plir_inliner.specs.Meaning.{calls_by_name}
use Rattle.plir_inliner.proofs.OpsWalked.{put-again, walked-ops}
use Rattle.plir_inliner.proofs.listing.calls_below.Goals as goal

abbrev items : Vec (Ptr OperationKind) Global → List (Ptr OperationKind)
items v = v.items

pub returns-in-Continue : goal.returns-in-Continue
returns-in-Continue g c =
    walked-ops (calls_by_name g.D.CallSet.call) c.args.ctx.now items (Operation c.args.root) _
    (λ d u p a d' u' h. (
      h.stays,
      put-again (calls_by_name g.D.CallSet.call) p a h.shows.0 (ap items h.shows.1) (ap items h.leaves)
          h.met.1,
    ))
    _ _ c.in-Continue.is _ _ c.new-calls.ensures.items c.walk_ops.ensures
