use Rattle.std.proofs.Common.{List, ap, true}
use Rattle.std.specs.Prelude.{Vec}
use Rattle.std.specs.declared.alloc.Global.{Global}
use Rattle.plir_core.specs.declared.ptr.Ptr.{Ptr}
use Rattle.plir_core.specs.declared.ptr.Operation.{Operation as OperationKind}
use Rattle.plir_core.specs.declared.ptr.IRNode.TheVariants.{BasicBlock}
use Rattle.plir_inliner.proofs.OpsWalked.{put-again, walked-ops}
use Rattle.plir_inliner.proofs.listing.ops_below.Goals as goal

abbrev items : Vec (Ptr OperationKind) Global → List (Ptr OperationKind)
items v = v.items

pub returns-in-Continue : goal.returns-in-Continue
returns-in-Continue g c =
    walked-ops (λ _ _. true) c.args.ctx.now items (BasicBlock c.args.block) _
    (λ d u p a d' u' h.
    (h.stays, put-again (λ _ _. true) p a h.shows.0 (ap items h.shows.1) (ap items h.leaves) h.met.1))
    _ _ c.in-Continue.is _ _ c.new-ops.ensures.items c.walk_ops.ensures
