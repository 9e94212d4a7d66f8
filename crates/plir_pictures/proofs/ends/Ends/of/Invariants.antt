use Rattle.std.proofs.Common.{◌≡◌, take}
use Rattle.plir_core.specs.declared.ptr.Operation.{Operation as OperationKind}
use Rattle.plir_core.specs.declared.ptr.Ptr.{Ptr}
use Rattle.plir_pictures.specs.Ends.{has_end}
use Rattle.plir_pictures.specs.DrawnCalls.{is_end}
use Rattle.plir_pictures.proofs.ends.Ends.of.Given as goal

abbrev pub invariant-loop-edge : goal.invariant-loop-edge
invariant-loop-edge l = (p : Ptr OperationKind) → has_end l.ends p ≡ is_end (take l.edge-index l.edges) p
