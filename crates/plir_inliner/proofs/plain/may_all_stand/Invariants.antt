use Rattle.std.proofs.Common.{take}
use Rattle.plir_core.specs.declared.ptr.Operation.{Operation as OperationKind}
use Rattle.plir_core.specs.declared.ptr.Ptr.{Ptr}
use Rattle.plir_store.specs.Members.{Has}
use Rattle.plir_inliner.specs.Plain.{MayStand}
use Rattle.plir_inliner.proofs.plain.may_all_stand.Given as goal

abbrev pub invariant-loop-op : goal.invariant-loop-op
invariant-loop-op g l =
    (p : Ptr OperationKind) → Has (take l.op-index l.ops) p →
    MayStand g.D.OpSet.is_symbol g.D.CallSet.call g.D.CallSet.returned l.ctx l.last p
