use Rattle.std.proofs.Common.{◌≡◌, false, take}
use Rattle.plir_store.specs.Members.{Has}
use Rattle.plir_core.specs.declared.ptr.Operation.{Operation as OperationKind}
use Rattle.plir_core.specs.declared.ptr.Ptr.{Ptr}
use Rattle.plir_passes.specs.Cutting.{IsCut, IsLoose, UsesNothing}
use Rattle.plir_passes.specs.Marked.{is_among, ops_of}
use Rattle.plir_passes.proofs.unreached_code.cut_all.Given as goal

abbrev pub invariant-loop-place : goal.invariant-loop-place
invariant-loop-place g l = record {
  cut : IsCut (IsLoose l.under l.reached) l.fn.ctx l.ctx;
  none : (q : Ptr OperationKind) → Has (take l.place (ops_of l.under)) q → is_among (ops_of l.reached) q ≡ false →
      UsesNothing l.ctx q;
}
