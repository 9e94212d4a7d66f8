use Rattle.std.proofs.Common.{◌≡◌, ◌<◌, ℕ, Some}
use Rattle.std.specs.Prelude.{slice_get}
use Rattle.plir_core.specs.ContextView.{operands_of}
use Rattle.plir_core.specs.declared.value.Value.{Value}
use Rattle.plir_roundtrip.specs.IrReadable.{IsUseReadable}
use Rattle.plir_roundtrip.proofs.own.are_operands_readable.Given as goal

abbrev pub invariant-operands : goal.invariant-operands
invariant-operands g l =
    (j : ℕ) (v : Value) → j < l.place → slice_get (operands_of l.ctx l.op) j ≡ Some v →
    IsUseReadable g.D.OpSet g.D.ReadSet.find_kind l.ctx v
