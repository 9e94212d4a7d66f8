use Rattle.std.proofs.Common.{◌≡◌, ◌<◌, ℕ, Some}
use Rattle.std.specs.Prelude.{slice_get}
use Rattle.plir_core.specs.ContextView.{operands_of}
use Rattle.plir_core.specs.declared.ptr.IRNode.TheVariants.{Operation}
use Rattle.plir_core.specs.declared.value.Value.{Value}
use Rattle.plir_roundtrip.specs.UsesWithin.{IsWithinReach}
use Rattle.plir_roundtrip.proofs.reach.far_operand.Given as goal

abbrev pub invariant-operands : goal.invariant-operands
invariant-operands g l =
    (j : ℕ) (v : Value) → j < l.place → slice_get (operands_of l.ctx l.op) j ≡ Some v →
    IsWithinReach g.D.ReadSet.is_isolated l.ctx (Operation l.root) l.op v
