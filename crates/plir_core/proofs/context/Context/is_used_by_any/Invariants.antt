use Rattle.std.proofs.Common.{ℕ, ◌<◌}
use Rattle.plir_core.specs.ValueUses.{IsOperandAt}
use Rattle.plir_core.proofs.context.Context.is_used_by_any.Given as goal

abbrev pub invariant-loop-slot : goal.invariant-loop-slot
invariant-loop-slot g l = (k : ℕ) → k < l.slot → IsOperandAt l.self l.value k → ⊥
