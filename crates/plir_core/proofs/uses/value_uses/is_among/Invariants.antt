use Rattle.std.proofs.Common.{◌≡◌}
use Rattle.plir_core.proofs.Ancestors.{AllSoFar}
use Rattle.plir_core.proofs.uses.value_uses.is_among.Given as goal

abbrev pub invariant-loop-other : goal.invariant-loop-other
invariant-loop-other l = AllSoFar (λ x. x ≡ l.value → ⊥) l.values l.other-index
