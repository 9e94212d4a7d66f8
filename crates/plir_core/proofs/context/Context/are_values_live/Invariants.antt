use Rattle.plir_core.specs.ContextView.{IsValueLive}
use Rattle.plir_core.proofs.Ancestors.{AllSoFar}
use Rattle.plir_core.proofs.context.Context.are_values_live.Given as goal

abbrev pub invariant-loop-value : goal.invariant-loop-value
invariant-loop-value g l = AllSoFar (λ v. IsValueLive l.self v) l.values l.value-index
