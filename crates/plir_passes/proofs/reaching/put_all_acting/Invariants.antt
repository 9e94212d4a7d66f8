use Rattle.std.proofs.Common.{◌≡◌, true, take}
use Rattle.plir_core.specs.ContextView.{kind_of}
use Rattle.plir_passes.specs.Legal.{is_kind}
use Rattle.plir_passes.specs.Marked.{IsGrown, ops_of}
use Rattle.plir_passes.specs.Reached.{acts}
use Rattle.plir_passes.proofs.Marking.{AnyOf}
use Rattle.plir_passes.proofs.reaching.put_all_acting.Given as goal

abbrev pub invariant-loop-place : goal.invariant-loop-place
invariant-loop-place g l =
    IsGrown (AnyOf (λ p q. (q ≡ p) × (is_kind (acts g.D.EffectSet.has_effect) (kind_of l.ctx p) ≡ true))
    (take l.place (ops_of l.under))) l.fn.reached l.reached
