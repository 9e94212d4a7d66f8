use Rattle.std.proofs.Common.{refl}
use Rattle.plir_core.specs.ContextView.{IsValueLive}
use Rattle.plir_core.proofs.context.Context.are_values_live.Goals as goal
use Rattle.plir_core.proofs.Ancestors.{AllSoFar-all}

pub returns : goal.returns
returns g c = (
  λ t. AllSoFar-all (λ v. IsValueLive c.args.self.now v) c.args.values.now c.loop-value.value-index
      c.loop-value.invariant c.loop-value-test.false,
  λ all. refl,
)
