use Rattle.plir_core.proofs.ValueUses.{not_among}
use Rattle.plir_core.proofs.uses.value_uses.is_among.Goals as goal

pub returns : goal.returns
returns c = (
  λ t. absurd (let f : ⊥ = cc in f),
  λ h. absurd (not_among c.args.values.now c.args.value
      c.loop-other.other-index c.loop-other.invariant c.loop-other-test.false h),
)
