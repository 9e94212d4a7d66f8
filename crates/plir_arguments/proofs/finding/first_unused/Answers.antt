use Rattle.std.proofs.Common.{inl, inr, subst, sym}
use Rattle.plir_core.specs.declared.value.DefiningEntity.TheVariants.{Block}
use Rattle.plir_core.specs.ValueUses.{HasUses}
use Rattle.plir_copies.specs.Copied.{value_at}
use Rattle.plir_arguments.proofs.Putting.{last-cases}
use Rattle.plir_arguments.proofs.finding.first_unused.Goals as goal

pub loop-place-preserved : goal.loop-place-preserved
loop-place-preserved g c = λ i below. elim (last-cases i c.loop-place.place below) [
  | inl before ↦ c.loop-place.invariant i before
  | inr same ↦
      subst (λ k. HasUses c.args.ctx.now (value_at (Block c.args.block) k)) (sym same)
      (subst (HasUses c.args.ctx.now) c.get_argument.ensures.value (c.has_uses.ensures.value.0 c.if-not-has_uses.false))
]
