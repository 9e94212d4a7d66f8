use Rattle.std.proofs.Common.{◌≡◌, true, false, arith, refl, sym, ap, ◌∙◌, length}
use Rattle.std.proofs.lemmas.List.{nil_from_length}
use Rattle.plir_passes.specs.Dead.{is_removable}
use Rattle.plir_passes.specs.Legal.{is_kind}
use Rattle.plir_passes.proofs.dead_code.may_go.Goals as goal

pub returns-then-not-is_removable : goal.returns-then-not-is_removable
returns-then-not-is_removable g c = (
  λ h. let b : true ≡ false = sym h in cc,
  λ d. c.if-not-is_removable.ensures
      ∙ sym (ap (is_kind (is_removable g.D.EffectSet.has_effect g.D.OpSet.is_terminator)) c.kind.ensures.value)
      ∙ d.removable,
)

pub returns-then-num_regions-gt0 : goal.returns-then-num_regions-gt0
returns-then-num_regions-gt0 g c = (
  λ h. let b : true ≡ false = sym h in cc,
  λ d. absurd (omega (arith, c.num_regions.ensures.value, c.if-num_regions-gt0.true, ap length d.no_region)),
)

pub returns : goal.returns
returns g c = (
  λ h. record {
    removable =
        ap (is_kind (is_removable g.D.EffectSet.has_effect g.D.OpSet.is_terminator)) c.kind.ensures.value
        ∙ sym c.if-not-is_removable.ensures;
    no_region = nil_from_length _ (omega (arith, c.num_regions.ensures.value, c.if-num_regions-gt0.false));
  },
  λ d. refl,
)
