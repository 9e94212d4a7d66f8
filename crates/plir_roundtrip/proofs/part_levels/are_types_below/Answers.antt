use Rattle.std.proofs.Common.{◌≡◌, ◌<◌, true, refl, sym, subst, arith}
use Rattle.plir_roundtrip.specs.WrittenLevels.{value_levels}
use Rattle.plir_roundtrip.proofs.Asked.{low_passed, low_failed}
use Rattle.plir_roundtrip.proofs.PartLevels.{first_from, none_from}
use Rattle.plir_roundtrip.proofs.part_levels.are_types_below.Goals as goal

pub places-preserved : goal.places-preserved
places-preserved g c =
    let passed : c.is_type_below.result ≡ true = cc in
    low_passed _ _ _ _ c.args.left
    (first_from c.args.ctx.now c.args.entity c.places.place c.type_at.result c.type_at.ensures.value)
    (c.is_type_below.ensures.0 passed) c.places.invariant

pub returns-then-not-is_type_below : goal.returns-then-not-is_type_below
returns-then-not-is_type_below g c = (
  λ h. absurd (let f : ⊥ = cc in f),
  λ all. absurd (low_failed _ _ _ _ c.args.left
      (first_from c.args.ctx.now c.args.entity c.places.place c.type_at.result c.type_at.ensures.value) (λ h.
      let passed : c.is_type_below.result ≡ true = c.is_type_below.ensures.1 h in
      let f : ⊥ = cc in f) c.places.invariant all),
)

pub returns : goal.returns
returns g c = (
  λ t. c.places.invariant.0 (subst (λ vs. value_levels c.args.ctx.now vs < c.args.left)
      (sym (none_from c.args.ctx.now c.args.entity c.places.place (omega arith))) c.requires.some),
  λ h. refl,
)
