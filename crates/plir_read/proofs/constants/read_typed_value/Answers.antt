use Rattle.std.proofs.Common.{refl, ◌≡◌, inl, inr, ℕ, List}
use Rattle.plir_attr_text.specs.laws.Meanings.{IsMeant-grown}
use Rattle.plir_attr_text.specs.laws.TypeSteps.{behind_is}
use Rattle.plir_attr_text.specs.Terms.{AttrTerm, TypeTerm}
use Rattle.plir_read.proofs.OpSteps.{constant_is}
use Rattle.plir_read.specs.laws.OpEnds.{constant_type_start}
use Rattle.plir_read.specs.laws.TypesNamed.{type_named, named_on}
use Rattle.plir_attr_text.specs.laws.StepLaws.{done}
use Rattle.plir_attr_text.specs.laws.Growth.{named_by}
use Rattle.plir_attr_text.specs.Parts.{IsPartOf, IsHeldBy}
use Rattle.plir_attr_text.specs.laws.PartsFound.{type_part}
use Rattle.plir_read.specs.HeldTypes.{IsHeldByConstant}
use Rattle.plir_read.specs.OpReading.{constant_at}
use Rattle.plir_read.proofs.Held.{both_come, held_is}
use Rattle.plir_read.proofs.constants.read_typed_value.Goals as goal

pub returns-in-Ok-read_type_at-clause-read : goal.returns-in-Ok-read_type_at-clause-read
returns-in-Ok-read_type_at-clause-read g c =
    let v = c.in-Ok.ensures.read in
    let t = c.in-Ok-read_type_at.ensures.read in (
      ((v.0.0, t.0.0), c.in-Ok-read_type_at.read.1.now),
      constant_is c.args.levels _ _ _ _ v.0.0 t.0.0 (behind_is _ v.0 c.in-Ok.read.1.now v.1 v.2.1) c.in_ok-colon.ensures
          (behind_is _ t.0 c.in-Ok-read_type_at.read.1.now t.1 t.2.1),
      (record { meant = IsMeant-grown _ _ c.in-Ok-read_type_at.ensures.kept.grown v.0.0 _ v.2.0; typed = t.2.0 }, refl),
    )

pub returns-in-Ok-read_type_at-clause-named : goal.returns-in-Ok-read_type_at-clause-named
returns-in-Ok-read_type_at-clause-named g c =
    let v = c.in-Ok.ensures.read in
    let t = c.in-Ok-read_type_at.ensures.kept in
    named_on _ _ _ _ t.grown c.in-Ok.ensures.named
    (type_named c.args.levels _ _ _ _
    (constant_type_start c.args.levels _ v.0.0 _ _ (behind_is _ v.0 c.in-Ok.read.1.now v.1 v.2.1)
    c.in_ok-colon.ensures) t.named)

pub returns-in-Err-read_type_at-clause-named : goal.returns-in-Err-read_type_at-clause-named
returns-in-Err-read_type_at-clause-named g c =
    let v = c.in-Ok.ensures.read in
    let t = c.in-Err-read_type_at.ensures.kept in
    named_on _ _ _ _ t.grown c.in-Ok.ensures.named
    (type_named c.args.levels _ _ _ _
    (constant_type_start c.args.levels _ v.0.0 _ _ (behind_is _ v.0 c.in-Ok.read.1.now v.1 v.2.1)
    c.in_ok-colon.ensures) t.named)

pub returns-in-Ok-read_type_at-clause-held : goal.returns-in-Ok-read_type_at-clause-held
returns-in-Ok-read_type_at-clause-held g c =
    let v = c.in-Ok.ensures.read in
    let r = c.in-Ok-read_type_at.ensures.read in
    let k = c.in-Ok-read_type_at.ensures.kept in
    let z : (AttrTerm × TypeTerm) × List ℕ = ((v.0.0, r.0.0), c.in-Ok-read_type_at.read.1.now) in
    let whole : constant_at c.args.levels c.args.bytes.now ≡ done z =
    constant_is c.args.levels _ _ _ _ v.0.0 r.0.0 (behind_is _ v.0 c.in-Ok.read.1.now v.1 v.2.1) c.in_ok-colon.ensures
    (behind_is _ r.0 c.in-Ok-read_type_at.read.1.now r.1 r.2.1) in
    let type = named_by _ (λ u. IsPartOf u r.0.0) (λ u w. type_part c.args.levels _ r.0 u r.1 w) _ _ k.named in
    λ x e. held_is IsHeldByConstant _ z x _ _ whole e
    (both_come (λ u. IsHeldBy u v.0.0) (λ u. IsPartOf u r.0.0) (λ u. IsHeldByConstant u (v.0.0, r.0.0))
    (λ u p. inl p) (λ u p. inr p) _ _ _ k.grown (c.in-Ok.ensures.held v.0 v.1) type)
