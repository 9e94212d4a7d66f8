use Rattle.std.proofs.Common.{◌∙◌, ap, refl}
use Rattle.plir_data.specs.AttrView as views
use Rattle.plir_attr_text.specs.Terms as terms
use Rattle.plir_attr_text.specs.{Terms.integer_type, Steps.read_as, laws.Growth.Adds-one}
use Rattle.plir_attr_text.proofs.attrs.read_integer_attr.Goals as goal

pub returns-clause-read : goal.returns-clause-read
returns-clause-read g c =
    let v = c.in_ok-ty.ensures in
    let n = c.new.result.value in
    let handle = c.in_ok-handle.handle in
    let seen = ap (λ h. views.leaf (views.integer h n.width n.bits)) c.new.ensures.ty ∙
    ap (λ m. views.leaf (views.integer handle m.width m.bits)) c.new.ensures.value ∙
    ap (λ w. views.leaf (views.integer handle w c.in_ok-ty.value.bits)) v.width in (
      (terms.integer c.in_ok-ty.ty.0 c.in_ok-ty.ty.1 c.in_ok-ty.value.bits, c.in_ok-ty.rest.now),
      ap (read_as (λ v. terms.integer v.0.0 v.0.1 v.1)) v.value,
      ((handle, c.in_ok-handle.ensures.ok.named, seen), refl),
    )

pub returns-clause-kept : goal.returns-clause-kept
returns-clause-kept g c =
    let v = c.in_ok-ty in
    let h = c.in_ok-handle.ensures in
    Adds-one _ _ _ _ (integer_type v.ty.0 v.ty.1) (((v.ty, v.value.bits), v.rest.now), v.ensures.value, refl) (λ k e. e)
    h.ok h.rest
