use Rattle.std.proofs.Common.{◌≡◌, Some, sym, subst, ◌∙◌}
use Rattle.std.proofs.lemmas.Option.{same_Some}
use Rattle.plir_data.specs.AttrSeen.{attr_view}
use Rattle.plir_attr_text.specs.Writable.{IsWritable}
use Rattle.plir_builtin.specs.BuiltinOps.{value_of}
use Rattle.plir_roundtrip.proofs.nodes.is_value_writable.Goals as goal

pub returns-in-Some : goal.returns-in-Some
returns-in-Some g c =
    let s = c.args.ctx.now in
    let v = attr_view c.in-Some.value.now in
    let held : value_of s c.args.op ≡ Some v = sym c.in-Some.ensures.value in (
      λ t x e. subst (IsWritable s.types) (same_Some v x (c.in-Some.ensures.value ∙ e)) (c.is_writable.ensures.0 t),
      λ h. c.is_writable.ensures.1 (h v held),
    )
