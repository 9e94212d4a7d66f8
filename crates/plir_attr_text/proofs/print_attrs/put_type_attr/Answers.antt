use Rattle.std.proofs.Common.{◌∙◌, ◌++◌, ap, codes, string_bytes}
use Rattle.plir_data.specs.{TypeText.type_text, TextLaws.on}
use Rattle.plir_attr_text.proofs.print_attrs.put_type_attr.Goals as goal

pub returns : goal.returns
returns g c =
    let text = type_text g.D.OpSet.type_id g.D.OpSet.type_body_text c.args.types.now in
    on (string_bytes c.args.out.now) (codes "builtin.type ") (text c.args.value.0) _ _ c.in_ok-put.ensures.ok
    (c.in_ok-put_type.ensures ∙ ap (λ h. string_bytes c.put.new.out ++ text h) c.get_type.ensures)
