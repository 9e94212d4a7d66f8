use Rattle.std.proofs.Common.{◌≡◌, ◌∙◌, ◌++◌, ap, codes, string_bytes}
use Rattle.plir_data.specs.{Integers.literal, Types.type_at, TypeText.type_text, TextLaws.five}
use Rattle.plir_attr_text.specs.AttrText.{is_signed, bare_text}
use Rattle.plir_attr_text.proofs.print_attrs.put_integer.Goals as goal

pub returns : goal.returns
returns g c =
    let types = c.args.types.now in
    let same : c.into-handle.result ≡ c.args.value.now.ty = c.into-handle.ensures ∙ c.get_type.ensures in
    let signed : c.is_signed.result ≡ is_signed (type_at types c.args.value.now.ty) = c.is_signed.ensures ∙
    ap (λ h. is_signed (type_at types h)) same in
    let value = c.in_ok-put_literal.ensures ∙
    ap (λ s. string_bytes c.put.new.out ++ literal s c.value.result.width c.value.result.bits) signed ∙
    ap (λ v. string_bytes c.put.new.out ++ literal (is_signed (type_at types c.args.value.now.ty)) v.width v.bits)
    c.value.ensures in
    let type = c.in_ok-put_bare_type.ensures ∙
    ap (λ h. string_bytes c.put-2.new.out ++
    bare_text (type_text g.D.OpSet.type_id g.D.OpSet.type_body_text types h) (type_at types h)) same in
    let unnamed = bare_text (type_text g.D.OpSet.type_id g.D.OpSet.type_body_text types c.args.value.now.ty)
    (type_at types c.args.value.now.ty) in
    five (string_bytes c.args.out.now) (codes "builtin.integer <")
    (literal (is_signed (type_at types c.args.value.now.ty)) c.args.value.now.value.width
    c.args.value.now.value.bits) (codes ": ") unnamed (codes ">") c.in_ok-put.ensures.ok value
    c.in_ok-put-2.ensures.ok type c.in_ok-put-3.ensures.ok
