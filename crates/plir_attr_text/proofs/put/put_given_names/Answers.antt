use Rattle.std.proofs.Common.{◌∙◌, ◌++◌, ap, codes, string_bytes}
use Rattle.plir_attr_text.specs.Written.{name_or_mark}
use Rattle.plir_data.specs.{TextParts.parted, TextLaws.three}
use Rattle.plir_attr_text.proofs.put.put_given_names.Goals as goal

pub returns : goal.returns
returns c =
    let names = c.in_ok-put_names.ensures ∙
    ap (λ ns. string_bytes c.put.new.out ++ parted (codes ", ") name_or_mark ns) c.names.ensures in
    three (string_bytes c.args.out.now) (codes "builtin.given_names [") (parted (codes ", ") name_or_mark
    c.args.value.now)
    (codes "]") c.in_ok-put.ensures.ok names c.in_ok-put-2.ensures.ok
