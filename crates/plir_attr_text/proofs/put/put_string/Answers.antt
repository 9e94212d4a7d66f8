use Rattle.std.proofs.Common.{◌∙◌, ◌++◌, ap, codes, string_bytes}
use Rattle.plir_attr_text.specs.Written.{quotation}
use Rattle.plir_data.specs.TextLaws.{on}
use Rattle.plir_attr_text.proofs.put.put_string.Goals as goal

pub returns : goal.returns
returns c = on (string_bytes c.args.out.now) (codes "builtin.string ") (quotation c.args.value.now) _ _
    c.in_ok-put.ensures.ok
    (c.in_ok-put_quotation.ensures ∙ ap (λ w. string_bytes c.put.new.out ++ quotation w) c.as_str.ensures)
