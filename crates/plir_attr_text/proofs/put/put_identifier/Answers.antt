use Rattle.std.proofs.Common.{◌∙◌, ◌++◌, ap, codes, string_bytes}
use Rattle.plir_data.specs.TextLaws.{on}
use Rattle.plir_attr_text.proofs.put.put_identifier.Goals as goal

pub returns : goal.returns
returns c = on (string_bytes c.args.out.now) (codes "builtin.identifier ") c.args.value.now.0 _ _ c.in_ok-put.ensures.ok
    (c.in_ok-put-2.ensures.ok ∙ ap (λ w. string_bytes c.put.new.out ++ w) (c.as_str.ensures.text ∙ c.as_ref.ensures))
