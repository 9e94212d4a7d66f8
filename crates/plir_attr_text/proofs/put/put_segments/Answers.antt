use Rattle.std.proofs.Common.{◌∙◌, ◌++◌, ap, codes, string_bytes}
use Rattle.std.specs.Fmt.{decimal}
use Rattle.plir_data.specs.{TextParts.parted, TextLaws.three}
use Rattle.plir_attr_text.proofs.put.put_segments.Goals as goal

pub returns : goal.returns
returns c =
    let sizes = c.in_ok-put_sizes.ensures ∙
    ap (λ ns. string_bytes c.put.new.out ++ parted (codes ", ") decimal ns) (c.as_slice.ensures.value ∙ c.value.view_is)
    in
    three (string_bytes c.args.out.now) (codes "builtin.operand_segment_sizes [")
    (parted (codes ", ") decimal c.args.value.now)
    (codes "]") c.in_ok-put.ensures.ok sizes c.in_ok-put-2.ensures.ok
