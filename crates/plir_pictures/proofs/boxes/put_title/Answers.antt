use Rattle.std.proofs.Common.{string_bytes, ◌∙◌}
use Rattle.plir_data.specs.TextLaws.{three}
use Rattle.plir_pictures.proofs.Marks.{labelled}
use Rattle.plir_pictures.proofs.boxes.put_title.Goals as goal

pub returns : goal.returns
returns g c =
    three (string_bytes c.args.out.now) _ _ _ c.in_ok-put.ensures.ok
    (labelled _ _ _ _ c.in_ok-put_label.ensures (c.as_str.ensures.value ∙ c.in_ok-front.ensures))
    c.in_ok-put-2.ensures.ok
