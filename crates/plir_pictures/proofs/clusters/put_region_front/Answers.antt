use Rattle.std.proofs.Common.{string_bytes, ◌∙◌}
use Rattle.plir_data.specs.TextLaws.{five}
use Rattle.plir_pictures.proofs.Marks.{labelled}
use Rattle.plir_pictures.proofs.clusters.put_region_front.Goals as goal

pub returns : goal.returns
returns g c =
    five (string_bytes c.args.out.now) _ _ _ _ _ c.in_ok-put.ensures.ok c.in_ok-write.ensures.bytes
    c.in_ok-put-2.ensures.ok
    (labelled _ _ _ _ c.in_ok-put_label.ensures (c.as_str.ensures.value ∙ c.in_ok-words.ensures))
    c.in_ok-put-3.ensures.ok
