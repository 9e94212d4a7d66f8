use Rattle.std.proofs.Common.{[]}
use Rattle.plir_data.specs.TextLaws.{five}
use Rattle.plir_pictures.proofs.graph.draw.Goals as goal

pub returns : goal.returns
returns g c =
    five [] _ _ _ _ _ c.in_ok-text.ensures.ok c.in_ok-put_op_box.ensures c.in_ok-put_nested.ensures
    c.in_ok-put_nested-2.ensures c.in_ok-put.ensures.ok
