use Rattle.std.proofs.Common.{[]}
use Rattle.plir_data.specs.TextLaws.{five}
use Rattle.plir_pictures.proofs.fronts.front_of.Goals as goal

pub returns : goal.returns
returns g c =
    five [] _ _ _ _ _ c.in_ok-out.ensures.ok c.in_ok-put_name.ensures c.in_ok-put.ensures.ok
    c.in_ok-put_arguments.ensures c.in_ok-put-2.ensures.ok
