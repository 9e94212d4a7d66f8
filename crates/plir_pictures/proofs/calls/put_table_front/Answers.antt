use Rattle.std.proofs.Common.{string_bytes}
use Rattle.plir_data.specs.TextLaws.{five}
use Rattle.plir_pictures.proofs.calls.put_table_front.Goals as goal

pub returns : goal.returns
returns g c =
    five (string_bytes c.args.out.now) _ _ _ _ _ c.in_ok-put.ensures.ok c.in_ok-write.ensures.bytes
    c.in_ok-put-2.ensures.ok c.in_ok-put_name.ensures c.in_ok-put-3.ensures.ok
