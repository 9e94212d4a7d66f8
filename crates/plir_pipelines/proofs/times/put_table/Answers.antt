use Rattle.std.proofs.Common.{string_bytes}
use Rattle.plir_pipelines.proofs.Tables.{table-put}
use Rattle.plir_pipelines.proofs.times.put_table.Goals as goal

pub returns : goal.returns
returns c =
    table-put c.put_line.result c.args.times.now c.args.first c.args.last c.total_nanos-nanos.result
    (string_bytes c.args.out.now) (string_bytes c.push_str.new.self) (string_bytes c.put_lines.new.out)
    (string_bytes c.put_line.new.out) c.total_nanos-nanos.ensures c.in_ok-push_str.ensures.bytes
    c.in_ok-put_lines.ensures c.put_line.ensures
