use Rattle.std.proofs.Common.{codes, string_bytes}
use Rattle.plir_driver.specs.Dumps.{dump_head}
use Rattle.plir_driver.proofs.Logging.{dump-put}
use Rattle.plir_driver.proofs.dumps.put_dump.Goals as goal

pub returns-clause-asked : goal.returns-clause-asked
returns-clause-asked g c asked =
    let shown = c.in_ok-put_shown.ensures in (
      shown.0,
      shown.1,
      dump-put (string_bytes c.args.log.now) (dump_head c.args.moment.now c.args.name.now) shown.0 (codes "\n\n")
          (string_bytes c.put_head.new.log) (string_bytes c.put_shown.new.log) _ c.in_ok-put_head.ensures shown.2
          c.in_ok-push_str.ensures.bytes,
    )
