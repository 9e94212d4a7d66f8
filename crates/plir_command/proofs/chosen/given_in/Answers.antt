use Rattle.std.proofs.Common.{arith}
use Rattle.clap.specs.Matches.{first_value, found_of}
use Rattle.plir_command.proofs.Choosing.{given-next}
use Rattle.plir_command.proofs.chosen.given_in.Goals as goal

pub loop-flag-preserved : goal.loop-flag-preserved
loop-flag-preserved c =
    given-next (first_value (found_of c.args.matches.now)) c.args.flags.now c.loop-flag.flag-index c.flag-item.result
    c.as_str.result.now c.loop-flag.given.items c.put_given.new.given.items (omega arith) c.flag-item.is
    c.as_str.ensures.value c.loop-flag.invariant c.in_ok-put_given.ensures
