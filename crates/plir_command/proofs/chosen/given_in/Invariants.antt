use Rattle.std.proofs.Common.{take}
use Rattle.clap.specs.Matches.{first_value, found_of}
use Rattle.plir_command.specs.Chosen.{AreFlagsGiven}
use Rattle.plir_command.proofs.chosen.given_in.Given as goal

-- the flags so far are given their numbers
abbrev pub invariant-loop-flag : goal.invariant-loop-flag
invariant-loop-flag l =
    AreFlagsGiven (first_value (found_of l.matches)) (take l.flag-index l.flags) l.given.items
