use Rattle.std.proofs.Common.{length}
use Rattle.plir_read.proofs.NamesGiven.{AreGiven}
use Rattle.plir_read.proofs.openings.read_names.Given as goal

abbrev pub invariant-names : goal.invariant-names
invariant-names l = AreGiven l.bytes l.names.items l.rest

abbrev pub decreases-names : goal.decreases-names
decreases-names l = length l.rest
