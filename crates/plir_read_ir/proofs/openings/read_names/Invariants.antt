use Rattle.std.proofs.Common.{length}
use Rattle.plir_read_ir.proofs.Begun.{NamesSoFar}
use Rattle.plir_read_ir.proofs.openings.read_names.Given as goal

abbrev pub invariant-names : goal.invariant-names
invariant-names l = NamesSoFar l.bytes l.spelled.items l.given.items l.rest

abbrev pub decreases-names : goal.decreases-names
decreases-names l = length l.rest
