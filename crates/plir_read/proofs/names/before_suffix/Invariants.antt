use Rattle.std.proofs.Common.{length}
use Rattle.plir_read.proofs.NamesGiven.{IsSought}
use Rattle.plir_read.proofs.names.before_suffix.Given as goal

abbrev pub invariant-bytes : goal.invariant-bytes
invariant-bytes l = IsSought l.suffix l.word l.rest

abbrev pub decreases-bytes : goal.decreases-bytes
decreases-bytes l = length l.rest
