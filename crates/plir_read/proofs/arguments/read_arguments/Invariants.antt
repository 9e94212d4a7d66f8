use Rattle.std.proofs.Common.{length}
use Rattle.plir_read.proofs.NamesGiven.{Holds}
use Rattle.plir_read.proofs.arguments.read_arguments.Given as goal

abbrev pub invariant-arguments : goal.invariant-arguments
invariant-arguments g l =
    Holds g.C.TypeStore.types g.C.TypeStore.same_besides l.levels l.bytes l.initial.ctx l.ctx l.types.items
    l.names.items l.rest

abbrev pub decreases-arguments : goal.decreases-arguments
decreases-arguments g l = length l.rest
