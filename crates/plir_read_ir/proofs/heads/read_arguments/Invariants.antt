use Rattle.std.proofs.Common.{length}
use Rattle.plir_read_ir.specs.Spelling.{words}
use Rattle.plir_read_ir.proofs.Arguments.{ArgumentsSoFar}
use Rattle.plir_read_ir.proofs.heads.read_arguments.Given as goal

abbrev pub invariant-arguments : goal.invariant-arguments
invariant-arguments g l =
    ArgumentsSoFar g.C.TypeStore.types g.C.TypeStore.same_besides l.levels l.bytes l.initial.ctx l.ctx l.types.items
    l.names.items (words l.words.items) l.rest

abbrev pub decreases-arguments : goal.decreases-arguments
decreases-arguments g l = length l.rest
