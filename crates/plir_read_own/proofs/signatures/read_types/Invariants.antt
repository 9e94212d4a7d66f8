use Rattle.std.proofs.Common.{length}
use Rattle.plir_read_own.specs.laws.TypeLists.{Holds}
use Rattle.plir_read_own.proofs.signatures.read_types.Given as goal

abbrev pub invariant-types : goal.invariant-types
invariant-types g l =
    Holds g.C.TypeStore.types g.C.TypeStore.same_besides l.levels l.bytes l.initial.ctx l.ctx l.types.items l.rest

abbrev pub decreases-types : goal.decreases-types
decreases-types g l = length l.rest
