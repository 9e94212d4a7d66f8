use Rattle.std.proofs.Common.{◌+◌, ◌*◌, length}
use Rattle.plir_attr_text.specs.{TypeReading.type_at, TypesIn.IsInType, laws.Growth.NamesFront}
use Rattle.plir_attr_text.proofs.Gathering.{Gathers}
use Rattle.plir_attr_text.proofs.types.+types.Given as goal

abbrev pub decreases-read_type_at : goal.decreases-read_type_at
decreases-read_type_at g l = 3 * l.levels

abbrev pub decreases-read_function : goal.decreases-read_function
decreases-read_function g l = 3 * l.levels + 2

abbrev pub decreases-read_types : goal.decreases-read_types
decreases-read_types g l = 3 * l.levels + 1

abbrev pub decreases-read_types-types : goal.decreases-read_types-types
decreases-read_types-types g l = length l.rest

abbrev pub invariant-read_types-types : goal.invariant-read_types-types
invariant-read_types-types g l =
    Gathers g.C.TypeStore.types g.C.TypeStore.same_besides 40 41 (type_at l.levels) (IsInType l.levels) NamesFront
    l.bytes l.initial.ctx l.ctx l.types.items l.rest
