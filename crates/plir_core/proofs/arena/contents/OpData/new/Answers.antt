use Rattle.std.proofs.Common.{refl}
use Rattle.plir_core.proofs.arena.contents.OpData.new.Goals as goal

pub same-result_types : goal.same-result_types
same-result_types g c = refl

pub same-attributes : goal.same-attributes
same-attributes g c = refl
