use Rattle.std.proofs.Common.{refl}
use Rattle.plir_low_calls.proofs.data.entries.on_entry.Goals as goal

pub same-dict : goal.same-dict
same-dict g c = refl
