use Rattle.std.proofs.Common.{refl}
use Rattle.plir_low_calls.proofs.data.entries.with_entry.Goals as goal

pub same-dict : goal.same-dict
same-dict g c = refl

pub same-dict-2 : goal.same-dict-2
same-dict-2 g c = refl
