use Rattle.plir_attr_text.specs.laws.SameNames.{same_handle}
use Rattle.plir_attr_text.proofs.laws.written_type_has_one_handle.Goals as goal

pub returns : goal.returns
returns g c types table t h k n m = same_handle g.D.OpSet.type_handles types table t h k n m
