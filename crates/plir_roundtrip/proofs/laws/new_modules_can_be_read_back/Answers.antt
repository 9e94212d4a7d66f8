use Rattle.plir_roundtrip.proofs.NewModule.{new_module_readable}
use Rattle.plir_roundtrip.proofs.laws.new_modules_can_be_read_back.Goals as goal

pub returns : goal.returns
returns g c s p name whole good new = new_module_readable g.D.OpSet s (c.contexts_stand.ensures s whole) p name good new
