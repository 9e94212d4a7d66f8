use Rattle.plir_pictures.proofs.Levels.{level}
use Rattle.plir_pictures.proofs.laws.pictures_leave_out_no_level.Goals as goal

pub returns : goal.returns
returns g c s whole = level s (c.contexts_stand.ensures s whole)
