use Rattle.plir_builtin.proofs.SoleBlocks.{one-of}
use Rattle.plir_builtin.proofs.table_links.ContextTableLinks.one_region.Goals as goal

pub returns : goal.returns
returns g c = one-of _ _ c.requires.one c.get_region.ensures.value
