use Rattle.plir_data.proofs.TypeTrees.{tree_of-over}
use Rattle.plir_data.proofs.laws.tree_of_a_handle.Goals as goal

pub returns : goal.returns
returns g c types whole = tree_of-over g.D.OpSet.type_handles types whole
