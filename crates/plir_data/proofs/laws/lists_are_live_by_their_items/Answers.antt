use Rattle.plir_data.specs.LiveLaws.{items_listed, listed_items}
use Rattle.plir_data.proofs.laws.lists_are_live_by_their_items.Goals as goal

pub returns : goal.returns
returns g c = λ types xs. (items_listed g.D.OpSet.attr_handles types xs, listed_items g.D.OpSet.attr_handles types xs)
