use Rattle.plir_data.specs.LiveLaws.{listed_live, live_listed}
use Rattle.plir_data.proofs.laws.dictionaries_are_live_by_their_entries.Goals as goal

pub returns : goal.returns
returns g c = λ types es. (listed_live g.D.OpSet.attr_handles types es, live_listed g.D.OpSet.attr_handles types es)
