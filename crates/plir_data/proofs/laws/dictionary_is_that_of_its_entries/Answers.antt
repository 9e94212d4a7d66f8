use Rattle.plir_data.proofs.Dictionaries.{dict_of-itself}
use Rattle.plir_data.proofs.laws.dictionary_is_that_of_its_entries.Goals as goal

pub returns : goal.returns
returns g c = dict_of-itself
