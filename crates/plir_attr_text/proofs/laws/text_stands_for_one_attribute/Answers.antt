use Rattle.plir_attr_text.specs.laws.SameMeanings.{one_meaning}
use Rattle.plir_attr_text.proofs.laws.text_stands_for_one_attribute.Goals as goal

pub returns : goal.returns
returns g c m n types whole bytes x y s r = one_meaning g.D.OpSet.type_handles types whole m n bytes x y s r
