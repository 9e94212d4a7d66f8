use Rattle.plir_attr_text.proofs.Wholes.{one_type}
use Rattle.plir_attr_text.proofs.laws.text_stands_for_one_type.Goals as goal

pub returns : goal.returns
returns c m n bytes t u s r = one_type m n bytes t u s r
