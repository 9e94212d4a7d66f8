use Rattle.std.proofs.{Common.arith, Common.codes, lemmas.List.drop_all}
use Rattle.plir_attr_text.specs.Written.{name_or_mark}
use Rattle.plir_data.specs.TextLaws.{ended}
use Rattle.plir_attr_text.proofs.put.put_names.Goals as goal

pub returns : goal.returns
returns c = ended (codes ", ") name_or_mark c.names.is_first _ _ _ (drop_all c.names.name-index c.args.names.now
    (omega arith))
    c.names.invariant
