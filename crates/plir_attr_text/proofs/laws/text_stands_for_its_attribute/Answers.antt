use Rattle.plir_attr_text.specs.laws.AttrsShown.{text_stands}
use Rattle.plir_attr_text.proofs.laws.text_stands_for_its_attribute.Goals as goal

pub returns : goal.returns
returns g c n old new whole grown x writable few =
    text_stands c.dictionary_is_that_of_its_entries.ensures g.D.OpSet.type_handles old whole g.D.OpSet.attr_id
    g.D.OpSet.attr_text g.D.OpSet.type_id g.D.OpSet.type_body_text n new grown x writable few
