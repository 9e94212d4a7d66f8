use Rattle.plir_data.specs.AttrSeen.{attr_view}
use Rattle.plir_attr_text.proofs.ReadBack.{read_back}
use Rattle.plir_attr_text.proofs.laws.attr_is_read_back.Goals as goal

pub returns : goal.returns
returns g c =
    read_back c.dictionary_is_that_of_its_entries.ensures g.D.OpSet.attr_id g.D.OpSet.attr_text g.D.OpSet.type_id
    g.D.OpSet.type_body_text g.D.OpSet.attr_handles g.D.OpSet.type_handles (attr_view c.args.attr.now)
    c.args.text.now c.args.read.now
