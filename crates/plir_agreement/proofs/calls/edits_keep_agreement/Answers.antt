use Rattle.plir_agreement.proofs.Names.{edits-last, others-keep}
use Rattle.plir_agreement.proofs.calls.edits_keep_agreement.Goals as goal

pub returns-clause-edits : goal.returns-clause-edits
returns-clause-edits g c = λ tables s t w w'.
    edits-last g.D.OpSet.is_symbol g.D.OpSet.is_symbol_table tables s t (c.stayed_tables_agree.ensures s t)
    (c.lawful_changes.ensures.forest s w) (c.lawful_changes.ensures.forest t w')

pub returns-clause-others : goal.returns-clause-others
returns-clause-others g c = others-keep
