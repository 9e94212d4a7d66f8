use Rattle.plir_agreement.proofs.Moving.{moves-last}
use Rattle.plir_agreement.proofs.calls.moves_keep_agreement.Goals as goal

pub returns : goal.returns
returns g c = λ tables s t p w w' none.
    moves-last g.D.OpSet.is_symbol g.D.OpSet.is_symbol_table tables s t (c.stayed_tables_agree.ensures s t)
    (c.lawful_changes.ensures.forest s w) (c.lawful_changes.ensures.forest t w') p none
