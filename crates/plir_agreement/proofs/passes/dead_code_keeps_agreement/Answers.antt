use Rattle.plir_agreement.proofs.Passing.{swept-lasts}
use Rattle.plir_agreement.proofs.passes.dead_code_keeps_agreement.Goals as goal

pub returns : goal.returns
returns g c = λ stay tables s t w w'.
    swept-lasts g.D.OpSet.is_symbol g.D.OpSet.is_symbol_table g.D.EffectSet.has_effect g.D.OpSet.is_terminator stay tables
    s t (c.stayed_tables_agree.ensures s t) (c.lawful_changes.ensures.forest s w) (c.lawful_changes.ensures.forest t w')
