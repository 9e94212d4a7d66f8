use Rattle.plir_folding.proofs.StayedTables.{stay-tables}
use Rattle.plir_folding.proofs.laws.folding_keeps_tables.Goals as goal

pub returns : goal.returns
returns g c = λ s t tables w w' f given.
    stay-tables g.D.FoldSet.fold g.D.OpSet.is_symbol g.D.OpSet.is_symbol_table s t
    (c.lawful_changes.ensures.forest s w) (c.lawful_changes.ensures.forest t w') f tables given
