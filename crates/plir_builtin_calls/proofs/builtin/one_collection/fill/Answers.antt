use Rattle.std.proofs.Common.{sym, subst}
use Rattle.plir_builtin.specs.Agree.{AllAgree, AreGivenOut}
use Rattle.plir_builtin_calls.proofs.builtin.one_collection.fill.Goals as goal

pub add_module-requires-clause-agree : goal.add_module-requires-clause-agree
add_module-requires-clause-agree g c =
    subst (AllAgree g.D.OpSet.is_symbol g.D.OpSet.is_symbol_table c.new.new.ctx) (sym c.new-tables.ensures)
    c.no_tables_agree.ensures.agree

pub add_module-requires-clause-given : goal.add_module-requires-clause-given
add_module-requires-clause-given g c =
    subst (AreGivenOut c.new.new.ctx) (sym c.new-tables.ensures) c.no_tables_agree.ensures.given
