-- Tables that agree with a context.
use Rattle.plir_data.specs.declared.op_set.OpSet as op_set
use Rattle.plir_core.specs.ContextView.{ContextView}
use Rattle.plir_builtin.specs.Table.{Tables}
use Rattle.plir_builtin.specs.Agree.{AllAgree, AreGivenOut}

-- all tables agree with the context, and are cached for operations that were given out
pub record TablesAgree {D K A T E : Type 0} (o : op_set.Ghosts D K A T E) (s : ContextView K A T)
    (c : Tables) : Type 0 where
  pub agree : AllAgree o.is_symbol o.is_symbol_table s c
  pub given : AreGivenOut s c
