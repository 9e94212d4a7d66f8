use Rattle.plir_builtin.proofs.MapViews.{name-same}
use Rattle.plir_builtin.proofs.symbol_table.SymbolTable.reserve.Goals as goal

pub returns : goal.returns
returns c =
    name-same c.self.inside.op c.self.inside.names.entries c.args.self.now c.self.view_is c.reserve.new.self.entries
    c.reserve.ensures.entries.2
