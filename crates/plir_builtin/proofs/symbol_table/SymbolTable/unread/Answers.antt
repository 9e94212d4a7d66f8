use Rattle.plir_builtin.proofs.ReadTables.{read-empty}
use Rattle.plir_builtin.proofs.symbol_table.SymbolTable.unread.Goals as goal

pub returns-clause-read : goal.returns-clause-read
returns-clause-read c = read-empty c.args.op c.new.result.entries c.new.ensures.empty
