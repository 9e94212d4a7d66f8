use Rattle.std.proofs.Common.{IsSome, sym, subst}
use Rattle.plir_builtin.specs.Symbols.{body}
use Rattle.plir_builtin.proofs.SoleBlocks.{sole-some}
use Rattle.plir_builtin.proofs.symbol_table_op.SymbolTableInterface.lookup.Goals as goal

pub find_symbol-requires-clause-at_body : goal.find_symbol-requires-clause-at_body
find_symbol-requires-clause-at_body g c =
    subst (λ p. IsSome (body c.args.ctx.now p)) (sym c.get_operation.ensures)
    (sole-some c.args.ctx.now _ c.requires.one_region c.requires.single_blocks)
