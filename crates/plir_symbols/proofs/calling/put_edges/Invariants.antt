use Rattle.std.proofs.Common.{◌<◌, Some}
use Rattle.plir_builtin.specs.Agree.{AllAgree, AreGivenOut}
use Rattle.plir_builtin.specs.Nearest.{IsNearest}
use Rattle.plir_symbols.specs.CachedTables.{AreBrought, IsNearestCached}
use Rattle.plir_symbols.proofs.Edges.{ArePutUpTo}
use Rattle.plir_symbols.proofs.calling.put_edges.Given as goal

abbrev pub invariant-loop-name : goal.invariant-loop-name
invariant-loop-name g l =
    (AllAgree g.D.OpSet.is_symbol g.D.OpSet.is_symbol_table l.ctx l.fn.tables →
    AllAgree g.D.OpSet.is_symbol g.D.OpSet.is_symbol_table l.ctx l.tables)
    × (AreGivenOut l.ctx l.fn.tables → AreGivenOut l.ctx l.tables)
    × (AllAgree g.D.OpSet.is_symbol g.D.OpSet.is_symbol_table l.ctx l.fn.tables →
    ArePutUpTo g.D.OpSet.is_symbol g.D.OpSet.is_symbol_table l.ctx g.D.SymbolNames.names_used l.name-index l.user
    l.fn.edges.items l.edges.items)
    × AreBrought g.D.OpSet.is_symbol_table l.ctx g.D.OpSet.is_symbol
    (λ t. IsNearest g.D.OpSet.is_symbol_table l.ctx l.user (Some t)) l.fn.tables l.tables
    × (0 < l.name-index → IsNearestCached g.D.OpSet.is_symbol_table l.ctx l.tables l.user)
