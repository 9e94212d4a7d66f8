use Rattle.std.proofs.Common.{take}
use Rattle.plir_store.specs.Members.{Has}
use Rattle.plir_core.specs.declared.ptr.Ptr.{Ptr}
use Rattle.plir_core.specs.declared.ptr.Operation.{Operation as OperationKind}
use Rattle.plir_builtin.specs.Agree.{AllAgree, AreGivenOut}
use Rattle.plir_symbols.specs.CachedTables.{AreBrought, IsNearestCached}
use Rattle.plir_symbols.specs.CallGraph.{AreEdges, IsAsked, uses_of}
use Rattle.plir_symbols.proofs.calling.call_graph.Given as goal

abbrev pub invariant-loop-user : goal.invariant-loop-user
invariant-loop-user g l =
    (AllAgree g.D.OpSet.is_symbol g.D.OpSet.is_symbol_table l.ctx l.fn.tables →
    AllAgree g.D.OpSet.is_symbol g.D.OpSet.is_symbol_table l.ctx l.tables)
    × (AreGivenOut l.ctx l.fn.tables → AreGivenOut l.ctx l.tables)
    × (AllAgree g.D.OpSet.is_symbol g.D.OpSet.is_symbol_table l.ctx l.fn.tables →
    AreEdges g.D.OpSet.is_symbol g.D.OpSet.is_symbol_table l.ctx
    (uses_of g.D.SymbolNames.names_used l.ctx (take l.user-index l.user-items)) l.edges.items)
    × AreBrought g.D.OpSet.is_symbol_table l.ctx g.D.OpSet.is_symbol
    (IsAsked g.D.OpSet.is_symbol g.D.OpSet.is_symbol_table g.D.SymbolNames.names_used l.ctx l.fn.root) l.fn.tables l.tables
    × ((p : Ptr OperationKind) → Has (take l.user-index l.user-items) p →
    IsNearestCached g.D.OpSet.is_symbol_table l.ctx l.tables p)
