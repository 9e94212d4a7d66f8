use Rattle.std.proofs.Common.{◌≡◌, ◌++◌}
use Rattle.plir_data.specs.DictSeen.{pairs_view}
use Rattle.plir_core.specs.ContextView.{attributes_of}
use Rattle.plir_symbols.specs.BuiltinNames.{names_under}
use Rattle.plir_symbols.proofs.Told.{texts}
use Rattle.plir_symbols.proofs.builtin_names.names_held.Given as goal

-- the names of the entries that were passed, and then those of what is left
abbrev pub invariant-entries : goal.invariant-entries
invariant-entries g l =
    texts l.names.items ++ names_under (pairs_view l.key-iterator) ≡ names_under (attributes_of l.ctx l.fn.op)
