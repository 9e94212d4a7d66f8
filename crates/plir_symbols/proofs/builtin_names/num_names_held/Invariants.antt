use Rattle.std.proofs.Common.{◌≡◌, ◌+◌, length}
use Rattle.plir_data.specs.DictSeen.{pairs_view}
use Rattle.plir_core.specs.ContextView.{attributes_of}
use Rattle.plir_symbols.specs.BuiltinNames.{names_under}
use Rattle.plir_symbols.proofs.builtin_names.num_names_held.Given as goal

-- the entries that are left were counted, and those before them that use a name
abbrev pub invariant-entries : goal.invariant-entries
invariant-entries g l =
    let left = pairs_view l.key-iterator in
    l.count + length (names_under left) ≡ length (names_under (attributes_of l.ctx l.fn.op)) + length left
