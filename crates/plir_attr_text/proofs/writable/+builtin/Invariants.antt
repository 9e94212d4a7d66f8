use Rattle.std.proofs.Common.{◌↔◌, ◌+◌, ◌*◌, drop, map}
use Rattle.plir_data.specs.TypeTree.{trees_of, tree_of}
use Rattle.plir_attr_text.specs.{Writable.AreBuiltin, laws.Handles.above_all}
use Rattle.plir_attr_text.proofs.writable.+builtin.Given as goal

abbrev pub decreases-is_builtin : goal.decreases-is_builtin
decreases-is_builtin g l = 2 * l.handle + 1

abbrev pub decreases-are_builtin : goal.decreases-are_builtin
decreases-are_builtin g l = 2 * above_all l.handles.now

abbrev pub invariant-are_builtin-handles : goal.invariant-are_builtin-handles
invariant-are_builtin-handles g l =
    AreBuiltin (trees_of (map (tree_of l.types) (drop l.handle-index l.handles))) ↔ AreBuiltin
    (trees_of (map (tree_of l.types) l.handles))
