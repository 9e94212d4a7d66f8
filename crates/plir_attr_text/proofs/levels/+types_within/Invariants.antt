use Rattle.std.proofs.Common.{◌↔◌, ◌≤◌, ◌+◌, ◌*◌, drop, map}
use Rattle.plir_data.specs.TypeTree.{trees_of, tree_of}
use Rattle.plir_attr_text.specs.{Terms.types_levels, Writable.type_terms}
use Rattle.plir_attr_text.proofs.levels.+types_within.Given as goal

abbrev pub decreases-is_type_within : goal.decreases-is_type_within
decreases-is_type_within g l = 3 * l.most

abbrev pub decreases-is_function_within : goal.decreases-is_function_within
decreases-is_function_within g l = 3 * l.most + 2

abbrev pub decreases-are_types_within : goal.decreases-are_types_within
decreases-are_types_within g l = 3 * l.most + 1

abbrev pub invariant-are_types_within-handles : goal.invariant-are_types_within-handles
invariant-are_types_within-handles g l =
    (types_levels (type_terms (trees_of (map (tree_of l.types) (drop l.handle-index l.handles)))) ≤ l.most) ↔
    (types_levels (type_terms (trees_of (map (tree_of l.types) l.handles))) ≤ l.most)
