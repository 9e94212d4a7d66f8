-- How many nodes there are in a tree: as many as its copy wants room for.
use Rattle.std.specs.Prelude.{List, [], ◌∷◌}
use Rattle.plir_core.specs.declared.ptr.IRNode.{IRNode}
use Rattle.plir_core.specs.declared.ptr.IRNode.TheVariants.{Operation, Region, BasicBlock}
use Rattle.plir_core.specs.Erase.{tree_of}
use Rattle.plir_core.specs.Nodes.{Nodes}
use Rattle.plir_core.specs.Room.{NodeCount, together, no_node, one_op, one_region, one_block}

-- one node of the kind of this one
abbrev pub one_like : IRNode → NodeCount
one_like (Operation p) = one_op
one_like (Region p) = one_region
one_like (BasicBlock p) = one_block

-- how many nodes of each kind stand in a list
abbrev pub count_of : List IRNode → NodeCount
count_of [] = no_node
count_of (n ∷ ns) = together (one_like n) (count_of ns)

-- how many nodes of each kind there are in the tree under a node
abbrev pub tree_count : {O B : Type 0} → Nodes O B → IRNode → NodeCount
tree_count s n = count_of (tree_of s n)
