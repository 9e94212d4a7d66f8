-- The texts of pointers.
use Rattle.std.specs.Prelude.{ℕ, List, ◌++◌, codes}
use Rattle.std.specs.Fmt.{decimal}
use Rattle.plir_core.specs.declared.ptr.Ptr.{Ptr}
use Rattle.plir_core.specs.declared.ptr.IRNode.{IRNode}
use Rattle.plir_core.specs.declared.ptr.IRNode.TheVariants.{Operation, Region, BasicBlock}
use Rattle.plir_core.specs.Nodes.{index_of}

-- a word for the kind, the number of the slot from 1, `v`, and the version, as `op3v1`
abbrev pub pointer_text : {X : Type 0} → List ℕ → Ptr X → List ℕ
pointer_text word p = word ++ decimal (index_of p) ++ codes "v" ++ decimal p.version

abbrev pub node_text : IRNode → List ℕ
node_text (Operation p) = pointer_text (codes "op") p
node_text (Region p) = pointer_text (codes "region") p
node_text (BasicBlock p) = pointer_text (codes "block") p
