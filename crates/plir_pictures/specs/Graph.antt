-- The graph of an operation with all below it, in DOT.
use Rattle.std.specs.Prelude.{ℕ, Bool, List, [], ◌++◌, codes}
use Rattle.plir_data.specs.declared.op_set.OpSet as op_set
use Rattle.plir_core.specs.declared.ptr.Ptr.{Ptr}
use Rattle.plir_core.specs.declared.ptr.Operation.{Operation as OperationKind}
use Rattle.plir_core.specs.declared.ptr.IRNode.TheVariants.{Operation}
use Rattle.plir_core.specs.ContextView.{ContextView}
use Rattle.plir_pictures.specs.Arrows.{arrows_of}
use Rattle.plir_pictures.specs.Boxes.{op_box}
use Rattle.plir_pictures.specs.Clusters.{cluster_end, cluster_front}
use Rattle.plir_pictures.specs.Nested.{nested}

-- what stands at the head of a graph
abbrev pub graph_front : List ℕ
graph_front = codes
    "digraph plir {\n  compound=true;\n  fontname=monospace;\n  node [shape=plain, fontname=monospace];\n"

module _ {D K A T E : Type 0} (o : op_set.Ghosts D K A T E) (s : ContextView K A T) where
  -- the clusters of the regions below an operation, nested as these are, with the boxes of their blocks
  abbrev pub clusters : Ptr OperationKind → List ℕ
  clusters p = nested s (cluster_front o s) cluster_end (Operation p)

  -- the arrows of all nodes at and below it, in their order
  abbrev pub arrows : (uses : Bool) → Ptr OperationKind → List ℕ
  arrows uses p = nested s (arrows_of s uses) (λ _. []) (Operation p)

  -- The graph of an operation: its box, the clusters, and the arrows.
  abbrev pub graph : (uses : Bool) → Ptr OperationKind → List ℕ
  graph uses p = graph_front ++ (op_box o s p ++ (clusters p ++ (arrows uses p ++ codes "}\n")))
