-- The arrows of a graph.
use Rattle.std.specs.Prelude.{ℕ, Bool, cond, List, [], ◌++◌, codes, Option, Some, None}
use Rattle.std.specs.List.{flat_map}
use Rattle.plir_core.specs.declared.ptr.Ptr.{Ptr}
use Rattle.plir_core.specs.declared.ptr.Operation.{Operation as OperationKind}
use Rattle.plir_core.specs.declared.ptr.Region.{Region as RegionKind}
use Rattle.plir_core.specs.declared.ptr.BasicBlock.{BasicBlock as BasicBlockKind}
use Rattle.plir_core.specs.declared.ptr.IRNode.{IRNode}
use Rattle.plir_core.specs.declared.ptr.IRNode.TheVariants.{Operation, Region, BasicBlock}
use Rattle.plir_core.specs.declared.value.Value.{Value}
use Rattle.plir_core.specs.ContextView.{ContextView, children, operands_of, parent_of, successors_of}
use Rattle.plir_core.specs.Texts.{node_text}
use Rattle.plir_store.specs.Members.{head}
use Rattle.plir_pictures.specs.Seats.{origin, seat}

module _ {K A T : Type 0} (s : ContextView K A T) where
  -- the arrow from below the row of an operation to the head of one of its successors, and those to all of them
  abbrev pub flow_arrow : Ptr OperationKind → Ptr BasicBlockKind → List ℕ
  flow_arrow p b = codes "  " ++ (seat s (Operation p) ++ (codes ":s -> " ++ (node_text (BasicBlock b) ++
      codes ":top:n;\n")))

  abbrev pub flow_arrows : Ptr OperationKind → List ℕ
  flow_arrows p = flat_map (flow_arrow p) (successors_of s p)

  -- the dashed arrow from where an operand comes from to the row of the operation, and those of all operands
  abbrev pub use_arrow : Ptr OperationKind → Value → List ℕ
  use_arrow p v = codes "  " ++ (origin s v ++ (codes ":e -> " ++ (seat s (Operation p) ++
      codes ":e [style=dashed, constraint=false];\n")))

  abbrev pub use_arrows : Ptr OperationKind → List ℕ
  use_arrows p = flat_map (use_arrow p) (operands_of s p)

  -- the arrows of an operation: those of its successors, and those of its operands, if uses are drawn
  abbrev pub op_arrows : (uses : Bool) → Ptr OperationKind → List ℕ
  op_arrows uses p = flow_arrows p ++ cond uses (use_arrows p) []

  -- the dotted line from the row of the operation that a region stands in to its cluster, at the first block there
  abbrev pub region_arrow_by : Option IRNode → Option IRNode → Ptr RegionKind → List ℕ
  region_arrow_by (Some over) (Some first) r = codes "  " ++ (seat s over ++ (codes " -> " ++ (node_text first ++
      (codes " [style=dotted, dir=none, lhead=cluster_" ++ (node_text (Region r) ++ codes "];\n")))))
  region_arrow_by (Some over) None r = []
  region_arrow_by None first r = []

  abbrev pub region_arrow : Ptr RegionKind → List ℕ
  region_arrow r = region_arrow_by (parent_of s (Region r)) (head (children s (Region r))) r

  -- the arrows of a node
  abbrev pub arrows_of : (uses : Bool) → IRNode → List ℕ
  arrows_of uses (Operation p) = op_arrows uses p
  arrows_of uses (Region r) = region_arrow r
  arrows_of uses (BasicBlock b) = []
