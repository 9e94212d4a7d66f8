-- What is drawn of the nodes of a graph: regions as clusters, blocks as boxes.
use Rattle.std.specs.Prelude.{ℕ, List, [], ◌++◌, codes, Option, Some, None}
use Rattle.plir_data.specs.declared.op_set.OpSet as op_set
use Rattle.plir_core.specs.declared.ptr.Ptr.{Ptr}
use Rattle.plir_core.specs.declared.ptr.Region.{Region as RegionKind}
use Rattle.plir_core.specs.declared.ptr.IRNode.{IRNode}
use Rattle.plir_core.specs.declared.ptr.IRNode.TheVariants.{Operation, Region, BasicBlock}
use Rattle.plir_core.specs.ContextView.{ContextView, parent_of}
use Rattle.plir_core.specs.Texts.{node_text}
use Rattle.plir_pictures.specs.Boxes.{block_box}
use Rattle.plir_pictures.specs.Labels.{label_text}
use Rattle.plir_pictures.specs.NodeNames.{node_name}

module _ {K A T : Type 0} (own : K → List ℕ) (s : ContextView K A T) where
  -- ` of ` and the name of a node, if there is one
  abbrev pub of_node : Option IRNode → List ℕ
  of_node None = []
  of_node (Some n) = codes " of " ++ node_name own s n

  -- what a cluster is labelled with: the region, and the operation that it stands in
  abbrev pub region_words : Ptr RegionKind → List ℕ
  region_words r = node_text (Region r) ++ of_node (parent_of s (Region r))

  -- what opens the cluster of a region
  abbrev pub region_front : Ptr RegionKind → List ℕ
  region_front r = codes "  subgraph cluster_" ++ (node_text (Region r) ++ (codes " {\n  label=<" ++
      (label_text (region_words r) ++ codes ">;\n")))

-- what is drawn of a node in front of what stands in it: a region opens a cluster, and a block is a box
abbrev pub cluster_front : {D K A T E : Type 0} → op_set.Ghosts D K A T E → ContextView K A T → IRNode → List ℕ
cluster_front o s (Operation p) = []
cluster_front o s (Region r) = region_front o.kind_id s r
cluster_front o s (BasicBlock b) = block_box o s b

-- and behind it: the cluster is closed
abbrev pub cluster_end : IRNode → List ℕ
cluster_end (Operation p) = []
cluster_end (Region r) = codes "  }\n"
cluster_end (BasicBlock b) = []
