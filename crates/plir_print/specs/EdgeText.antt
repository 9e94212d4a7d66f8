-- The text of an edge between an operation and its regions.
use Rattle.std.specs.Prelude.{ℕ, suc, List, [], ◌∷◌, ◌++◌, cond, codes, Option, Some, None, slice_get}
use Rattle.std.specs.Fmt.{decimal}
use Rattle.plir_data.specs.declared.op_set.OpSet as op_set
use Rattle.plir_core.specs.declared.ptr.Ptr.{Ptr}
use Rattle.plir_core.specs.declared.ptr.Region.{Region as RegionKind}
use Rattle.plir_core.specs.declared.ptr.IRNode.{IRNode}
use Rattle.plir_core.specs.declared.ptr.IRNode.TheVariants.{Region}
use Rattle.plir_core.specs.declared.uses.Use.{Use}
use Rattle.plir_core.specs.declared.value.Value.{Value}
use Rattle.plir_core.specs.ContextView.{ContextView, children, operands_of, parent_of}
use Rattle.plir_walk.specs.Tree.{same}
use Rattle.plir_flow.specs.RegionEdges.{EdgeView, Flow}
use Rattle.plir_flow.specs.declared.edge_ends.RegionBranchPoint.{RegionBranchPoint}
use Rattle.plir_flow.specs.declared.edge_ends.RegionBranchPoint.TheVariants.{Parent, Terminator}
use Rattle.plir_flow.specs.declared.edge_ends.RegionSuccessor.{RegionSuccessor}
use Rattle.plir_flow.specs.declared.edge_ends.RegionSuccessor.TheVariants.{Region as ToRegion, After}
use Rattle.plir_data.specs.TextParts.{parted}
use Rattle.plir_print.specs.ValueNames.{value_name}
use Rattle.plir_print.specs.HeaderAttrs.{HasHeader}
use Rattle.plir_print.specs.Headers.{header}

-- the index of a node among nodes
abbrev pub place_among : IRNode → List IRNode → ℕ
place_among n [] = 0
place_among n (x ∷ xs) = cond (same x n) 0 (suc (place_among n xs))

module _ {K A T : Type 0} (s : ContextView K A T) where
  abbrev pub place_under : IRNode → Option IRNode → ℕ
  place_under n None = 0
  place_under n (Some over) = place_among n (children s over)

  -- the index of a region among those of its operation
  abbrev pub region_place : Ptr RegionKind → ℕ
  region_place r = place_under (Region r) (parent_of s (Region r))

  -- where an edge leads: `region` with the region's index, or `after`
  abbrev pub successor_text : RegionSuccessor → List ℕ
  successor_text (ToRegion r) = codes "region " ++ decimal (region_place r)
  successor_text After = codes "after"

  -- the name of a value, where there is one
  abbrev pub some_value_name : Option Value → List ℕ
  some_value_name None = []
  some_value_name (Some v) = value_name s v

  -- the name of the operand that a use is of
  abbrev pub use_text : Use Value → List ℕ
  use_text u = some_value_name (slice_get (operands_of s u.op) u.index)

  -- `operand -> receiver`
  abbrev pub flow_text : Flow → List ℕ
  flow_text f = use_text f.0 ++ (codes " -> " ++ value_name s f.1)

  -- what flows, and what is read
  abbrev pub flows_text : List Flow → List ℕ
  flows_text fs = parted (codes ", ") flow_text fs

  abbrev pub reads_text : List (Use Value) → List ℕ
  reads_text us = parted (codes ", ") use_text us

  -- `: [operand -> receiver, ..], reads: [operand, ..]`
  abbrev pub passing_text : EdgeView → List ℕ
  passing_text e = codes ": [" ++ (flows_text e.flows ++ (codes "], reads: [" ++ (reads_text e.reads ++ codes "]")))

  -- the header of the operation at the start of an edge is there
  abbrev pub HasPointHeader : RegionBranchPoint → Type 0
  HasPointHeader Parent = Unit {0}
  HasPointHeader (Terminator t) = HasHeader s t

module _ {D K A T E : Type 0} (o : op_set.Ghosts D K A T E) (s : ContextView K A T) where
  -- where an edge starts: `parent`, or the header of the terminator
  abbrev pub point_text : RegionBranchPoint → List ℕ
  point_text Parent = codes "parent"
  point_text (Terminator t) = header o s t

  -- `from -> to: [operand -> receiver, ..], reads: [operand, ..]`
  abbrev pub edge_text : EdgeView → List ℕ
  edge_text e = point_text e.from ++ (codes " -> " ++ (successor_text s e.to ++ passing_text s e))
