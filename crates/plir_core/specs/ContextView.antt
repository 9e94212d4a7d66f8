-- What a contract sees of a `Context`, and the words by which other crates speak of it.
use Rattle.std.specs.Prelude.{◌≡◌, ℕ, ◌+◌, Bool, true, ◌&&◌, nat_lt, List, [], length, Option, Some, None, slice_get}
use Rattle.plir_store.specs.Table.{content_at}
use Rattle.plir_data.specs.AttrView.{AttrView}
use Rattle.plir_data.specs.Types.{TypeView}
use Rattle.plir_data.specs.declared.op_set.OpKind.{OpKind}
use Rattle.plir_data.specs.declared.location.Location.{Location}
use Rattle.plir_core.specs.declared.ptr.Ptr.{Ptr}
use Rattle.plir_core.specs.declared.ptr.Operation.{Operation as OperationKind}
use Rattle.plir_core.specs.declared.ptr.Region.{Region as RegionKind}
use Rattle.plir_core.specs.declared.ptr.BasicBlock.{BasicBlock as BasicBlockKind}
use Rattle.plir_core.specs.declared.ptr.IRNode.{IRNode}
use Rattle.plir_core.specs.declared.ptr.IRNode.TheVariants.{Operation, Region, BasicBlock}
use Rattle.plir_core.specs.declared.value.Value.{Value}
use Rattle.plir_core.specs.declared.value.DefiningEntity.{DefiningEntity}
use Rattle.plir_core.specs.declared.value.DefiningEntity.TheVariants.{Op, Block}
use Rattle.plir_core.specs.Above.{climb, Reaches}
use Rattle.plir_core.specs.Nodes.{Nodes, index_of, is_node_live, was_given_out, num_nodes, node_children, node_parent}
use Rattle.plir_core.specs.Nodes.{node_first, node_last, node_next, node_prev}
use Rattle.plir_core.specs.Contents.{OpView, BlockView}

-- The nodes with what they hold, and the types. K, A and T are the kinds of operations, the attributes and the types
-- that the user adds.
pub record ContextView (K A T : Type 0) : Type 0 where
  pub nodes : Nodes (OpView K A) (BlockView A)
  pub types : List (TypeView T)

module _ {K A T : Type 0} where
  -- whether a node is live
  abbrev pub is_live : ContextView K A T → IRNode → Bool
  is_live s n = is_node_live s.nodes n

  abbrev pub IsLive : ContextView K A T → IRNode → Type 0
  IsLive s n = is_live s n ≡ true

  -- whether a pointer to a node was ever given out
  abbrev pub given_out : ContextView K A T → IRNode → Bool
  given_out s n = was_given_out s.nodes n

  -- how many nodes are live, and how many may be
  abbrev pub num_live : ContextView K A T → ℕ
  num_live s = num_nodes s.nodes

  abbrev pub limit : ContextView K A T → ℕ
  limit s = s.nodes.limit

  -- the children of a node in order: an operation's regions, a region's blocks, a block's operations; a dead node has
  -- none
  abbrev pub children : ContextView K A T → IRNode → List IRNode
  children s n = node_children s.nodes n

  -- the node whose child a node is; a dead node has none
  abbrev pub parent_of : ContextView K A T → IRNode → Option IRNode
  parent_of s n = node_parent s.nodes n

  -- the first and the last child of a node, and its siblings right after and right before it
  abbrev pub first_child : ContextView K A T → IRNode → Option IRNode
  first_child s n = node_first s.nodes n

  abbrev pub last_child : ContextView K A T → IRNode → Option IRNode
  last_child s n = node_last s.nodes n

  abbrev pub next_sibling : ContextView K A T → IRNode → Option IRNode
  next_sibling s n = node_next s.nodes n

  abbrev pub prev_sibling : ContextView K A T → IRNode → Option IRNode
  prev_sibling s n = node_prev s.nodes n

  -- a is n, or stands above it
  abbrev pub IsAncestor : ContextView K A T → IRNode → IRNode → Type 0
  IsAncestor s a n = Reaches (parent_of s) n a

  -- the operation that stands above a node, with no other operation between
  abbrev pub op_above : ContextView K A T → IRNode → Option IRNode
  op_above s (Operation p) = climb (parent_of s) 3 (Some (Operation p))
  op_above s (BasicBlock p) = climb (parent_of s) 2 (Some (BasicBlock p))
  op_above s (Region p) = parent_of s (Region p)

  -- the region that the block of an operation stands in
  abbrev pub region_above : ContextView K A T → Ptr OperationKind → Option IRNode
  region_above s p = climb (parent_of s) 2 (Some (Operation p))

  -- what a live operation and a live block hold
  abbrev pub op_at : ContextView K A T → Ptr OperationKind → Option (OpView K A)
  op_at s p = content_at s.nodes.ops p.slot

  abbrev pub block_at : ContextView K A T → Ptr BasicBlockKind → Option (BlockView A)
  block_at s p = content_at s.nodes.blocks p.slot

-- the parts of what is held
module _ {K A : Type 0} where
  abbrev pub kind_in : Option (OpView K A) → Option (OpKind K)
  kind_in None = None
  kind_in (Some o) = Some o.kind

  abbrev pub results_in : Option (OpView K A) → List ℕ
  results_in None = []
  results_in (Some o) = o.result_types

  abbrev pub operands_in : Option (OpView K A) → List Value
  operands_in None = []
  operands_in (Some o) = o.operands

  abbrev pub successors_in : Option (OpView K A) → List (Ptr BasicBlockKind)
  successors_in None = []
  successors_in (Some o) = o.successors

  abbrev pub attributes_in : Option (OpView K A) → List (List ℕ × AttrView A)
  attributes_in None = []
  attributes_in (Some o) = o.attributes

  abbrev pub location_in : Option (OpView K A) → Option Location
  location_in None = None
  location_in (Some o) = Some o.location

module _ {A : Type 0} where
  abbrev pub arguments_in : Option (BlockView A) → List ℕ
  arguments_in None = []
  arguments_in (Some b) = b.arg_types

  abbrev pub block_attributes_in : Option (BlockView A) → List (List ℕ × AttrView A)
  block_attributes_in None = []
  block_attributes_in (Some b) = b.attributes

  abbrev pub label_in : Option (BlockView A) → Option (List ℕ)
  label_in None = None
  label_in (Some b) = b.label

-- the node that a value comes from
abbrev pub entity_node : DefiningEntity → IRNode
entity_node (Op p) = Operation p
entity_node (Block p) = BasicBlock p

module _ {K A T : Type 0} where
  -- the kind of an operation, the types of its results, its operands, successors and attributes
  abbrev pub kind_of : ContextView K A T → Ptr OperationKind → Option (OpKind K)
  kind_of s p = kind_in (op_at s p)

  abbrev pub result_types_of : ContextView K A T → Ptr OperationKind → List ℕ
  result_types_of s p = results_in (op_at s p)

  abbrev pub operands_of : ContextView K A T → Ptr OperationKind → List Value
  operands_of s p = operands_in (op_at s p)

  abbrev pub successors_of : ContextView K A T → Ptr OperationKind → List (Ptr BasicBlockKind)
  successors_of s p = successors_in (op_at s p)

  abbrev pub attributes_of : ContextView K A T → Ptr OperationKind → List (List ℕ × AttrView A)
  attributes_of s p = attributes_in (op_at s p)

  -- its place in a source text
  abbrev pub location_of : ContextView K A T → Ptr OperationKind → Option Location
  location_of s p = location_in (op_at s p)

  -- the types of a block's arguments, its attributes and its label
  abbrev pub arg_types_of : ContextView K A T → Ptr BasicBlockKind → List ℕ
  arg_types_of s p = arguments_in (block_at s p)

  abbrev pub block_attributes_of : ContextView K A T → Ptr BasicBlockKind → List (List ℕ × AttrView A)
  block_attributes_of s p = block_attributes_in (block_at s p)

  abbrev pub label_of : ContextView K A T → Ptr BasicBlockKind → Option (List ℕ)
  label_of s p = label_in (block_at s p)

  -- the types of the values that come from an operation or a block
  abbrev pub types_from : ContextView K A T → DefiningEntity → List ℕ
  types_from s (Op p) = result_types_of s p
  types_from s (Block p) = arg_types_of s p

  -- whether a value is live: its owner is, and has a result or an argument at its place
  abbrev pub is_value_live : ContextView K A T → Value → Bool
  is_value_live s v = is_live s (entity_node v.entity) && nat_lt v.index (length (types_from s v.entity))

  abbrev pub IsValueLive : ContextView K A T → Value → Type 0
  IsValueLive s v = is_value_live s v ≡ true

  -- the type of a value
  abbrev pub type_of_value : ContextView K A T → Value → Option ℕ
  type_of_value s v = slice_get (types_from s v.entity) v.index

  -- The index of a pointer that was given out is its slot and 1.
  pub record IsIndexed (s : ContextView K A T) : Type 0 where
    pub ops : (p : Ptr OperationKind) → given_out s (Operation p) ≡ true → index_of p ≡ p.slot + 1
    pub regions : (p : Ptr RegionKind) → given_out s (Region p) ≡ true → index_of p ≡ p.slot + 1
    pub blocks : (p : Ptr BasicBlockKind) → given_out s (BasicBlock p) ≡ true → index_of p ≡ p.slot + 1
