-- Nodes with their copies: how far a copy of a tree has come.
use Rattle.std.specs.Prelude.{◌≡◌, ◌⊎◌, List, [], ◌∷◌, ◌++◌, false, length, map, Some, option_map}
use Rattle.plir_store.specs.Members.{Has, Distinct}
use Rattle.plir_core.specs.declared.ptr.Ptr.{Ptr}
use Rattle.plir_core.specs.declared.ptr.Operation.{Operation as OperationKind}
use Rattle.plir_core.specs.declared.ptr.BasicBlock.{BasicBlock as BlockKind}
use Rattle.plir_core.specs.declared.ptr.IRNode.{IRNode}
use Rattle.plir_core.specs.declared.ptr.IRNode.TheVariants.{Operation, Region, BasicBlock}
use Rattle.plir_core.specs.declared.value.DefiningEntity.TheVariants.{Op}
use Rattle.plir_core.specs.ContextView.{ContextView, IsLive, IsAncestor, is_live, children, parent_of, op_at, block_at}
use Rattle.plir_core.specs.ContextView.{result_types_of, arg_types_of}
use Rattle.plir_core.specs.Forest.{look, IsForest}
use Rattle.plir_core.specs.Grown.{Growth}
use Rattle.plir_core.specs.Held.{KeepsNodes}
use Rattle.plir_core.specs.Made.{IsMade, IsRegionAdded}
use Rattle.plir_core.specs.Measures.{IsMeasured}
use Rattle.plir_core.specs.Nodes.{Nodes}
use Rattle.plir_core.specs.Room.{no_node, HaveCome}
use Rattle.plir_copies.specs.declared.trees.Twin.{Twin}
use Rattle.plir_copies.specs.Images.{Images}
use Rattle.plir_copies.specs.Copied.{op_under, with_values_of, with_block_of}
use Rattle.plir_copies.specs.Room.{count_of}

-- the nodes of a list, and their copies
abbrev pub nodes_of : List Twin → List IRNode
nodes_of ws = map (λ w. w.node) ws

abbrev pub copies_of : List Twin → List IRNode
copies_of ws = map (λ w. w.copy) ws

-- a node can be a child of another one: an operation of a block, a block of a region, a region of an operation
abbrev pub CanStandUnder : IRNode → IRNode → Type 0
CanStandUnder (Operation p) (BasicBlock q) = Unit {0}
CanStandUnder (BasicBlock p) (Region q) = Unit {0}
CanStandUnder (Region p) (Operation q) = Unit {0}
CanStandUnder (Operation p) (Operation q) = ⊥
CanStandUnder (Operation p) (Region q) = ⊥
CanStandUnder (BasicBlock p) (BasicBlock q) = ⊥
CanStandUnder (BasicBlock p) (Operation q) = ⊥
CanStandUnder (Region p) (Region q) = ⊥
CanStandUnder (Region p) (BasicBlock q) = ⊥

-- a node can stand under nothing: it is an operation or a block
abbrev pub CanStandAlone : IRNode → Type 0
CanStandAlone (Operation p) = Unit {0}
CanStandAlone (BasicBlock p) = Unit {0}
CanStandAlone (Region p) = ⊥

-- two nodes are of one kind
abbrev pub AreOfOneKind : IRNode → IRNode → Type 0
AreOfOneKind (Operation p) (Operation q) = Unit {0}
AreOfOneKind (Region p) (Region q) = Unit {0}
AreOfOneKind (BasicBlock p) (BasicBlock q) = Unit {0}
AreOfOneKind (Operation p) (Region q) = ⊥
AreOfOneKind (Operation p) (BasicBlock q) = ⊥
AreOfOneKind (Region p) (Operation q) = ⊥
AreOfOneKind (Region p) (BasicBlock q) = ⊥
AreOfOneKind (BasicBlock p) (Operation q) = ⊥
AreOfOneKind (BasicBlock p) (Region q) = ⊥

-- From s to t one node n is new, the last child of `over`, and nothing else has changed.
abbrev pub IsAddedLast : {O B : Type 0} → Nodes O B → Nodes O B → IRNode → IRNode → Type 0
IsAddedLast s t over n = IsRegionAdded s t over n

-- the nodes xs are listed with the copies ys, each with the one at its place
abbrev pub AreTogether : List Twin → List IRNode → List IRNode → Type 0
AreTogether ws xs ys = (vs : List Twin) × ((w : Twin) → Has vs w → Has ws w) × (nodes_of vs ≡ xs) ×
    (copies_of vs ≡ ys)

module _ {K A T : Type 0} (s t : ContextView K A T) where
  -- a node holds in t exactly what another one of its kind holds in s
  abbrev pub HoldsAs : IRNode → IRNode → Type 0
  HoldsAs (Operation p) (Operation q) = op_at t q ≡ op_at s p
  HoldsAs (Region p) (Region q) = Unit {0}
  HoldsAs (BasicBlock p) (BasicBlock q) = block_at t q ≡ block_at s p
  HoldsAs (Operation p) (Region q) = ⊥
  HoldsAs (Operation p) (BasicBlock q) = ⊥
  HoldsAs (Region p) (Operation q) = ⊥
  HoldsAs (Region p) (BasicBlock q) = ⊥
  HoldsAs (BasicBlock p) (Operation q) = ⊥
  HoldsAs (BasicBlock p) (Region q) = ⊥

  -- A node that is live in s has a copy in t that is new there and holds what the node holds.
  pub record IsTwin (w : Twin) : Type 0 where
    pub live : IsLive s w.node
    pub copy_live : IsLive t w.copy
    pub new : is_live s w.copy ≡ false
    pub holds : HoldsAs w.node w.copy

  -- From s to t the children of a node n have been copied below a node c, and were listed with their copies: these have
  -- no children yet.
  pub record AreChildrenCopied (n c : IRNode) (before after : List Twin) : Type 0 where
    pub twins : List Twin
    pub listed : after ≡ before ++ twins
    pub nodes : nodes_of twins ≡ children s n
    pub copies : copies_of twins ≡ children t c
    pub each : (w : Twin) → Has twins w → IsTwin w
    pub leaves : (w : Twin) → Has twins w → children t w.copy ≡ []

  -- From s to t part of the tree under `root` has been copied: the nodes that were copied are listed with their copies,
  -- first those whose children have been copied too, and then those whose children have not.
  pub record IsCopying (root copy : IRNode) (done todo : List Twin) : Type 0 where
    pub growth : Growth s.nodes
    pub forest : IsForest (look s)
    pub measured : IsMeasured s
    pub made : IsMade s.nodes t.nodes copy
    pub types : t.types ≡ s.types
    pub first : Has (done ++ todo) (record { node = root; copy = copy })
    pub nodes : Distinct (nodes_of (done ++ todo))
    pub copies : Distinct (copies_of (done ++ todo))
    pub each : (w : Twin) → Has (done ++ todo) w → IsTwin w
    pub below : (w : Twin) → Has (done ++ todo) w → IsAncestor s root w.node
    pub whole : (w : Twin) → Has done w → AreTogether (done ++ todo) (children s w.node) (children t w.copy)
    pub bare : (w : Twin) → Has todo w → children t w.copy ≡ []
    pub over : (w : Twin) → Has (done ++ todo) w → (w.node ≡ root) ⊎ ((v : Twin) × Has done v ×
        (parent_of s w.node ≡ Some v.node))
    pub come : HaveCome s.nodes t.nodes (count_of (nodes_of (done ++ todo)))

-- what m becomes where the copy of a node, and of its values, is put in place of the node and of its values
abbrev pub with_twin : {K A T : Type 0} → ContextView K A T → Images → IRNode → IRNode → Images
with_twin s m (Operation p) (Operation q) = with_values_of m (Op p) (Op q) (length (result_types_of s p))
with_twin s m (BasicBlock p) (BasicBlock q) = with_block_of m p q (length (arg_types_of s p))
with_twin s m (Region p) c = m
with_twin s m (Operation p) (Region q) = m
with_twin s m (Operation p) (BasicBlock q) = m
with_twin s m (BasicBlock p) (Region q) = m
with_twin s m (BasicBlock p) (Operation q) = m

-- the same for each of a list, one after another
abbrev pub with_twins : {K A T : Type 0} → ContextView K A T → Images → List Twin → Images
with_twins s m [] = m
with_twins s m (w ∷ ws) = with_twins s (with_twin s m w.node w.copy) ws

-- From s to t each operation of a list has come to hold what it held, but for what stands in place of its operands and
-- successors, and the call in place of which it stands, and nothing else has changed.
pub record AreChanged {K A T : Type 0} (s t : ContextView K A T) (m : Images) (ns : List IRNode) : Type 0 where
  pub keeps : KeepsNodes s t
  pub none_come : HaveCome s.nodes t.nodes no_node
  pub ops : (p : Ptr OperationKind) → Has ns (Operation p) → op_at t p ≡ option_map (op_under m) (op_at s p)
  pub others : (p : Ptr OperationKind) → IsLive s (Operation p) → (Has ns (Operation p) → ⊥) → op_at t p ≡ op_at s p
  pub blocks : (b : Ptr BlockKind) → block_at t b ≡ block_at s b
