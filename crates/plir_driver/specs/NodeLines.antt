-- The lines that list the nodes of a tree.
use Rattle.std.specs.Prelude.{◌≡◌, ℕ, ◌*◌, List, [], ◌∷◌, ◌++◌, codes, Option, Some, None}
use Rattle.std.specs.declared.ops.ControlFlow.{ControlFlow}
use Rattle.std.specs.declared.ops.ControlFlow.TheVariants.{Continue, Break}
use Rattle.plir_store.specs.Members.{Has}
use Rattle.plir_core.specs.declared.ptr.Ptr.{Ptr}
use Rattle.plir_core.specs.declared.ptr.Operation.{Operation as OperationKind}
use Rattle.plir_core.specs.declared.ptr.IRNode.{IRNode}
use Rattle.plir_core.specs.declared.ptr.IRNode.TheVariants.{Operation}
use Rattle.plir_core.specs.Above.{climb}
use Rattle.plir_core.specs.ContextView.{ContextView, children, parent_of}
use Rattle.plir_walk.specs.declared.config.TheConstants.{WALKCONFIG_PREORDER_FORWARD as pre_forward}
use Rattle.plir_walk.specs.declared.interruptible.WalkContinue.{WalkContinue}
use Rattle.plir_walk.specs.declared.interruptible.WalkContinue.TheVariants.{Advance, Skip}
use Rattle.plir_walk.specs.Lists.{Pairs}
use Rattle.plir_walk.specs.Tree.{IsUnder, NodeBefore}
use Rattle.plir_driver.specs.Excerpt.{spaces}
use Rattle.plir_pictures.specs.NodeNames.{node_name}

-- what is told of the nodes of a list, one after another, where P says what may be told of one
abbrev pub AreTold : (P : IRNode → List ℕ → Type 0) → List IRNode → List ℕ → Type 0
AreTold P [] t = t ≡ []
AreTold P (n ∷ ns) t = (here : List ℕ) × (rest : List ℕ) × P n here × AreTold P ns rest × (t ≡ here ++ rest)

module _ {K A T : Type 0} (s : ContextView K A T) (root : Ptr OperationKind) where
  -- exactly the nodes at or below the root, each once, in the order of their places
  pub record AreNodes (ns : List IRNode) : Type 0 where
    pub only_nodes : (n : IRNode) → Has ns n → IsUnder (children s) (Operation root) n
    pub all_nodes : (n : IRNode) → IsUnder (children s) (Operation root) n → Has ns n
    pub in_order : Pairs (NodeBefore pre_forward (children s) (Operation root)) ns

  -- behind a text stands what is told of all nodes at or below the root, in their order
  pub record AreNodesPut (P : IRNode → List ℕ → Type 0) (t t' : List ℕ) : Type 0 where
    pub nodes : List IRNode
    pub are_nodes : AreNodes nodes
    pub told : List ℕ
    pub are_told : AreTold P nodes told
    pub put : t' ≡ t ++ told

-- What a call at a node does to a text: what is told of the node is put behind it, and the walk goes on; or it is
-- broken off.
abbrev pub IsNodePut : {B : Type 0} → (P : IRNode → List ℕ → Type 0) → List ℕ → IRNode → ControlFlow B WalkContinue →
    List ℕ → Type 0
IsNodePut P t n (Continue Advance) t' = (here : List ℕ) × P n here × (t' ≡ t ++ here)
IsNodePut P t n (Continue Skip) t' = ⊥
IsNodePut P t n (Break b) t' = Unit {0}

-- k nodes stand above a node: so many steps up from it stands one that has nothing above it
abbrev pub StandsBelow : {K A T : Type 0} → ContextView K A T → (k : ℕ) → IRNode → Type 0
StandsBelow s k n = (top : IRNode) × (climb (parent_of s) k (Some n) ≡ Some top) × (parent_of s top ≡ None)

module _ {K A T : Type 0} (own : K → List ℕ) (s : ContextView K A T) where
  -- the line of a node in a list: its name, two columns further in for each node above it
  abbrev pub IsListLine : IRNode → List ℕ → Type 0
  IsListLine n line = (k : ℕ) × StandsBelow s k n × (line ≡ spaces (2 * k) ++ (node_name own s n ++ codes "\n"))

  module _ (root : Ptr OperationKind) where
    -- a text lists the nodes of the tree
    abbrev pub IsListed : List ℕ → Type 0
    IsListed t = AreNodesPut s root IsListLine [] t
