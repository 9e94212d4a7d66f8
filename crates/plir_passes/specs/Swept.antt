-- What is left when dead operations are erased.
use Rattle.std.specs.Prelude.{◌≡◌, Bool, false, List, [], ◌∷◌, ◌⊎◌}
use Rattle.plir_store.specs.Members.{Has}
use Rattle.plir_core.specs.declared.ptr.Ptr.{Ptr}
use Rattle.plir_core.specs.declared.ptr.Operation.{Operation as OperationKind}
use Rattle.plir_core.specs.declared.ptr.IRNode.{IRNode}
use Rattle.plir_core.specs.declared.ptr.IRNode.TheVariants.{Operation}
use Rattle.plir_core.specs.Erase.{without_node}
use Rattle.plir_core.specs.ContextView.{ContextView, IsLive, is_live, children}
use Rattle.plir_walk.specs.Thinned.{IsThinned}
use Rattle.plir_passes.specs.Dead.{AreDead}

-- a node is an operation of the list
abbrev pub IsAmong : List (Ptr OperationKind) → IRNode → Type 0
IsAmong ps n = (p : Ptr OperationKind) × (n ≡ Operation p) × Has ps p

module _ {K A T : Type 0} where
  -- without an operation that has no regions
  abbrev pub without_op : ContextView K A T → Ptr OperationKind → ContextView K A T
  without_op s p = record s { nodes = without_node s.nodes (Operation p) }

  -- without operations that have no regions, freed one after another, the last one of the list first
  abbrev pub without_ops : ContextView K A T → List (Ptr OperationKind) → ContextView K A T
  without_ops s [] = s
  without_ops s (p ∷ ps) = without_op (without_ops s ps) p

  -- From s to t operations that were dead in s are gone, and nothing else has changed: what is left stands where it
  -- stood, in its order, and holds what it held. All of t is told by the list of what is gone: how many nodes there
  -- are, and may be, which slots are free and in which order they are used next.
  pub record IsSwept (effect ends : K → Bool) (s t : ContextView K A T) : Type 0 where
    pub gone : List (Ptr OperationKind)
    pub dead : AreDead effect ends s gone
    pub after : t ≡ without_ops s gone
    pub away : (p : Ptr OperationKind) → Has gone p → is_live t (Operation p) ≡ false
    pub left : (n : IRNode) → IsLive s n → IsLive t n ⊎ IsAmong gone n
    pub regions : (p : Ptr OperationKind) → IsLive t (Operation p) → children t (Operation p) ≡ children s (Operation p)
    pub thinned : IsThinned s t
