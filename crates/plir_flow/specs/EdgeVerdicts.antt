-- What private functions share that find the first fault of region edges: what they answer so far, and the first edge
-- of each target.
use Rattle.std.specs.Prelude.{◌≡◌, ◌⊎◌, ℕ, List, [], ◌∷◌, All, Bool, slice_get, Option, Some, None, ◌<◌, ◌++◌}
use Rattle.std.specs.HashMap.{HashMap, get}
use Rattle.std.specs.Option.{option_eq}
use Rattle.plir_data.specs.Types.{IsLive as IsTypeLive}
use Rattle.plir_core.specs.declared.ptr.Ptr.{Ptr}
use Rattle.plir_core.specs.declared.ptr.Operation.{Operation as OperationKind}
use Rattle.plir_core.specs.declared.ptr.Region.{Region as RegionKind}
use Rattle.plir_core.specs.declared.value.Value.{Value}
use Rattle.plir_store.specs.Members.{Has, Distinct}
use Rattle.plir_core.specs.ContextView.{ContextView}
use Rattle.plir_flow.specs.declared.edge_ends.RegionBranchPoint.{RegionBranchPoint}
use Rattle.plir_flow.specs.declared.edge_ends.RegionSuccessor.{RegionSuccessor}
use Rattle.plir_flow.specs.declared.edge_ends.RegionSuccessor.TheVariants.{Region as ToRegion, After}
use Rattle.plir_flow.specs.declared.region_edge_errors.EdgeFault.{EdgeFault}
use Rattle.plir_flow.specs.declared.region_edge_errors.EdgeFault.TheVariants.{ReceivedTwice, OtherType}
use Rattle.plir_flow.specs.Hops.{same_region}
use Rattle.plir_flow.specs.RegionEdges.{EdgeView, Flow, receivers_on}
use Rattle.plir_flow.specs.RegionRule.{SameReceivers, IsFlowRight, IsFaultOfFlow, IsFaultOfEdge, IsEdgeRight}
use Rattle.plir_flow.specs.RegionRule.{HasEdgeRule, IsFaultOfEdges}

-- What flows is right and goes to none of those that have received, and now its receiver is the last of these; or it
-- breaks the point that the fault names, or goes to one of those.
abbrev pub IsFlowVerdict : {K A T : Type 0} → ContextView K A T → Ptr OperationKind → RegionBranchPoint →
    RegionSuccessor → Flow → (received now : List Value) → Option EdgeFault → Type 0
IsFlowVerdict s op p t f received now None = IsFlowRight s op p t f × (Has received f.1 → ⊥) ×
    (now ≡ received ++ f.1 ∷ [])
IsFlowVerdict s op p t f received now (Some x) = IsFaultOfFlow s op p t f x ⊎ ((x ≡ ReceivedTwice) × Has received f.1)

module _ {K A T : Type 0} (is_terminator : K → Bool) (s : ContextView K A T) (op : Ptr OperationKind) where
  -- what flows on an edge is right, or the edge breaks the point that the fault names
  abbrev pub IsFlowsVerdict : EdgeView → Option EdgeFault → Type 0
  IsFlowsVerdict e None = All (IsFlowRight s op e.from e.to) e.flows × Distinct (receivers_on e)
  IsFlowsVerdict e (Some x) = IsFaultOfEdge is_terminator s op e x

  -- an edge is right, or it breaks the point that the fault names
  abbrev pub IsEdgeVerdict : EdgeView → Option EdgeFault → Type 0
  IsEdgeVerdict e None = IsEdgeRight is_terminator s op e
  IsEdgeVerdict e (Some x) = IsFaultOfEdge is_terminator s op e x

  -- the rule holds, or some edge breaks the point that the fault names
  abbrev pub IsEdgesVerdict : List EdgeView → Option EdgeFault → Type 0
  IsEdgesVerdict es None = HasEdgeRule is_terminator s op es
  IsEdgesVerdict es (Some x) = IsFaultOfEdges is_terminator s op es x

-- Of the first n edges each has the receivers of the one that its target's head names, and a head names an edge with
-- that target.
pub record AreFirsts (es : List EdgeView) (n : ℕ) (head : RegionSuccessor → Option ℕ) : Type 0 where
  pub seen : (j : ℕ) (d : EdgeView) → j < n → slice_get es j ≡ Some d → (i : ℕ) ×
      ((e : EdgeView) × ((head d.to ≡ Some i) × (slice_get es i ≡ Some e) × SameReceivers e d))
  pub heads : (t : RegionSuccessor) (i : ℕ) → head t ≡ Some i → (e : EdgeView) ×
      ((slice_get es i ≡ Some e) × (e.to ≡ t))

-- the region that an edge leads to
abbrev pub target_region : RegionSuccessor → Option (Ptr RegionKind)
target_region (ToRegion r) = Some r
target_region After = None

-- the index that a map has for the region of a target
abbrev pub first_place : {S : Type 0} → HashMap (Option (Ptr RegionKind)) ℕ S → RegionSuccessor → Option ℕ
first_place m t = get (option_eq same_region) m (target_region t)

-- the types that a fault names are types of the context
abbrev pub NamesLive : {K A T : Type 0} → ContextView K A T → EdgeFault → Type 0
NamesLive s (OtherType t u) = IsTypeLive s.types t × IsTypeLive s.types u
NamesLive s _ = Unit {0}
