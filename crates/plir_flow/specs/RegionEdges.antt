-- Edges between an operation and its regions, and the paths that they make.
use Rattle.std.specs.Prelude.{◌≡◌, ◌<◌, List, [], ◌∷◌, All, length, map, Some}
use Rattle.std.specs.List.{flat_map}
use Rattle.plir_core.specs.declared.ptr.Ptr.{Ptr}
use Rattle.plir_core.specs.declared.ptr.Region.{Region as RegionKind}
use Rattle.plir_core.specs.declared.ptr.IRNode.TheVariants.{Operation, Region}
use Rattle.plir_core.specs.declared.value.Value.{Value}
use Rattle.plir_core.specs.declared.uses.Use.{Use}
use Rattle.plir_store.specs.Members.{Has}
use Rattle.plir_core.specs.ContextView.{ContextView, IsLive, IsValueLive, operands_of, region_above}
use Rattle.plir_flow.specs.Paths.{LeadsTo}
use Rattle.plir_flow.specs.Taken.{AreThose}
use Rattle.plir_flow.specs.declared.edge_ends.RegionBranchPoint.{RegionBranchPoint}
use Rattle.plir_flow.specs.declared.edge_ends.RegionBranchPoint.TheVariants.{Parent, Terminator}
use Rattle.plir_flow.specs.declared.edge_ends.RegionSuccessor.{RegionSuccessor}
use Rattle.plir_flow.specs.declared.edge_ends.RegionSuccessor.TheVariants.{Region as ToRegion, After}

-- an operand that flows, with the value that receives it
abbrev pub Flow : Type 0
Flow = Use Value × Value

-- An edge along which control passes: where it starts and where it leads, the operands that flow, each with the value
-- that receives it, and the operands that may be read.
pub record EdgeView : Type 0 where
  pub from : RegionBranchPoint
  pub to : RegionSuccessor
  pub flows : List Flow
  pub reads : List (Use Value)

-- the edge starts there, or leads there
abbrev pub IsFrom : RegionBranchPoint → EdgeView → Type 0
IsFrom p e = e.from ≡ p

abbrev pub IsTo : RegionSuccessor → EdgeView → Type 0
IsTo t e = e.to ≡ t

-- the parts of an edge: what flows and what is read, the values that receive, and the region that it leads to
abbrev pub flows_on : EdgeView → List Flow
flows_on e = e.flows

abbrev pub reads_on : EdgeView → List (Use Value)
reads_on e = e.reads

abbrev pub receivers_on : EdgeView → List Value
receivers_on e = map (λ f. f.1) e.flows

abbrev pub region_in : RegionSuccessor → List (Ptr RegionKind)
region_in (ToRegion r) = r ∷ []
region_in After = []

abbrev pub regions_on : EdgeView → List (Ptr RegionKind)
regions_on e = region_in e.to

-- the value is the one that receives
abbrev pub IsInto : Value → Flow → Type 0
IsInto v f = f.1 ≡ v

-- these are the operands that flow into a value along the edges, in order
abbrev pub AreOperandsInto : Value → List EdgeView → List (Use Value) → Type 0
AreOperandsInto v es us = (those : List Flow) × (AreThose (IsInto v) (flat_map flows_on es) those ×
    (us ≡ map (λ f. f.0) those))

module _ {K A T : Type 0} (s : ContextView K A T) where
  -- a terminator whose parent region this is stands at the start
  abbrev pub IsPointIn : Ptr RegionKind → RegionBranchPoint → Type 0
  IsPointIn r Parent = ⊥
  IsPointIn r (Terminator t) = region_above s t ≡ Some (Region r)

  -- the edge starts at a terminator whose parent region this is
  abbrev pub IsFromRegion : Ptr RegionKind → EdgeView → Type 0
  IsFromRegion r e = IsPointIn r e.from

  -- an edge leads from one region to another
  abbrev pub IsStepOn : EdgeView → (a b : Ptr RegionKind) → Type 0
  IsStepOn e a b = IsFromRegion a e × (e.to ≡ ToRegion b)

  -- a use is good where its operation is live and has an operand there
  abbrev pub IsUseLive : Use Value → Type 0
  IsUseLive u = IsLive s (Operation u.op) × (u.index < length (operands_of s u.op))

  abbrev pub IsPointLive : RegionBranchPoint → Type 0
  IsPointLive Parent = Unit {0}
  IsPointLive (Terminator t) = IsLive s (Operation t)

  abbrev pub IsSuccessorLive : RegionSuccessor → Type 0
  IsSuccessorLive (ToRegion r) = IsLive s (Region r)
  IsSuccessorLive After = Unit {0}

  abbrev pub IsFlowLive : Flow → Type 0
  IsFlowLive f = IsUseLive f.0 × IsValueLive s f.1

  -- An edge is good where all that it names is live, and its uses are of operands that there are.
  pub record IsEdgeLive (e : EdgeView) : Type 0 where
    pub from : IsPointLive e.from
    pub to : IsSuccessorLive e.to
    pub flows : All IsFlowLive e.flows
    pub reads : All IsUseLive e.reads

  -- each of the edges is
  abbrev pub AreEdgesLive : List EdgeView → Type 0
  AreEdgesLive es = All IsEdgeLive es

  module _ (es : List EdgeView) where
    -- an edge leads from region a to region b
    abbrev pub IsStep : (a b : Ptr RegionKind) → Type 0
    IsStep a b = (e : EdgeView) × (Has es e × IsStepOn e a b)

    -- a path of one edge or more leads from a to b
    abbrev pub Reach : (a b : Ptr RegionKind) → Type 0
    Reach a b = LeadsTo IsStep a b
