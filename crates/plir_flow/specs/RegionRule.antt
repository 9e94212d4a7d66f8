-- The rule of region edges, and how it is refused.
use Rattle.std.specs.Prelude.{◌≡◌, ◌⊎◌, ◌↔◌, ℕ, List, All, Bool, true, slice_get, Option, Some}
use Rattle.std.specs.Prelude.{string_bytes, option_and_then}
use Rattle.plir_data.specs.OwnParts.{Part}
use Rattle.plir_data.specs.declared.location.VerifyErr.{VerifyErr}
use Rattle.plir_data.specs.declared.op_set.OpSet as op_set
use Rattle.plir_data.specs.declared.location.VerifyErr.TheVariants.{Refused, Memory}
use Rattle.plir_data.specs.TypeText.{type_text}
use Rattle.plir_core.specs.declared.ptr.Ptr.{Ptr}
use Rattle.plir_core.specs.declared.ptr.Operation.{Operation as OperationKind}
use Rattle.plir_core.specs.declared.ptr.IRNode.TheVariants.{Operation, Region}
use Rattle.plir_core.specs.declared.value.Value.{Value}
use Rattle.plir_core.specs.declared.value.DefiningEntity.{DefiningEntity}
use Rattle.plir_core.specs.declared.value.DefiningEntity.TheVariants.{Op, Block}
use Rattle.plir_core.specs.declared.uses.Use.{Use}
use Rattle.plir_store.specs.Members.{Has, Distinct}
use Rattle.plir_core.specs.ContextView.{ContextView, entity_node, first_child, kind_of, op_above, operands_of}
use Rattle.plir_core.specs.ContextView.{parent_of}
use Rattle.plir_core.specs.ContextView.{type_of_value}
use Rattle.plir_core.specs.Terminator.{is_terminator_kind}
use Rattle.plir_flow.specs.declared.edge_ends.RegionBranchPoint.{RegionBranchPoint}
use Rattle.plir_flow.specs.declared.edge_ends.RegionBranchPoint.TheVariants.{Parent, Terminator}
use Rattle.plir_flow.specs.declared.edge_ends.RegionSuccessor.{RegionSuccessor}
use Rattle.plir_flow.specs.declared.edge_ends.RegionSuccessor.TheVariants.{Region as ToRegion, After}
use Rattle.plir_flow.specs.declared.region_edge_errors.RegionBranchOpInterfaceVerifyErr.{
  RegionBranchOpInterfaceVerifyErr,
}
use Rattle.plir_flow.specs.declared.region_edge_errors.RegionBranchOpInterfaceVerifyErr.TheVariants.{Layout}
use Rattle.plir_flow.specs.declared.region_edge_errors.RegionBranchOpInterfaceVerifyErr.TheVariants.{
  ReceiverSetMismatch,
}
use Rattle.plir_flow.specs.declared.region_edge_errors.RegionBranchOpInterfaceVerifyErr.TheVariants.{InvalidTerminator}
use Rattle.plir_flow.specs.declared.region_edge_errors.RegionBranchOpInterfaceVerifyErr.TheVariants.{
  ReadNotOpOrSourceOperand,
}
use Rattle.plir_flow.specs.declared.region_edge_errors.RegionBranchOpInterfaceVerifyErr.TheVariants.{
  ForeignRegionSuccessor,
}
use Rattle.plir_flow.specs.declared.region_edge_errors.RegionBranchOpInterfaceVerifyErr.TheVariants.{
  OperandNotAtBranchPoint,
}
use Rattle.plir_flow.specs.declared.region_edge_errors.RegionBranchOpInterfaceVerifyErr.TheVariants.{
  ReceiverNotRegionArgument,
}
use Rattle.plir_flow.specs.declared.region_edge_errors.RegionBranchOpInterfaceVerifyErr.TheVariants.{ReceiverNotResult}
use Rattle.plir_flow.specs.declared.region_edge_errors.RegionBranchOpInterfaceVerifyErr.TheVariants.{DuplicateReceiver}
use Rattle.plir_flow.specs.declared.region_edge_errors.RegionBranchOpInterfaceVerifyErr.TheVariants.{FlowTypeMismatch}
use Rattle.plir_flow.specs.declared.region_edge_errors.EdgeFault.{EdgeFault}
use Rattle.plir_flow.specs.declared.region_edge_errors.EdgeFault.TheVariants.{OtherReceivers, ForeignTerminator}
use Rattle.plir_flow.specs.declared.region_edge_errors.EdgeFault.TheVariants.{ForeignRead, ForeignRegion}
use Rattle.plir_flow.specs.declared.region_edge_errors.EdgeFault.TheVariants.{ForeignOperand, NoArgument, NoResult}
use Rattle.plir_flow.specs.declared.region_edge_errors.EdgeFault.TheVariants.{ReceivedTwice, OtherType}
use Rattle.plir_iface.specs.Verdict.{IsRefusalMemoryAside}
use Rattle.plir_flow.specs.RegionEdges.{EdgeView, Flow, receivers_on}

-- the refusal of a layout, as that of region edges
abbrev pub in_edges : {E : Type 0} → VerifyErr E → VerifyErr (RegionBranchOpInterfaceVerifyErr E)
in_edges (Refused loc e) = Refused loc (Layout e)
in_edges Memory = Memory

-- two edges have one set of receivers
abbrev pub SameReceivers : (d e : EdgeView) → Type 0
SameReceivers d e = (v : Value) → Has (receivers_on d) v ↔ Has (receivers_on e) v

-- two edges with one target have other sets of receivers
abbrev pub HaveOtherReceivers : List EdgeView → Type 0
HaveOtherReceivers es = (d : EdgeView) × ((e : EdgeView) ×
    (Has es d × Has es e × (d.to ≡ e.to) × (SameReceivers d e → ⊥)))

-- the operation at a point of the operation op
abbrev pub source_at : Ptr OperationKind → RegionBranchPoint → Ptr OperationKind
source_at op Parent = op
source_at op (Terminator t) = t

module _ {K A T : Type 0} (is_terminator : K → Bool) (s : ContextView K A T) (op : Ptr OperationKind) where
  -- a terminator at the start is of a kind of terminators, and stands in a region of the operation itself
  abbrev pub IsOwnPoint : RegionBranchPoint → Type 0
  IsOwnPoint Parent = Unit {0}
  IsOwnPoint (Terminator t) = (op_above s (Operation t) ≡ Some (Operation op)) ×
      (is_terminator_kind is_terminator (kind_of s t) ≡ true)

-- the operand that is read is one of the operation itself, or of the operation at the start
abbrev pub IsOwnRead : Ptr OperationKind → RegionBranchPoint → Use Value → Type 0
IsOwnRead op p u = (u.op ≡ op) ⊎ (u.op ≡ source_at op p)

-- the value comes from a block
abbrev pub IsArgument : DefiningEntity → Type 0
IsArgument (Block b) = Unit {0}
IsArgument (Op o) = ⊥

module _ {K A T : Type 0} (s : ContextView K A T) (op : Ptr OperationKind) where
  -- a region at the end is one of the operation itself
  abbrev pub IsOwnSuccessor : RegionSuccessor → Type 0
  IsOwnSuccessor (ToRegion r) = parent_of s (Region r) ≡ Some (Operation op)
  IsOwnSuccessor After = Unit {0}

  -- the value is an argument of the region's entry block, or behind the operation a result of it
  abbrev pub IsReceiver : RegionSuccessor → Value → Type 0
  IsReceiver (ToRegion r) v = IsArgument v.entity × (first_child s (Region r) ≡ Some (entity_node v.entity))
  IsReceiver After v = v.entity ≡ Op op

-- the fault of a value that may not receive at the end of an edge
abbrev pub no_receiver : RegionSuccessor → EdgeFault
no_receiver (ToRegion r) = NoArgument
no_receiver After = NoResult

-- a fault is one of types
abbrev pub IsOfTypes : EdgeFault → Type 0
IsOfTypes (OtherType x y) = Unit {0}
IsOfTypes _ = ⊥

-- the type of the operand at a use
abbrev pub type_of_use : {K A T : Type 0} → ContextView K A T → Use Value → Option ℕ
type_of_use s u = option_and_then (type_of_value s) (slice_get (operands_of s u.op) u.index)

-- a fault names the types of the operand at a use and of what receives it, and they are two
abbrev pub IsOfOtherType : {K A T : Type 0} → ContextView K A T → Use Value → Value → EdgeFault → Type 0
IsOfOtherType s u v (OtherType x y) = (type_of_use s u ≡ Some x) × (type_of_value s v ≡ Some y) × (x ≡ y → ⊥)
IsOfOtherType s u v _ = ⊥

module _ {K A T : Type 0} (s : ContextView K A T) (op : Ptr OperationKind) (p : RegionBranchPoint)
    (t : RegionSuccessor) where
  -- What flows on an edge is an operand of the operation at its start, and goes to a receiver at its end, of the same
  -- type.
  pub record IsFlowRight (f : Flow) : Type 0 where
    pub source : f.0.op ≡ source_at op p
    pub receiver : IsReceiver s op t f.1
    pub types : type_of_use s f.0 ≡ type_of_value s f.1

  -- what flows breaks the point that a fault names
  abbrev pub IsFaultOfFlow : Flow → EdgeFault → Type 0
  IsFaultOfFlow f ForeignOperand = f.0.op ≡ source_at op p → ⊥
  IsFaultOfFlow f NoArgument = (no_receiver t ≡ NoArgument) × (IsReceiver s op t f.1 → ⊥)
  IsFaultOfFlow f NoResult = (no_receiver t ≡ NoResult) × (IsReceiver s op t f.1 → ⊥)
  IsFaultOfFlow f (OtherType x y) = IsOfOtherType s f.0 f.1 (OtherType x y)
  IsFaultOfFlow f _ = ⊥

module _ {K A T : Type 0} (is_terminator : K → Bool) (s : ContextView K A T) (op : Ptr OperationKind) where
  -- The points of the rule that speak of one edge, in their order.
  pub record IsEdgeRight (e : EdgeView) : Type 0 where
    pub from : IsOwnPoint is_terminator s op e.from
    pub reads : All (IsOwnRead op e.from) e.reads
    pub to : IsOwnSuccessor s op e.to
    pub flows : All (IsFlowRight s op e.from e.to) e.flows
    pub once : Distinct (receivers_on e)

  -- The rule: two edges with one target have one set of receivers, and each edge is right.
  pub record HasEdgeRule (es : List EdgeView) : Type 0 where
    pub same : (d e : EdgeView) → Has es d → Has es e → d.to ≡ e.to → SameReceivers d e
    pub each : All IsEdgeRight es

  -- an edge breaks the point that a fault names
  abbrev pub IsFaultOfEdge : EdgeView → EdgeFault → Type 0
  IsFaultOfEdge e OtherReceivers = ⊥
  IsFaultOfEdge e ForeignTerminator = IsOwnPoint is_terminator s op e.from → ⊥
  IsFaultOfEdge e ForeignRead = All (IsOwnRead op e.from) e.reads → ⊥
  IsFaultOfEdge e ForeignRegion = IsOwnSuccessor s op e.to → ⊥
  IsFaultOfEdge e ReceivedTwice = Distinct (receivers_on e) → ⊥
  IsFaultOfEdge e x = (f : Flow) × (Has e.flows f × IsFaultOfFlow s op e.from e.to f x)

  -- some edge breaks the point that a fault names
  abbrev pub IsFaultOfEdges : List EdgeView → EdgeFault → Type 0
  IsFaultOfEdges es OtherReceivers = HaveOtherReceivers es
  IsFaultOfEdges es f = (e : EdgeView) × (Has es e × IsFaultOfEdge e f)

module _ {K A T E : Type 0} (own_id : T → List ℕ) (own_body : T → List Part)
    (s : ContextView K A T) where
  -- What an error reports of a fault: the point, and the texts of the types.
  abbrev pub ReportsFault : EdgeFault → RegionBranchOpInterfaceVerifyErr E → Type 0
  ReportsFault OtherReceivers ReceiverSetMismatch = Unit {0}
  ReportsFault ForeignTerminator InvalidTerminator = Unit {0}
  ReportsFault ForeignRead ReadNotOpOrSourceOperand = Unit {0}
  ReportsFault ForeignRegion ForeignRegionSuccessor = Unit {0}
  ReportsFault ForeignOperand OperandNotAtBranchPoint = Unit {0}
  ReportsFault NoArgument ReceiverNotRegionArgument = Unit {0}
  ReportsFault NoResult ReceiverNotResult = Unit {0}
  ReportsFault ReceivedTwice DuplicateReceiver = Unit {0}
  ReportsFault (OtherType t u) (FlowTypeMismatch operand receiver) =
      (string_bytes operand ≡ type_text own_id own_body s.types t) ×
      (string_bytes receiver ≡ type_text own_id own_body s.types u)
  ReportsFault _ _ = ⊥

  module _ (is_terminator : K → Bool) (op : Ptr OperationKind) (es : List EdgeView) where
    -- the error reports a point that some edge breaks
    abbrev pub ReportsEdgeFault : RegionBranchOpInterfaceVerifyErr E → Type 0
    ReportsEdgeFault e = (f : EdgeFault) × (IsFaultOfEdges is_terminator s op es f × ReportsFault f e)

    -- The layout is wrong, and this is its refusal; or it is right, and the error reports a point that some edge
    -- breaks.
    abbrev pub IsEdgeRuleFault : (layout : Type 0) (layout_refusal : E → Type 0) → RegionBranchOpInterfaceVerifyErr E →
        Type 0
    IsEdgeRuleFault layout layout_refusal (Layout e) = (layout → ⊥) × layout_refusal e
    IsEdgeRuleFault layout layout_refusal e = layout × ReportsEdgeFault e

-- the refusal of region edges, at the operation's location; or memory was refused
abbrev pub IsEdgeRuleRefusal : {D K A T E : Type 0} → op_set.Ghosts D K A T E →
    (layout : ContextView K A T → Type 0) (reports : ContextView K A T → E → Type 0)
    → (edges : ContextView K A T → List EdgeView) → ContextView K A T → Ptr OperationKind →
    VerifyErr (RegionBranchOpInterfaceVerifyErr E) → Type 0
IsEdgeRuleRefusal o layout reports edges s op =
    IsRefusalMemoryAside s op (IsEdgeRuleFault o.type_id o.type_body_text s o.is_terminator op (edges s) (layout s)
    (reports s))
