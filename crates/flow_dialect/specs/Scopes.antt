-- Scopes: operations that pass control to a region, whose parts are read from the context.
use Rattle.std.specs.Prelude.{◌≡◌, ◌&&◌, nat_lt, cond, List, [], ◌∷◌, length, Option, Some, None, IsSome, unwrap_or}
use Rattle.plir_data.specs.declared.op_set.OpKind.TheVariants.{Own}
use Rattle.plir_core.specs.declared.ptr.Ptr.{Ptr}
use Rattle.plir_core.specs.declared.ptr.Operation.{Operation as OperationKind}
use Rattle.plir_core.specs.declared.ptr.Region.{Region as RegionKind}
use Rattle.plir_core.specs.declared.ptr.BasicBlock.{BasicBlock as BlockKind}
use Rattle.plir_core.specs.declared.ptr.IRNode.{IRNode}
use Rattle.plir_core.specs.declared.ptr.IRNode.TheVariants.{Operation, Region, BasicBlock}
use Rattle.plir_core.specs.declared.value.Value.{Value}
use Rattle.plir_core.specs.declared.value.DefiningEntity.TheVariants.{Block}
use Rattle.plir_core.specs.declared.uses.Use.{Use}
use Rattle.plir_core.specs.ContextView.{ContextView, arg_types_of, first_child, kind_of, last_child, operands_of}
use Rattle.plir_flow.specs.RegionEdges.{EdgeView}
use Rattle.plir_flow.specs.declared.edge_ends.RegionBranchPoint.TheVariants.{Parent, Terminator}
use Rattle.plir_flow.specs.declared.edge_ends.RegionSuccessor.TheVariants.{Region as ToRegion, After}
use Rattle.flow_dialect.specs.declared.kinds.FlowKind.{FlowKind}
use Rattle.flow_dialect.specs.declared.kinds.FlowKind.TheVariants.{Call, CallValue, Return, CondBranch, Scope}
use Rattle.flow_dialect.specs.declared.kinds.FlowKind.TheVariants.{Leave}

-- the first operand of an operation, and the first argument of a block
abbrev pub first_operand : Ptr OperationKind → Use Value
first_operand op = record { op = op; index = 0; kind = record {} }

abbrev pub first_argument : Ptr BlockKind → Value
first_argument body = record { entity = Block body; index = 0 }

-- The edges of a scope: into the region, with its first operand for an argument, and from what ends the body to behind
-- it.
abbrev pub edges_through : Ptr OperationKind → Ptr RegionKind → Value → Ptr OperationKind → List EdgeView
edges_through op region argument end =
    record {
      from = Parent;
      to = ToRegion region;
      flows = (first_operand op, argument) ∷ [];
      reads = [];
    }
    ∷ record { from = Terminator end; to = After; flows = []; reads = [] } ∷ []

module _ {K A T : Type 0} (s : ContextView K A T) (op : Ptr OperationKind) where
  -- where the operation has an operand, and the body an argument
  abbrev pub edges_with_end : Ptr RegionKind → Ptr BlockKind → Option IRNode → Option (List EdgeView)
  edges_with_end region body (Some (Operation end)) =
      cond (nat_lt 0 (length (operands_of s op)) && nat_lt 0 (length (arg_types_of s body)))
      (Some (edges_through op region (first_argument body) end)) None
  edges_with_end region body _ = None

  -- the body is the region's first block, and its last operation the end
  abbrev pub edges_with_body : Ptr RegionKind → Option IRNode → Option (List EdgeView)
  edges_with_body region (Some (BasicBlock body)) = edges_with_end region body (last_child s (BasicBlock body))
  edges_with_body region _ = None

  -- the region is the operation's first
  abbrev pub edges_with_region : Option IRNode → Option (List EdgeView)
  edges_with_region (Some (Region region)) = edges_with_body region (first_child s (Region region))
  edges_with_region _ = None

  -- the edges of an operation, as those of a scope
  abbrev pub scope_edges : Option (List EdgeView)
  scope_edges = edges_with_region (first_child s (Operation op))

-- the edges of an operation of a kind
abbrev pub edges_of : {K A T : Type 0} → FlowKind → ContextView K A T → Ptr OperationKind → Option (List EdgeView)
edges_of Scope s op = scope_edges s op
edges_of Call s op = None
edges_of CallValue s op = None
edges_of Return s op = None
edges_of CondBranch s op = None
edges_of Leave s op = None

module _ {A T : Type 0} (s : ContextView FlowKind A T) (op : Ptr OperationKind) where
  -- An operation is a scope: it is of that kind, and its parts are there.
  pub record IsScope : Type 0 where
    pub kind : kind_of s op ≡ Some (Own Scope)
    pub parts : IsSome (scope_edges s op)

  -- its edges, if its parts are there
  abbrev pub edges_or_none : List EdgeView
  edges_or_none = unwrap_or (scope_edges s op) []
