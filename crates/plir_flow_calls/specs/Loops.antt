-- A loop: an operation with one region in which control stays until the operation that ends the region's block hands a
-- value on.
use Rattle.std.specs.Prelude.{◌≡◌, ◌<◌, List, [], ◌∷◌, length, Some}
use Rattle.plir_core.specs.declared.ptr.Ptr.{Ptr}
use Rattle.plir_core.specs.declared.ptr.Operation.{Operation as OperationKind}
use Rattle.plir_core.specs.declared.ptr.Region.{Region as RegionKind}
use Rattle.plir_core.specs.declared.ptr.BasicBlock.{BasicBlock as BlockKind}
use Rattle.plir_core.specs.declared.ptr.IRNode.TheVariants.{Operation, Region, BasicBlock}
use Rattle.plir_core.specs.declared.value.Value.{Value}
use Rattle.plir_core.specs.declared.value.DefiningEntity.TheVariants.{Op, Block}
use Rattle.plir_core.specs.declared.uses.Use.{Use}
use Rattle.plir_core.specs.ContextView.{ContextView, IsLive, parent_of, operands_of, result_types_of, arg_types_of}
use Rattle.plir_flow.specs.RegionEdges.{EdgeView}
use Rattle.plir_flow.specs.declared.edge_ends.RegionBranchPoint.TheVariants.{Parent, Terminator}
use Rattle.plir_flow.specs.declared.edge_ends.RegionSuccessor.TheVariants.{Region as ToRegion, After}

-- The region stands in the operation, the body in the region, and the end in the body.
pub record AreNested {K A T : Type 0} (s : ContextView K A T) (op : Ptr OperationKind) (region : Ptr RegionKind)
    (body : Ptr BlockKind) (end : Ptr OperationKind) : Type 0 where
  pub region_live : IsLive s (Region region)
  pub body_live : IsLive s (BasicBlock body)
  pub end_live : IsLive s (Operation end)
  pub region_in : parent_of s (Region region) ≡ Some (Operation op)
  pub body_in : parent_of s (BasicBlock body) ≡ Some (Region region)
  pub end_in : parent_of s (Operation end) ≡ Some (BasicBlock body)

-- A loop stands so, takes a value, gives one, has one in its body, and hands one on.
pub record IsLoop {K A T : Type 0} (s : ContextView K A T) (op : Ptr OperationKind) (region : Ptr RegionKind)
    (body : Ptr BlockKind) (end : Ptr OperationKind) : Type 0 where
  pub nested : AreNested s op region body end
  pub takes : 0 < length (operands_of s op)
  pub gives : 0 < length (result_types_of s op)
  pub has : 0 < length (arg_types_of s body)
  pub hands_on : 0 < length (operands_of s end)

-- its first operand, result, argument, and what it hands on
abbrev pub first_operand : Ptr OperationKind → Use Value
first_operand op = record { op = op; index = 0; kind = record {} }

abbrev pub first_result : Ptr OperationKind → Value
first_result op = record { entity = Op op; index = 0 }

abbrev pub first_argument : Ptr BlockKind → Value
first_argument body = record { entity = Block body; index = 0 }

-- Its edges: into the region, with its operand; and from the end to behind it, with what is handed on.
abbrev pub loop_edges : Ptr OperationKind → Ptr RegionKind → Ptr BlockKind → Ptr OperationKind → List EdgeView
loop_edges op region body end =
    record {
      from = Parent;
      to = ToRegion region;
      flows = (first_operand op, first_argument body) ∷ [];
      reads =
          first_operand op ∷ [];
    }
    ∷ record { from = Terminator end; to = After; flows = (first_operand end, first_result op) ∷ []; reads = [] } ∷ []
