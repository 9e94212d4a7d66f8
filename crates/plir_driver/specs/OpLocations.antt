-- The lines that list operations with their places in a text.
use Rattle.std.specs.Prelude.{◌≡◌, ℕ, List, [], ◌++◌, codes, Option, Some, None}
use Rattle.std.specs.Fmt.{decimal}
use Rattle.plir_data.specs.declared.location.Location.{Location}
use Rattle.plir_data.specs.declared.location.Location.TheVariants.{CallSite, SrcPos, Unknown}
use Rattle.plir_core.specs.declared.ptr.Ptr.{Ptr}
use Rattle.plir_core.specs.declared.ptr.Operation.{Operation as OperationKind}
use Rattle.plir_core.specs.declared.ptr.IRNode.{IRNode}
use Rattle.plir_core.specs.declared.ptr.IRNode.TheVariants.{Operation, Region, BasicBlock}
use Rattle.plir_core.specs.ContextView.{ContextView, location_of}
use Rattle.plir_driver.specs.NodeLines.{AreNodesPut}
use Rattle.plir_pictures.specs.NodeNames.{op_name}

-- what stands behind the name of an operation: its place, if that is known, and that of the call in place of which it
-- stands
abbrev pub location_behind : Location → List ℕ
location_behind Unknown = []
location_behind (SrcPos line column) = codes " at " ++ (decimal line ++ (codes ":" ++ decimal column))
location_behind (CallSite line column call_line call_column) =
    codes " at " ++ (decimal line ++ (codes ":" ++ (decimal column ++ (codes " called at " ++ (decimal call_line
    ++ (codes ":" ++ decimal call_column))))))

abbrev pub behind_name : Option Location → List ℕ
behind_name None = []
behind_name (Some location) = location_behind location

module _ {K A T : Type 0} (own : K → List ℕ) (s : ContextView K A T) where
  -- the line of an operation: its name, and its place
  abbrev pub op_line : Ptr OperationKind → List ℕ
  op_line p = op_name own s p ++ (behind_name (location_of s p) ++ codes "\n")

  -- what is told of a node: the line of an operation, and nothing of others
  abbrev pub IsLocationLine : IRNode → List ℕ → Type 0
  IsLocationLine (Operation p) line = line ≡ op_line p
  IsLocationLine (Region r) line = line ≡ []
  IsLocationLine (BasicBlock b) line = line ≡ []

  -- a text lists the operations of the tree with their places
  abbrev pub AreLocated : (root : Ptr OperationKind) → List ℕ → Type 0
  AreLocated root t = AreNodesPut s root IsLocationLine [] t
