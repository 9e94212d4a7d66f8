-- The text of a node by the texts of what stands in it.
use Rattle.std.specs.Prelude.{◌≡◌, ℕ, ◌++◌, codes}
use Rattle.plir_data.specs.declared.op_set.OpSet as op_set
use Rattle.plir_core.specs.declared.ptr.Ptr.{Ptr}
use Rattle.plir_core.specs.declared.ptr.Operation.{Operation as OperationKind}
use Rattle.plir_core.specs.declared.ptr.Region.{Region as RegionKind}
use Rattle.plir_core.specs.declared.ptr.BasicBlock.{BasicBlock as BasicBlockKind}
use Rattle.plir_core.specs.declared.ptr.IRNode.TheVariants.{Operation, Region, BasicBlock}
use Rattle.plir_core.specs.ContextView.{ContextView}
use Rattle.plir_print.specs.OpText.{line, op_front, block_front, text_of, op_text, regions_in, blocks_in, ops_in}

-- No level is left out, however deep a node stands: the text of an operation is what stands before its regions and the
-- texts of all its regions; that of a region has those of all its blocks in braces; that of a block is its name with
-- its arguments and the texts of all its operations. Each stands as far in as n columns, the text of an operation alone
-- at none.
pub record TextsAreWhole {D K A T E : Type 0} (o : op_set.Ghosts D K A T E) (s : ContextView K A T) : Type 0 where
  pub whole : (p : Ptr OperationKind) → op_text o s p ≡ op_front o s 0 p ++ regions_in o s 0 p
  pub ops : (n : ℕ) (p : Ptr OperationKind) → text_of o s n (Operation p) ≡ op_front o s n p ++ regions_in o s n p
  pub regions : (n : ℕ) (r : Ptr RegionKind) →
      text_of o s n (Region r) ≡ line n ++ (codes "{" ++ (blocks_in o s n r ++ (line n ++ codes "}")))
  pub blocks : (n : ℕ) (b : Ptr BasicBlockKind) → text_of o s n (BasicBlock b) ≡ block_front o s b ++ ops_in o s n b
