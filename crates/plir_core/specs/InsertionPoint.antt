-- Where an operation is to be put.
use Rattle.std.specs.Prelude.{Option, Some, None}
use Rattle.plir_core.specs.declared.ptr.IRNode.{IRNode}
use Rattle.plir_core.specs.declared.ptr.IRNode.TheVariants.{Operation, BasicBlock}
use Rattle.plir_core.specs.declared.insertion_point.OpInsertionPoint.{OpInsertionPoint}
use Rattle.plir_core.specs.declared.insertion_point.OpInsertionPoint.TheVariants.{Unset, AtBlockStart, AtBlockEnd}
use Rattle.plir_core.specs.declared.insertion_point.OpInsertionPoint.TheVariants.{BeforeOperation, AfterOperation}
use Rattle.plir_core.specs.ContextView.{ContextView, IsLive, parent_of}

module _ {K A T : Type 0} where
  -- what the point names, if it names anything, is live
  abbrev pub IsPointLive : ContextView K A T → OpInsertionPoint → Type 0
  IsPointLive s Unset = Unit {0}
  IsPointLive s (AtBlockStart b) = IsLive s (BasicBlock b)
  IsPointLive s (AtBlockEnd b) = IsLive s (BasicBlock b)
  IsPointLive s (BeforeOperation o) = IsLive s (Operation o)
  IsPointLive s (AfterOperation o) = IsLive s (Operation o)

  -- the block that what is put there comes to stand in
  abbrev pub insertion_block : ContextView K A T → OpInsertionPoint → Option IRNode
  insertion_block s Unset = None
  insertion_block s (AtBlockStart b) = Some (BasicBlock b)
  insertion_block s (AtBlockEnd b) = Some (BasicBlock b)
  insertion_block s (BeforeOperation o) = parent_of s (Operation o)
  insertion_block s (AfterOperation o) = parent_of s (Operation o)
