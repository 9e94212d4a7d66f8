-- The operation that ends a block.
use Rattle.std.specs.Prelude.{Bool, false, cond, Option, Some, None}
use Rattle.plir_data.specs.declared.op_set.OpKind.{OpKind}
use Rattle.plir_data.specs.declared.op_set.OpKind.TheVariants.{Own}
use Rattle.plir_core.specs.declared.ptr.Ptr.{Ptr}
use Rattle.plir_core.specs.declared.ptr.BasicBlock.{BasicBlock as BasicBlockKind}
use Rattle.plir_core.specs.declared.ptr.IRNode.{IRNode}
use Rattle.plir_core.specs.declared.ptr.IRNode.TheVariants.{Operation, BasicBlock}
use Rattle.plir_core.specs.ContextView.{ContextView, kind_of, last_child}

-- Whether operations of a kind are terminators; `is_terminator` tells of the user's own kinds.
module _ {K : Type 0} (is_terminator : K → Bool) where
  -- no builtin kind is one
  abbrev pub is_terminator_kind : Option (OpKind K) → Bool
  is_terminator_kind (Some (Own k)) = is_terminator k
  is_terminator_kind _ = false

  module _ {A T : Type 0} where
    -- the node, if it is a terminator
    abbrev pub if_terminator : ContextView K A T → Option IRNode → Option IRNode
    if_terminator s (Some (Operation o)) = cond (is_terminator_kind (kind_of s o)) (Some (Operation o)) None
    if_terminator s _ = None

    -- the last operation of a block, if it is a terminator
    abbrev pub terminator_of : ContextView K A T → Ptr BasicBlockKind → Option IRNode
    terminator_of s b = if_terminator s (last_child s (BasicBlock b))
