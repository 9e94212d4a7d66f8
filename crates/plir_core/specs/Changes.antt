-- What the calls that change a context make of it.
use Rattle.std.specs.Prelude.{◌≡◌, ℕ, Option, Some, None}
use Rattle.plir_store.specs.Lists.{without_child}
use Rattle.plir_store.specs.Table.{with_content, next_slot}
use Rattle.plir_core.specs.declared.ptr.Ptr.{Ptr}
use Rattle.plir_core.specs.declared.ptr.Operation.{Operation as OperationKind}
use Rattle.plir_core.specs.declared.ptr.Region.{Region as RegionKind}
use Rattle.plir_core.specs.declared.ptr.BasicBlock.{BasicBlock as BasicBlockKind}
use Rattle.plir_core.specs.Contents.{OpView, BlockView}
use Rattle.plir_core.specs.Points.{with_op_put, with_block_put}
use Rattle.plir_core.specs.declared.arena.moving.Point.TheVariants.{AtFront, AtBack, Before, After}
use Rattle.plir_core.specs.Edits.{SameNodes, with_new_op, with_new_block, with_new_region, with_new_regions}
use Rattle.plir_core.specs.ContextView.{ContextView, op_at, block_at}

module _ {K A T : Type 0} where
  -- a new operation with n new regions, in no block
  abbrev pub with_op : ContextView K A T → OpView K A → ℕ → ContextView K A T
  with_op s v n = record s { nodes = with_new_regions (with_new_op s.nodes v) (next_slot s.nodes.ops) n }

  -- a new block, in no region
  abbrev pub with_block : ContextView K A T → BlockView A → ContextView K A T
  with_block s v = record s { nodes = with_new_block s.nodes v }

  -- an operation at the end of a block, and a block at the end of a region
  abbrev pub with_op_last : ContextView K A T → Ptr OperationKind → Ptr BasicBlockKind → ContextView K A T
  with_op_last s op block = record s { nodes = with_op_put s.nodes op (AtBack block) }

  abbrev pub with_block_last : ContextView K A T → Ptr BasicBlockKind → Ptr RegionKind → ContextView K A T
  with_block_last s block region = record s { nodes = with_block_put s.nodes block (AtBack region) }

  -- an operation at the start of a block, and a block at the start of a region
  abbrev pub with_op_first : ContextView K A T → Ptr OperationKind → Ptr BasicBlockKind → ContextView K A T
  with_op_first s op block = record s { nodes = with_op_put s.nodes op (AtFront block) }

  abbrev pub with_block_first : ContextView K A T → Ptr BasicBlockKind → Ptr RegionKind → ContextView K A T
  with_block_first s block region = record s { nodes = with_block_put s.nodes block (AtFront region) }

  -- an operation right before another one, which is the mark, and a block likewise
  abbrev pub with_op_before : ContextView K A T → Ptr OperationKind → Ptr OperationKind → ContextView K A T
  with_op_before s op mark = record s { nodes = with_op_put s.nodes op (Before mark) }

  abbrev pub with_block_before : ContextView K A T → Ptr BasicBlockKind → Ptr BasicBlockKind → ContextView K A T
  with_block_before s block mark = record s { nodes = with_block_put s.nodes block (Before mark) }

  -- an operation right after the mark, and a block likewise
  abbrev pub with_op_after : ContextView K A T → Ptr OperationKind → Ptr OperationKind → ContextView K A T
  with_op_after s op mark = record s { nodes = with_op_put s.nodes op (After mark) }

  abbrev pub with_block_after : ContextView K A T → Ptr BasicBlockKind → Ptr BasicBlockKind → ContextView K A T
  with_block_after s block mark = record s { nodes = with_block_put s.nodes block (After mark) }

  -- an operation in no block, and a block in no region, with all below it as it was
  abbrev pub with_op_unlinked : ContextView K A T → Ptr OperationKind → ContextView K A T
  with_op_unlinked s op = record s {
    nodes = record s.nodes
        { ops_in_block = without_child s.nodes.ops_in_block op.slot };
  }

  abbrev pub with_block_unlinked : ContextView K A T → Ptr BasicBlockKind → ContextView K A T
  with_block_unlinked s block = record s {
    nodes = record s.nodes
        { blocks_in_region = without_child s.nodes.blocks_in_region block.slot };
  }

  -- a new region with no block, the last one of an operation
  abbrev pub with_region : ContextView K A T → Ptr OperationKind → ContextView K A T
  with_region s op = record s { nodes = with_new_region s.nodes op.slot }

  -- another content in an operation's slot, and in a block's
  abbrev pub with_op_content : ContextView K A T → ℕ → OpView K A → ContextView K A T
  with_op_content s i v = record s { nodes = record s.nodes { ops = with_content s.nodes.ops i v } }

  abbrev pub with_block_content : ContextView K A T → ℕ → BlockView A → ContextView K A T
  with_block_content s i v = record s { nodes = record s.nodes { blocks = with_content s.nodes.blocks i v } }

  abbrev pub op_edited : ContextView K A T → ℕ → (OpView K A → OpView K A) → Option (OpView K A) → ContextView K A T
  op_edited s i f None = s
  op_edited s i f (Some v) = with_op_content s i (f v)

  abbrev pub block_edited : ContextView K A T → ℕ → (BlockView A → BlockView A) → Option (BlockView A)
      → ContextView K A T
  block_edited s i f None = s
  block_edited s i f (Some v) = with_block_content s i (f v)

  -- what an operation holds has become f of what it held, and what a block holds likewise
  abbrev pub with_op_edit : ContextView K A T → Ptr OperationKind → (OpView K A → OpView K A) → ContextView K A T
  with_op_edit s p f = op_edited s p.slot f (op_at s p)

  abbrev pub with_block_edit : ContextView K A T → Ptr BasicBlockKind → (BlockView A → BlockView A) → ContextView K A T
  with_block_edit s p f = block_edited s p.slot f (block_at s p)

  -- no live node has changed, and the types are the same
  pub record SameLive (before now : ContextView K A T) : Type 0 where
    pub nodes : SameNodes before.nodes now.nodes
    pub types : now.types ≡ before.types
