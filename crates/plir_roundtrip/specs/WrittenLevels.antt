-- How many levels the parts of an operation have as they are written.
use Rattle.std.specs.Prelude.{ℕ, max, cond, List, map, Option, slice_get}
use Rattle.plir_data.specs.AttrView.{AttrView, entries_of}
use Rattle.plir_data.specs.Types.{TypeView}
use Rattle.plir_data.specs.declared.op_set.OpKind.{OpKind}
use Rattle.plir_data.specs.declared.op_set.OpSet as op_set
use Rattle.plir_core.specs.declared.ptr.Ptr.{Ptr}
use Rattle.plir_core.specs.declared.ptr.Operation.{Operation as OperationKind}
use Rattle.plir_core.specs.declared.ptr.BasicBlock.{BasicBlock as BlockKind}
use Rattle.plir_core.specs.declared.ptr.IRNode.{IRNode}
use Rattle.plir_core.specs.declared.ptr.IRNode.TheVariants.{BasicBlock}
use Rattle.plir_core.specs.declared.value.Value.{Value}
use Rattle.plir_core.specs.ContextView.{ContextView, children, result_types_of}
use Rattle.plir_attr_text.specs.Terms.{type_levels, types_levels, levels, entries_levels}
use Rattle.plir_attr_text.specs.Writable.{attr_term, entry_terms}
use Rattle.plir_print.specs.Dictionaries.{is_shown, shown_of}
use Rattle.plir_print.specs.OpText.{room}
use Rattle.plir_print.specs.ValueNames.{arguments_of}
use Rattle.plir_read_ir.specs.IrTerms.{IrOp, blocks_levels, blocks_of, ops_levels, ops_of, regions_levels, regions_of}
use Rattle.plir_roundtrip.specs.Written.{some_type_term}
use Rattle.plir_roundtrip.specs.IrWritten.{block_written, ir_term_at, region_written, types_written}

-- of the types of values
abbrev pub value_levels : {K A T : Type 0} → ContextView K A T → List Value → ℕ
value_levels s vs = types_levels (types_written s vs)

-- of the type of the first result
abbrev pub result_levels : {K A T : Type 0} → ContextView K A T → Ptr OperationKind → ℕ
result_levels s p = type_levels (some_type_term s.types (slice_get (result_types_of s p) 0))

module _ {D K A T E : Type 0} (o : op_set.Ghosts D K A T E) where
  -- of an entry, if an operation of a kind shows it
  abbrev pub entry_level : List (TypeView T) → Option (OpKind K) → List ℕ × AttrView A → ℕ
  entry_level types kind e = cond (is_shown o kind e) (levels (attr_term types e.1)) 0

  -- of the entries that an operation of a kind shows
  abbrev pub shown_levels : List (TypeView T) → Option (OpKind K) → List (List ℕ × AttrView A) → ℕ
  shown_levels types kind es = entries_levels (entry_terms types (entries_of (shown_of o kind es)))

  module _ (s : ContextView K A T) where
    -- the operation at a node with all below it
    abbrev pub node_term : IRNode → IrOp K
    node_term x = ir_term_at o s (room s x) x

    -- of operations, of blocks and of regions with all below them
    abbrev pub nested_ops : List IRNode → ℕ
    nested_ops xs = ops_levels (ops_of (map node_term xs))

    abbrev pub nested_blocks : List IRNode → ℕ
    nested_blocks xs = blocks_levels (blocks_of (map (block_written s node_term) xs))

    abbrev pub nested_regions : List IRNode → ℕ
    nested_regions xs = regions_levels (regions_of (map (region_written s node_term) xs))

    -- of a block with all below it
    abbrev pub nested_block : Ptr BlockKind → ℕ
    nested_block b = max (value_levels s (arguments_of s b)) (nested_ops (children s (BasicBlock b)))
