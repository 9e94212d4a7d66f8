-- Operations of a context as they are written.
use Rattle.std.specs.Prelude.{ℕ, zero, suc, List, [], map, Option, Some, None, slice_get, unwrap_or}
use Rattle.std.specs.List.{flat_map}
use Rattle.plir_data.specs.AttrView.{AttrView, entries_of}
use Rattle.plir_data.specs.TypeTree.{tree_of}
use Rattle.plir_data.specs.Types.{TypeView}
use Rattle.plir_data.specs.declared.op_set.OpKind.{OpKind}
use Rattle.plir_data.specs.declared.op_set.OpKind.TheVariants.{Func, Constant}
use Rattle.plir_data.specs.declared.op_set.OpSet as op_set
use Rattle.plir_core.specs.declared.ptr.Ptr.{Ptr}
use Rattle.plir_core.specs.declared.ptr.Operation.{Operation as OperationKind}
use Rattle.plir_core.specs.declared.ptr.BasicBlock.{BasicBlock as BlockKind}
use Rattle.plir_core.specs.declared.ptr.IRNode.{IRNode}
use Rattle.plir_core.specs.declared.ptr.IRNode.TheVariants.{Operation, Region, BasicBlock}
use Rattle.plir_core.specs.declared.value.Value.{Value}
use Rattle.plir_core.specs.ContextView.{ContextView, children, kind_of, op_at, result_types_of, type_of_value}
use Rattle.plir_attr_text.specs.Terms.{TypeTerm, unit_type, AttrTerm, unit, EntryTerms, no_entries}
use Rattle.plir_attr_text.specs.Writable.{type_term, attr_term, entry_terms}
use Rattle.plir_builtin.specs.BuiltinOps.{func_type_of, value_of}
use Rattle.plir_builtin.specs.ResultNames.{result_name}
use Rattle.plir_builtin.specs.Symbols.{name_held}
use Rattle.plir_print.specs.Dictionaries.{shown}
use Rattle.plir_print.specs.OpText.{room}
use Rattle.plir_print.specs.ValueNames.{block_name, value_name, arguments_of}
use Rattle.plir_read.specs.OpTerms.{Head, module_head, func_head, Header, Argument, BlockHead, OpTerm, op_term}
use Rattle.plir_read.specs.OpTerms.{constant_term, BlockTerm, BlockTerms, no_blocks, blocks_of}

-- what stands for an operation, or a block, where there is none: anything
abbrev pub no_op : OpTerm
no_op = op_term (module_head [], no_entries) no_blocks

abbrev pub no_block : BlockTerm
no_block = (([], []), [])

-- a type and an attribute, where there is one; else anything
module _ {T : Type 0} (types : List (TypeView T)) where
  abbrev pub some_type_term : Option ℕ → TypeTerm
  some_type_term (Some handle) = type_term (tree_of types handle)
  some_type_term None = unit_type

  abbrev pub some_attr_term : {A : Type 0} → Option (AttrView A) → AttrTerm
  some_attr_term (Some x) = attr_term types x
  some_attr_term None = unit

module _ {K A T : Type 0} (s : ContextView K A T) where
  -- an argument of a block: its name and its type
  abbrev pub argument_term : Value → Argument
  argument_term v = (value_name s v, some_type_term s.types (type_of_value s v))

  -- what stands before the operations of a block
  abbrev pub block_head_term : Ptr BlockKind → BlockHead
  block_head_term b = (block_name s b, map argument_term (arguments_of s b))

  -- the name of a module or a function
  abbrev pub symbol_of : Ptr OperationKind → List ℕ
  symbol_of p = unwrap_or (name_held (op_at s p)) []

  -- what stands before the dictionary of a function, and of a module
  abbrev pub head_term : Option (OpKind K) → Ptr OperationKind → Head
  head_term (Some Func) p = func_head (symbol_of p) (some_type_term s.types (func_type_of s p))
  head_term _ p = module_head (symbol_of p)

  -- a constant: the name of its result, its value, and its result's type
  abbrev pub constant_of : Ptr OperationKind → OpTerm
  constant_of p = constant_term (result_name s p 0) (some_attr_term s.types (value_of s p))
      (some_type_term s.types (slice_get (result_types_of s p) 0))

  -- a block, where `write` gives its operations
  abbrev pub block_term : (write : IRNode → OpTerm) → IRNode → BlockTerm
  block_term write (BasicBlock b) = (block_head_term b, map write (children s (BasicBlock b)))
  block_term write (Operation p) = no_block
  block_term write (Region r) = no_block

  -- the blocks of all regions of an operation
  abbrev pub blocks_under : Ptr OperationKind → List IRNode
  blocks_under p = flat_map (children s) (children s (Operation p))

module _ {D K A T E : Type 0} (o : op_set.Ghosts D K A T E) (s : ContextView K A T) where
  -- the entries of the dictionary that is shown
  abbrev pub dictionary_term : Ptr OperationKind → EntryTerms
  dictionary_term p = entry_terms s.types (entries_of (shown o s p))

  abbrev pub header_term : Option (OpKind K) → Ptr OperationKind → Header
  header_term kind p = (head_term s kind p, dictionary_term p)

  -- an operation of a kind with these blocks: a constant, or a module or a function
  abbrev pub term_of_kind : Option (OpKind K) → BlockTerms → Ptr OperationKind → OpTerm
  term_of_kind (Some Constant) bs p = constant_of s p
  term_of_kind kind bs p = op_term (header_term kind p) bs

  -- the operation at a node, with at most k operations above one another
  abbrev pub term_at : (k : ℕ) → IRNode → OpTerm
  term_at zero x = no_op
  term_at (suc k) (Operation p) = term_of_kind (kind_of s p)
      (blocks_of (map (block_term s (term_at k)) (blocks_under s p))) p
  term_at (suc k) (Region r) = no_op
  term_at (suc k) (BasicBlock b) = no_op

  -- an operation with all below it, as it is written
  abbrev pub op_term_of : Ptr OperationKind → OpTerm
  op_term_of p = term_at (room s (Operation p)) (Operation p)
