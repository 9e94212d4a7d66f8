-- Operations of any kind of a context as they are written.
use Rattle.std.specs.Prelude.{ℕ, zero, suc, map, List, [], Option, Some, None, slice_get}
use Rattle.plir_data.specs.declared.op_set.OpKind.{OpKind}
use Rattle.plir_data.specs.declared.op_set.OpKind.TheVariants.{Module, Func, Constant, ForwardRef, Own}
use Rattle.plir_data.specs.declared.op_set.OpSet as op_set
use Rattle.plir_core.specs.declared.ptr.Ptr.{Ptr}
use Rattle.plir_core.specs.declared.ptr.Operation.{Operation as OperationKind}
use Rattle.plir_core.specs.declared.ptr.IRNode.{IRNode}
use Rattle.plir_core.specs.declared.ptr.IRNode.TheVariants.{Operation, Region, BasicBlock}
use Rattle.plir_core.specs.declared.value.Value.{Value}
use Rattle.plir_core.specs.ContextView.{ContextView, children, kind_of, operands_of, successors_of, result_types_of}
use Rattle.plir_core.specs.ContextView.{type_of_value}
use Rattle.plir_attr_text.specs.Terms.{TypeTerms, types_of, no_entries}
use Rattle.plir_builtin.specs.BuiltinOps.{value_of}
use Rattle.plir_builtin.specs.ResultNames.{result_name}
use Rattle.plir_print.specs.OpText.{room}
use Rattle.plir_print.specs.ValueNames.{block_name, value_name, results_of}
use Rattle.plir_read.specs.OpTerms.{BlockHead, module_head}
use Rattle.plir_read_own.specs.OwnTerms.{Uses, Signature, Header}
use Rattle.plir_read_ir.specs.IrTerms.{Front, bodied_front, constant_front, own_front, IrOp, ir_op, no_regions}
use Rattle.plir_read_ir.specs.IrTerms.{regions_of}
use Rattle.plir_roundtrip.specs.Written.{some_type_term, some_attr_term, block_head_term, dictionary_term, header_term}

-- what stands for an operation, where there is none: anything
abbrev pub no_front : {K : Type 0} → Front K
no_front = bodied_front (module_head [], no_entries)

abbrev pub no_op : {K : Type 0} → IrOp K
no_op = ir_op no_front no_regions

module _ {K A T : Type 0} (s : ContextView K A T) where
  -- the names of values, and their types
  abbrev pub names_of : List Value → List (List ℕ)
  names_of vs = map (value_name s) vs

  abbrev pub types_written : List Value → TypeTerms
  types_written vs = types_of (map (λ v. some_type_term s.types (type_of_value s v)) vs)

  -- what an operation uses, by the names of its operands and the labels of its successors
  abbrev pub uses_written : Ptr OperationKind → Uses
  uses_written p = record {
    operands = names_of (operands_of s p);
    successors = map (block_name s) (successors_of s p);
  }

  -- the types of its operands and of its results
  abbrev pub signature_written : Ptr OperationKind → Signature
  signature_written p = record {
    operand_types = types_written (operands_of s p);
    result_types = types_written (results_of s p);
  }

  -- a block with its operations, as `write` gives these
  abbrev pub block_written : {X : Type 0} → (write : IRNode → X) → IRNode → BlockHead × List X
  block_written write (BasicBlock b) = (block_head_term s b, map write (children s (BasicBlock b)))
  block_written write (Operation p) = (([], []), [])
  block_written write (Region r) = (([], []), [])

  -- the blocks of a region
  abbrev pub region_written : {X : Type 0} → (write : IRNode → X) → IRNode → List (BlockHead × List X)
  region_written write r = map (block_written write) (children s r)

module _ {D K A T E : Type 0} (o : op_set.Ghosts D K A T E) (s : ContextView K A T) where
  -- what stands before the regions of an operation of one's own kind
  abbrev pub own_header : K → Ptr OperationKind → Header K
  own_header k p = record {
    names = names_of s (results_of s p);
    kind = k;
    uses = uses_written s p;
    entries = dictionary_term o s p;
    signature = signature_written s p;
  }

  -- the same of an operation of any kind: of a forward reference, which stands in no text, anything
  abbrev pub front_of : Option (OpKind K) → Ptr OperationKind → Front K
  front_of (Some Module) p = bodied_front (header_term o s (Some Module) p)
  front_of (Some Func) p = bodied_front (header_term o s (Some Func) p)
  front_of (Some Constant) p = constant_front (result_name s p 0) (some_attr_term s.types (value_of s p))
      (some_type_term s.types (slice_get (result_types_of s p) 0))
  front_of (Some ForwardRef) p = no_front
  front_of (Some (Own k)) p = own_front (own_header k p)
  front_of None p = no_front

  -- the operation at a node, with at most k operations above one another
  abbrev pub ir_term_at : (k : ℕ) → IRNode → IrOp K
  ir_term_at zero x = no_op
  ir_term_at (suc k) (Operation p) = ir_op (front_of (kind_of s p) p)
      (regions_of (map (region_written s (ir_term_at k)) (children s (Operation p))))
  ir_term_at (suc k) (Region r) = no_op
  ir_term_at (suc k) (BasicBlock b) = no_op

  -- an operation with all below it, as it is written
  abbrev pub ir_term_of : Ptr OperationKind → IrOp K
  ir_term_of p = ir_term_at (room s (Operation p)) (Operation p)
