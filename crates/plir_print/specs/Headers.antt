-- The headers of operations.
use Rattle.std.specs.Prelude.{ℕ, List, [], ◌++◌, codes, Option, Some, None, slice_get, unwrap_or}
use Rattle.plir_data.specs.AttrView.{AttrView}
use Rattle.plir_data.specs.TypeText.{type_text}
use Rattle.plir_data.specs.declared.op_set.OpKind.{OpKind}
use Rattle.plir_data.specs.declared.op_set.OpKind.TheVariants.{Module, Func, Constant, ForwardRef, Own}
use Rattle.plir_data.specs.declared.op_set.OpSet as op_set
use Rattle.plir_core.specs.declared.ptr.Ptr.{Ptr}
use Rattle.plir_core.specs.declared.ptr.Operation.{Operation as OperationKind}
use Rattle.plir_core.specs.declared.ptr.BasicBlock.{BasicBlock as BasicBlockKind}
use Rattle.plir_core.specs.declared.value.Value.{Value}
use Rattle.plir_core.specs.ContextView.{ContextView, kind_of, op_at, operands_of, result_types_of, successors_of}
use Rattle.plir_core.specs.ContextView.{type_of_value}
use Rattle.plir_builtin.specs.Symbols.{name_held}
use Rattle.plir_builtin.specs.BuiltinOps.{func_type_of, value_of}
use Rattle.plir_data.specs.TextParts.{parted}
use Rattle.plir_print.specs.ValueNames.{block_name, value_name, results_of}
use Rattle.plir_attr_text.specs.OpSetTexts.{attribute_text}
use Rattle.plir_print.specs.Dictionaries.{dictionary}

module _ {K A T : Type 0} (s : ContextView K A T) where
  -- the names of values, with a comma and a space between them
  abbrev pub names_text : List Value → List ℕ
  names_text vs = parted (codes ", ") (value_name s) vs

  -- a successor, with a sign before it, and the successors of an operation
  abbrev pub successor_text : Ptr BasicBlockKind → List ℕ
  successor_text b = codes "^" ++ block_name s b

  abbrev pub successors_text : Ptr OperationKind → List ℕ
  successors_text p = parted (codes ", ") successor_text (successors_of s p)

  -- `id (operands) [^successors] `
  abbrev pub uses_text : (id : List ℕ) → Ptr OperationKind → List ℕ
  uses_text id p = id ++ (codes " (" ++ (names_text (operands_of s p) ++
      (codes ") [" ++ (successors_text p ++ codes "] "))))

  -- `@` and the name of a module or a function
  abbrev pub symbol_text : Ptr OperationKind → List ℕ
  symbol_text p = codes "@" ++ unwrap_or (name_held (op_at s p)) []

module _ {D K A T E : Type 0} (o : op_set.Ghosts D K A T E) (s : ContextView K A T) where
  -- the text of a type, and of an attribute, where there is one
  abbrev pub some_type_text : Option ℕ → List ℕ
  some_type_text None = []
  some_type_text (Some handle) = type_text o.type_id o.type_body_text s.types handle

  abbrev pub some_attr_text : Option (AttrView A) → List ℕ
  some_attr_text None = []
  some_attr_text (Some a) = attribute_text o s.types a

  -- the type of a value, and the types of values, with a comma and a space between them
  abbrev pub value_type_text : Value → List ℕ
  value_type_text v = some_type_text (type_of_value s v)

  abbrev pub types_text : List Value → List ℕ
  types_text vs = parted (codes ", ") value_type_text vs

  -- `<(operand types)->(result types)>`
  abbrev pub signature_text : Ptr OperationKind → List ℕ
  signature_text p = codes "<(" ++ (types_text (operands_of s p) ++
      (codes ")->(" ++ (types_text (results_of s p) ++ codes ")>")))

  -- What stands before the attributes and regions of an operation of a kind, without a space at its end: a module's and
  -- a function's name, with the function's type, a constant's value and the type of its result, and all that an
  -- operation of the user's own has.
  abbrev pub header_of : Option (OpKind K) → Ptr OperationKind → List ℕ
  header_of (Some Module) p = codes "builtin.module " ++ symbol_text s p
  header_of (Some Func) p = codes "builtin.func " ++ (symbol_text s p ++
      (codes ": " ++ some_type_text (func_type_of s p)))
  header_of (Some Constant) p = codes "builtin.constant <" ++
      (some_attr_text (value_of s p) ++ (codes "> : " ++ some_type_text (slice_get (result_types_of s p) 0)))
  header_of (Some ForwardRef) p = codes "builtin.forward_ref"
  header_of (Some (Own k)) p = uses_text s (o.kind_id k) p ++ (dictionary o s p ++ (codes ": " ++ signature_text p))
  header_of None p = []

  abbrev pub header : Ptr OperationKind → List ℕ
  header p = header_of (kind_of s p) p
