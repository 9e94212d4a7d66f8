-- The attributes that the headers of operations show.
use Rattle.std.specs.Prelude.{◌≡◌, Bool, true, ◌&&◌, is_some, length, nat_eq, Option, None, Some}
use Rattle.plir_data.specs.declared.op_set.OpKind.{OpKind}
use Rattle.plir_data.specs.declared.op_set.OpKind.TheVariants.{Module, Func, Constant, ForwardRef, Own}
use Rattle.plir_core.specs.declared.ptr.Ptr.{Ptr}
use Rattle.plir_core.specs.declared.ptr.Operation.{Operation as OperationKind}
use Rattle.plir_core.specs.declared.ptr.IRNode.{IRNode}
use Rattle.plir_core.specs.declared.ptr.IRNode.TheVariants.{Operation}
use Rattle.plir_core.specs.ContextView.{ContextView, children, kind_of, op_at, result_types_of}
use Rattle.plir_walk.specs.Tree.{IsUnder}
use Rattle.plir_builtin.specs.Symbols.{name_held}
use Rattle.plir_builtin.specs.BuiltinOps.{func_type_of, value_of}

module _ {K A T : Type 0} (s : ContextView K A T) where
  -- A module and a function have an identifier as their name, a function a type, a constant a value and one result; of
  -- other operations nothing is asked.
  abbrev pub has_header_of : Option (OpKind K) → Ptr OperationKind → Bool
  has_header_of (Some Module) p = is_some (name_held (op_at s p))
  has_header_of (Some Func) p = is_some (name_held (op_at s p)) && is_some (func_type_of s p)
  has_header_of (Some Constant) p = is_some (value_of s p) && nat_eq (length (result_types_of s p)) 1
  has_header_of (Some ForwardRef) p = true
  has_header_of (Some (Own k)) p = true
  has_header_of None p = true

  -- whether an operation has the attributes that its header shows
  abbrev pub has_header : Ptr OperationKind → Bool
  has_header p = has_header_of (kind_of s p) p

  abbrev pub HasHeader : Ptr OperationKind → Type 0
  HasHeader p = has_header p ≡ true

  -- each operation at or under a node has them
  abbrev pub IsPrintable : IRNode → Type 0
  IsPrintable n = (p : Ptr OperationKind) → IsUnder (children s) n (Operation p) → HasHeader p
