-- Operations at which arrows end, as they are collected.
use Rattle.std.specs.Prelude.{Bool}
use Rattle.std.specs.List.{list_any}
use Rattle.plir_core.specs.declared.ptr.Ptr.{Ptr}
use Rattle.plir_core.specs.declared.ptr.Operation.{Operation as OperationKind}
use Rattle.plir_symbols.specs.Reaching.{ptr_eq}
use Rattle.plir_pictures.specs.declared.ends.Ends.{Ends}

-- whether an operation is one of those at which arrows end
abbrev pub has_end : Ends → Ptr OperationKind → Bool
has_end ends p = list_any (ptr_eq p) ends.marks.keys
