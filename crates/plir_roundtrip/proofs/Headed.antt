-- An operation that can be read has what its header shows.
use Rattle.std.proofs.Common.{◌≡◌, ℕ, true, List, Option, Some, None, refl, subst}
use Rattle.plir_data.specs.declared.op_set.OpKind.{OpKind}
use Rattle.plir_data.specs.declared.op_set.OpKind.TheVariants.{Module, Func, Constant, ForwardRef, Own}
use Rattle.plir_data.specs.declared.op_set.OpSet as op_set
use Rattle.plir_core.specs.ContextView.{ContextView, kind_of}
use Rattle.plir_core.specs.declared.ptr.Ptr.{Ptr}
use Rattle.plir_core.specs.declared.ptr.Operation.{Operation as OperationKind}
use Rattle.plir_print.specs.HeaderAttrs.{has_header_of}
use Rattle.plir_roundtrip.specs.IrReadable.{IsReadableAs}

module _ {D K A T E : Type 0} (o : op_set.Ghosts D K A T E) (find : List ℕ → Option K) (s : ContextView K A T)
    (p : Ptr OperationKind) where
  pub has_its_header : (kind : Option (OpKind K)) → kind_of s p ≡ kind → IsReadableAs o find s kind p
      → has_header_of s kind p ≡ true
  has_its_header (Some Module) is readable = subst (λ k. has_header_of s k p ≡ true) is readable.header
  has_its_header (Some Func) is readable = subst (λ k. has_header_of s k p ≡ true) is readable.header
  has_its_header (Some Constant) is readable = subst (λ k. has_header_of s k p ≡ true) is readable.header
  has_its_header (Some ForwardRef) is readable = refl
  has_its_header (Some (Own k)) is readable = refl
  has_its_header None is readable = refl
