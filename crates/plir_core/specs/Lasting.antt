-- What stands beside an operation, where the operation is erased.
use Rattle.std.specs.Prelude.{◌≡◌, Option}
use Rattle.std.specs.Option.{IfSome}
use Rattle.plir_core.specs.declared.ptr.Ptr.{Ptr}
use Rattle.plir_core.specs.declared.ptr.Operation.{Operation as OperationKind}
use Rattle.plir_core.specs.declared.ptr.IRNode.TheVariants.{Operation}
use Rattle.plir_core.specs.ContextView.{ContextView, IsLive, parent_of}

-- What stood beside the operation `gone` in s, if anything did, is live in t, under the parent that it shared with it.
pub record StandsBesideAfter {K A T : Type 0} (s t : ContextView K A T) (gone : Ptr OperationKind)
    (beside : Option (Ptr OperationKind)) : Type 0 where
  pub live : IfSome beside (λ p. IsLive t (Operation p))
  pub here : IfSome beside (λ p. parent_of t (Operation p) ≡ parent_of s (Operation gone))
