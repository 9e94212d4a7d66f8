-- What the kind of the last operation of a block says of it.
use Rattle.std.proofs.Common.{◌≡◌, Bool, cond, Some, None, refl, sym, ◌∙◌, ap}
use Rattle.std.specs.Prelude.{IfSome}
use Rattle.plir_data.specs.declared.op_set.OpKind.{OpKind}
use Rattle.plir_data.specs.declared.op_set.OpKind.TheVariants.{Module, Func, Constant, ForwardRef, Own}
use Rattle.plir_core.specs.declared.ptr.Ptr.{Ptr}
use Rattle.plir_core.specs.declared.ptr.Operation.{Operation as OperationKind}
use Rattle.plir_core.specs.declared.ptr.BasicBlock.{BasicBlock as BasicBlockKind}
use Rattle.plir_core.specs.declared.ptr.IRNode.TheVariants.{Operation, BasicBlock}
use Rattle.plir_core.specs.declared.interface.Interface.TheVariants.{Terminator}
use Rattle.plir_core.specs.Interfaces.{implements}
use Rattle.plir_core.specs.ContextView.{ContextView, IsLive, op_at, kind_in, kind_of, last_child}
use Rattle.plir_core.specs.Terminator.{is_terminator_kind, if_terminator, terminator_of}
use Rattle.plir_core.proofs.Listing.{some_value}
use Rattle.plir_core.proofs.Seats.{live_some}

module _ {K : Type 0} (t y b u : K → Bool) where
  ends : (k : OpKind K) → implements t y b u k Terminator ≡ is_terminator_kind t (Some k)
  ends Module = refl
  ends Func = refl
  ends Constant = refl
  ends ForwardRef = refl
  ends (Own k) = refl

  module _ {A T : Type 0} (s : ContextView K A T) (o : Ptr OperationKind) (live : IsLive s (Operation o)) where
    -- what `op_impls` answers of a terminator
    pub terminator_told : (r : Bool) → IfSome (kind_of s o) (λ k. r ≡ implements t y b u k Terminator) →
        is_terminator_kind t (kind_of s o) ≡ r
    terminator_told r told =
        let v = some_value (op_at s o) (live_some s.nodes.ops o.slot o.version live) in
        let is : kind_of s o ≡ Some (v.0).kind = ap kind_in v.1 in
        let here : r ≡ implements t y b u (v.0).kind Terminator = rw is at told in
        ap (is_terminator_kind t) is ∙ sym (ends (v.0).kind) ∙ sym here

    pub if_told : (r : Bool) (p : Ptr BasicBlockKind) → Some (Operation o) ≡ last_child s (BasicBlock p) → IfSome
        (kind_of s o) (λ k. r ≡ implements t y b u k Terminator) → terminator_of t s p ≡ cond r (Some (Operation o))
        None
    if_told r p e told = ap (if_terminator t s) (sym e) ∙ ap
        (λ z. cond z (Some (Operation o)) None) (terminator_told r told)
