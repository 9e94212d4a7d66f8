-- Calls that check the uses of one operation each.
use Rattle.std.proofs.Common.{◌≡◌, Bool, sym, ap, subst, ◌∙◌}
use Rattle.std.specs.FinMap as map
use Rattle.std.specs.FinMap.{get, get-empty}
use Rattle.std.proofs.lemmas.Option.{none-some}
use Rattle.std.specs.declared.ops.ControlFlow.{ControlFlow}
use Rattle.plir_data.specs.declared.location.VerifyErr.{VerifyErr}
use Rattle.plir_data.specs.declared.location.VerifyErr.TheVariants.{Refused, Memory}
use Rattle.plir_core.specs.declared.ptr.Ptr.{Ptr}
use Rattle.plir_core.specs.declared.ptr.Operation.{Operation as OperationKind}
use Rattle.plir_core.specs.declared.ptr.IRNode.TheVariants.{Operation, Region}
use Rattle.plir_core.specs.ContextView.{ContextView, children}
use Rattle.plir_walk.specs.declared.interruptible.WalkContinue.{WalkContinue}
use Rattle.plir_builtin.specs.Maps.{ptr_cmp}
use Rattle.plir_builtin.specs.Table.{Tables}
use Rattle.plir_builtin.specs.Agree.{AllAgree}
use Rattle.plir_builtin.specs.SymbolUses.{UseRule, UseRefusal, IsUserInTable, IsUseCheck, IsUseRefusal}
use Rattle.plir_builtin.specs.SymbolUses.{IsUsesRefusal, IsUsesRefusalAtTable, use_reported}
use Rattle.plir_walk.specs.declared.config.TheConstants.{WALKCONFIG_PREORDER_FORWARD as pre_forward}
use Rattle.plir_walk.specs.Tree.{NodeBefore}
use Rattle.plir_builtin.specs.declared.symbol_table_op.SymbolTableInterfaceErr.{SymbolTableInterfaceErr}

-- where no table is cached, all agree
pub agree-empty : {K A T : Type 0} (own own_table : K → Bool) (s : ContextView K A T) (c : Tables) → c ≡ map.empty
    → AllAgree own own_table s c
agree-empty own own_table s c e p t h live =
    absurd (none-some t (sym (ap (λ (z : Tables). get z p) e ∙ get-empty ptr_cmp p) ∙ h))

module _ {K A T E B : Type 0} (own own_table user : K → Bool) (holds : UseRule K A T)
    (refusal : UseRefusal K A T E) (reported : B → VerifyErr E) where
  -- the same call, as the walk sees it
  pub use-again : {e d : ContextView K A T} {u s u' s' : Tables} (p : Ptr OperationKind)
      (a : ControlFlow B WalkContinue)
      → (e ≡ d) × (u ≡ s) → u' ≡ s'
      → IsUseCheck own own_table user holds refusal reported e u p a u'
      → IsUseCheck own own_table user holds refusal reported d s p a s'
  use-again {e} {d} {u} {s} {u'} {s'} p a shows leaves h =
      subst (λ z. IsUseCheck own own_table user holds refusal reported d s p a z) leaves
      (subst (λ z. IsUseCheck own own_table user holds refusal reported d z p a u') shows.1
      (subst (λ z. IsUseCheck own own_table user holds refusal reported z u p a u') shows.0 h))

module _ {K A T E : Type 0} (own_table user : K → Bool) (holds : UseRule K A T)
    (refusal : UseRefusal K A T E) (s : ContextView K A T) (t : Ptr OperationKind) where
  -- what is reported of the first user whose uses don't hold
  pub first-reported : (e : VerifyErr E) (p : Ptr OperationKind) (u : IsUserInTable own_table s user t p)
      → IsUseRefusal (holds s p) (refusal s p) e
      → ((q : Ptr OperationKind) → IsUserInTable own_table s user t q
      → NodeBefore pre_forward (children s) (Region u.handed.region) (Operation q) (Operation p) → holds s q)
      → IsUsesRefusal own_table user holds refusal s t e
  first-reported (Refused loc err) p u r f = record { op = p; is_user = u; fails = r.0; reported = r.1; before = f }
  first-reported Memory p u r f = tt

  -- the refusal of a use, as it is reported
  pub use-fault : (e : VerifyErr E) (f : VerifyErr (SymbolTableInterfaceErr E)) → f ≡ use_reported e
      → IsUsesRefusal own_table user holds refusal s t e → IsUsesRefusalAtTable own_table user holds refusal s t f
  use-fault e f is h = subst (IsUsesRefusalAtTable own_table user holds refusal s t) (sym is) (at e h)
    where
      at : (e : VerifyErr E) → IsUsesRefusal own_table user holds refusal s t e
          → IsUsesRefusalAtTable own_table user holds refusal s t (use_reported e)
      at (Refused loc err) h = h
      at Memory h = tt
