-- Operations that are right: they have the rules of their kinds, and hold valid attributes.
use Rattle.std.specs.Prelude.{◌≡◌, true, ℕ, List, Some}
use Rattle.plir_store.specs.Members.{Has}
use Rattle.plir_data.specs.AttrVerify.{attr_is_valid}
use Rattle.plir_data.specs.AttrView.{AttrView}
use Rattle.plir_data.specs.declared.op_set.OpKind.TheVariants.{Module, Func, Constant, ForwardRef, Own}
use Rattle.plir_data.specs.declared.op_set.OpSet as op_set
use Rattle.plir_core.specs.declared.ptr.Ptr.{Ptr}
use Rattle.plir_core.specs.declared.ptr.Operation.{Operation as OperationKind}
use Rattle.plir_core.specs.declared.ptr.IRNode.TheVariants.{Operation}
use Rattle.plir_core.specs.ContextView.{ContextView, attributes_of, children, kind_of}
use Rattle.plir_walk.specs.Tree.{IsUnder}
use Rattle.plir_builtin.specs.OpRules.{HasModuleRules, HasFuncRules, HasConstantRules}
use Rattle.plir_builtin.specs.SymbolUses.{UseRule}

module _ {D K A T E : Type 0} (o : op_set.Ghosts D K A T E) (uses_hold rule : UseRule K A T) (s : ContextView K A T) where
  -- An operation has the rules of its kind: one of an own kind what the op set asks by `rule`. It is no forward
  -- reference, for which there are none.
  pub record HasKindRules (p : Ptr OperationKind) : Type 0 where
    pub module_rules : kind_of s p ≡ Some Module →
        HasModuleRules o.is_symbol o.is_symbol_table o.is_symbol_user uses_hold s p
    pub func_rules : kind_of s p ≡ Some Func → HasFuncRules s p
    pub constant_rules : kind_of s p ≡ Some Constant → HasConstantRules o.attr_type s p
    pub no_forward_ref : kind_of s p ≡ Some ForwardRef → ⊥
    pub own_rule : (k : K) → kind_of s p ≡ Some (Own k) → rule s p

  -- an attribute under a key is valid
  abbrev pub IsValid : List ℕ × AttrView A → Type 0
  IsValid e = attr_is_valid (o.attr_is_valid s.types) s.types e.1 ≡ true

  -- an operation has the rules of its kind, and each attribute that it holds is valid
  pub record HasRules (p : Ptr OperationKind) : Type 0 where
    pub of_kind : HasKindRules p
    pub attributes : (e : List ℕ × AttrView A) → Has (attributes_of s p) e → IsValid e

  -- an operation and all operations below it are so
  abbrev pub AllHaveRules : Ptr OperationKind → Type 0
  AllHaveRules root = (p : Ptr OperationKind) → IsUnder (children s) (Operation root) (Operation p) → HasRules p
