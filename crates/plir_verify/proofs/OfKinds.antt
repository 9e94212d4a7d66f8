-- The rules of one kind are all that an operation of it needs, and its refusal is the operation's.
use Rattle.std.proofs.Common.{◌≡◌, Some, Result, Ok, Err, IsOk, IsErr, OnOk, IfErr, inl, inr, refl}
use Rattle.plir_data.specs.declared.location.VerifyErr.{VerifyErr}
use Rattle.plir_data.specs.declared.location.VerifyErr.TheVariants.{Refused, Memory}
use Rattle.plir_data.specs.declared.op_set.OpKind.TheVariants.{Module, Func, Constant, ForwardRef, Own}
use Rattle.plir_data.specs.declared.op_set.OpSet as op_set
use Rattle.plir_core.specs.declared.ptr.Ptr.{Ptr}
use Rattle.plir_core.specs.declared.ptr.Operation.{Operation as OperationKind}
use Rattle.plir_core.specs.ContextView.{ContextView, kind_of}
use Rattle.plir_builtin.specs.declared.op_verify_err.OpVerifyErr.{OpVerifyErr}
use Rattle.plir_builtin.specs.OpRules.{HasModuleRules, HasFuncRules, HasConstantRules}
use Rattle.plir_builtin.specs.OpRefusals.{IsModuleRefusal, IsFuncRefusal, IsConstantOpRefusal, IsForwardRefRefusal}
use Rattle.plir_builtin.specs.SymbolUses.{UseRule, UseRefusal, IsUseRefusal}
use Rattle.plir_verify.specs.Rules.{HasKindRules}
use Rattle.plir_verify.specs.declared.tree_err.TreeVerifyErr.{TreeVerifyErr}
use Rattle.plir_verify.specs.RuleRefusals.{IsKindVerdict, IsOwn, of_builtin, of_own}

module _ {D K A T E : Type 0} (o : op_set.Ghosts D K A T E) (uses_hold rule : UseRule K A T) (s : ContextView K A T)
    (p : Ptr OperationKind) where
  pub of-module : kind_of s p ≡ Some Module →
      HasModuleRules o.is_symbol o.is_symbol_table o.is_symbol_user uses_hold s p → HasKindRules o uses_hold rule s p
  of-module k r = record {
    module_rules = λ e. r;
    func_rules = λ e. absurd (let z : ⊥ = cc (k, e) in z);
    constant_rules = λ e. absurd (let z : ⊥ = cc (k, e) in z);
    no_forward_ref = λ e. (let z : ⊥ = cc (k, e) in z);
    own_rule = λ j e. absurd (let z : ⊥ = cc (k, e) in z);
  }

  pub of-func : kind_of s p ≡ Some Func → HasFuncRules s p → HasKindRules o uses_hold rule s p
  of-func k r = record {
    module_rules = λ e. absurd (let z : ⊥ = cc (k, e) in z);
    func_rules = λ e. r;
    constant_rules = λ e. absurd (let z : ⊥ = cc (k, e) in z);
    no_forward_ref = λ e. (let z : ⊥ = cc (k, e) in z);
    own_rule = λ j e. absurd (let z : ⊥ = cc (k, e) in z);
  }

  pub of-constant : kind_of s p ≡ Some Constant → HasConstantRules o.attr_type s p → HasKindRules o uses_hold rule s p
  of-constant k r = record {
    module_rules = λ e. absurd (let z : ⊥ = cc (k, e) in z);
    func_rules = λ e. absurd (let z : ⊥ = cc (k, e) in z);
    constant_rules = λ e. r;
    no_forward_ref = λ e. (let z : ⊥ = cc (k, e) in z);
    own_rule = λ j e. absurd (let z : ⊥ = cc (k, e) in z);
  }

  pub of-own : (k : K) → kind_of s p ≡ Some (Own k) → rule s p → HasKindRules o uses_hold rule s p
  of-own k e r = record {
    module_rules = λ f. absurd (let z : ⊥ = cc (e, f) in z);
    func_rules = λ f. absurd (let z : ⊥ = cc (e, f) in z);
    constant_rules = λ f. absurd (let z : ⊥ = cc (e, f) in z);
    no_forward_ref = λ f. (let z : ⊥ = cc (e, f) in z);
    own_rule = λ j f. r;
  }

  module _ (use_refusal rule_refusal : UseRefusal K A T E) where
    abbrev Verdict : Result (Unit {0}) (VerifyErr (TreeVerifyErr E)) → Type 0
    Verdict r = IsKindVerdict o uses_hold use_refusal rule rule_refusal s p r

    pub module-verdict : kind_of s p ≡ Some Module → (r : Result (Unit {0}) (VerifyErr (OpVerifyErr E)))
        → OnOk r (HasModuleRules o.is_symbol o.is_symbol_table o.is_symbol_user uses_hold s p)
        → IfErr r (IsModuleRefusal s p o.kind_id o.is_symbol o.is_symbol_table o.is_symbol_user uses_hold use_refusal)
        → Verdict (of_builtin r)
    module-verdict k (Ok u) f h = of-module k f
    module-verdict k (Err (Refused l e)) f h = inl (k, h)
    module-verdict k (Err Memory) f h = tt

    pub func-verdict : kind_of s p ≡ Some Func → (r : Result (Unit {0}) (VerifyErr (OpVerifyErr E)))
        → (IsOk r → HasFuncRules s p) → IfErr r (IsFuncRefusal s p) → Verdict (of_builtin r)
    func-verdict k (Ok u) f h = of-func k (f refl)
    func-verdict k (Err (Refused l e)) f h = inr (inl (k, h))
    func-verdict k (Err Memory) f h = tt

    pub constant-verdict : kind_of s p ≡ Some Constant → (r : Result (Unit {0}) (VerifyErr (OpVerifyErr E)))
        → OnOk r (HasConstantRules o.attr_type s p)
        → IfErr r (IsConstantOpRefusal s p o.attr_id o.attr_type o.type_id o.type_body_text) → Verdict (of_builtin r)
    constant-verdict k (Ok u) f h = of-constant k f
    constant-verdict k (Err (Refused l e)) f h = inr (inr (inl (k, h)))
    constant-verdict k (Err Memory) f h = tt

    pub forward-ref-verdict : kind_of s p ≡ Some ForwardRef → (r : Result (Unit {0}) (VerifyErr (OpVerifyErr E)))
        → IsErr r → IfErr r (IsForwardRefRefusal s p) → Verdict (of_builtin r)
    forward-ref-verdict k (Ok u) f h = absurd (let z : ⊥ = cc f in z)
    forward-ref-verdict k (Err (Refused l e)) f h = inr (inr (inr (k, h)))
    forward-ref-verdict k (Err Memory) f h = tt

    pub own-verdict : IsOwn s p → (r : Result (Unit {0}) (VerifyErr E))
        → OnOk r (rule s p) → IfErr r (IsUseRefusal (rule s p) (rule_refusal s p)) → Verdict (of_own r)
    own-verdict k (Ok u) f h = of-own k.0 k.1 f
    own-verdict k (Err (Refused l err)) f h = (k, h)
    own-verdict k (Err Memory) f h = tt
