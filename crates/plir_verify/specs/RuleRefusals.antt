-- What is reported of a tree in which an operation is not right.
use Rattle.std.specs.Prelude.{◌≡◌, ◌⊎◌, true, false, ℕ, List, ◌∷◌, ◌++◌, Some, Result, Ok, Err}
use Rattle.std.specs.declared.ops.ControlFlow.{ControlFlow}
use Rattle.std.specs.declared.ops.ControlFlow.TheVariants.{Continue, Break}
use Rattle.plir_store.specs.Members.{Has}
use Rattle.plir_data.specs.AttrVerify.{attr_is_valid, IsRefusal}
use Rattle.plir_data.specs.AttrView.{AttrView}
use Rattle.plir_data.specs.declared.attr_verify.AttrVerifyErr.{AttrVerifyErr}
use Rattle.plir_data.specs.declared.location.Location.{Location}
use Rattle.plir_data.specs.declared.location.VerifyErr.{VerifyErr}
use Rattle.plir_data.specs.declared.location.VerifyErr.TheVariants.{Refused, Memory}
use Rattle.plir_data.specs.declared.op_set.OpKind.TheVariants.{Module, Func, Constant, ForwardRef, Own as OwnKind}
use Rattle.plir_data.specs.declared.op_set.OpSet as op_set
use Rattle.plir_core.specs.declared.ptr.Ptr.{Ptr}
use Rattle.plir_core.specs.declared.ptr.Operation.{Operation as OperationKind}
use Rattle.plir_core.specs.declared.ptr.IRNode.TheVariants.{Operation}
use Rattle.plir_core.specs.ContextView.{ContextView, attributes_of, children, kind_of, location_of}
use Rattle.plir_walk.specs.declared.config.TheConstants.{WALKCONFIG_PREORDER_FORWARD as pre_forward}
use Rattle.plir_walk.specs.declared.interruptible.WalkContinue.{WalkContinue}
use Rattle.plir_walk.specs.declared.interruptible.WalkContinue.TheVariants.{Advance}
use Rattle.plir_walk.specs.Tree.{IsUnder, NodeBefore}
use Rattle.plir_builtin.specs.declared.op_verify_err.OpVerifyErr.{OpVerifyErr}
use Rattle.plir_builtin.specs.OpRefusals.{IsModuleRefusal, IsFuncRefusal, IsConstantOpRefusal, IsForwardRefRefusal}
use Rattle.plir_builtin.specs.SymbolUses.{UseRule, UseRefusal, IsUseRefusal}
use Rattle.plir_verify.specs.declared.tree_err.TreeVerifyErr.{TreeVerifyErr}
use Rattle.plir_verify.specs.declared.tree_err.TreeVerifyErr.TheVariants.{Op, Own, Attr}
use Rattle.plir_verify.specs.Rules.{HasKindRules, HasRules, IsValid}

-- what the answer of the verifier of a builtin operation, and of an own one, is reported as
abbrev pub of_builtin : {E : Type 0} → Result (Unit {0}) (VerifyErr (OpVerifyErr E)) →
    Result (Unit {0}) (VerifyErr (TreeVerifyErr E))
of_builtin (Ok u) = Ok u
of_builtin (Err (Refused l e)) = Err (Refused l (Op e))
of_builtin (Err Memory) = Err Memory

abbrev pub of_own : {E : Type 0} → Result (Unit {0}) (VerifyErr E) → Result (Unit {0}) (VerifyErr (TreeVerifyErr E))
of_own (Ok u) = Ok u
of_own (Err (Refused l e)) = Err (Refused l (Own e))
of_own (Err Memory) = Err Memory

-- an operation is of a kind of the user's own
abbrev pub IsOwn : {K A T : Type 0} → ContextView K A T → Ptr OperationKind → Type 0
IsOwn {K} s p = (k : K) × (kind_of s p ≡ Some (OwnKind k))

module _ {D K A T E : Type 0} (o : op_set.Ghosts D K A T E) (s : ContextView K A T) (p : Ptr OperationKind) where
  -- Of what an operation holds an attribute is the first that is not valid, and this error may be reported of it.
  pub record IsFirstInvalid (err : AttrVerifyErr E) : Type 0 where
    pub front : List (List ℕ × AttrView A)
    pub entry : List ℕ × AttrView A
    pub back : List (List ℕ × AttrView A)
    pub held : attributes_of s p ≡ front ++ entry ∷ back
    pub before : (e : List ℕ × AttrView A) → Has front e →
        attr_is_valid (o.attr_is_valid s.types) s.types e.1 ≡ true
    pub invalid : attr_is_valid (o.attr_is_valid s.types) s.types entry.1 ≡ false
    pub reported : IsRefusal (o.attr_is_valid s.types) (o.attr_refusal s.types) s.types entry.1 err

module _ {D K A T E : Type 0} (o : op_set.Ghosts D K A T E) (uses_hold : UseRule K A T)
    (use_refusal : UseRefusal K A T E) (rule : UseRule K A T) (rule_refusal : UseRefusal K A T E)
    (s : ContextView K A T) where
  -- An operation breaks a rule of its kind, and this is reported of it at its location, memory aside.
  abbrev pub IsKindRefusal : Ptr OperationKind → VerifyErr (TreeVerifyErr E) → Type 0
  IsKindRefusal p (Refused l (Op e)) =
      ((kind_of s p ≡ Some Module) × IsModuleRefusal s p o.kind_id o.is_symbol o.is_symbol_table o.is_symbol_user
      uses_hold use_refusal (Refused l e))
      ⊎ (((kind_of s p ≡ Some Func) × IsFuncRefusal s p (Refused l e))
      ⊎ (((kind_of s p ≡ Some Constant) × IsConstantOpRefusal s p o.attr_id o.attr_type o.type_id o.type_body_text
      (Refused l e))
      ⊎ ((kind_of s p ≡ Some ForwardRef) × IsForwardRefRefusal s p (Refused l e))))
  IsKindRefusal p (Refused l (Own e)) =
      IsOwn s p × IsUseRefusal (rule s p) (rule_refusal s p) (Refused l e)
  IsKindRefusal p (Refused l (Attr e)) = ⊥
  IsKindRefusal p Memory = Unit {0}

  -- The same, or it has the rules of its kind, and the first attribute that it holds and that is not valid is reported.
  abbrev pub IsOpRefusal : Ptr OperationKind → VerifyErr (TreeVerifyErr E) → Type 0
  IsOpRefusal p (Refused l (Attr e)) =
      HasKindRules o uses_hold rule s p × (location_of s p ≡ Some l) × IsFirstInvalid o s p e
  IsOpRefusal p v = IsKindRefusal p v

  -- Of the operations at and below a root, op is the first one, in the order of their places, that is not right, and
  -- this is reported of it.
  pub record IsFirstRefusal (root : Ptr OperationKind) (l : Location) (e : TreeVerifyErr E) : Type 0 where
    pub op : Ptr OperationKind
    pub under : IsUnder (children s) (Operation root) (Operation op)
    pub refused : IsOpRefusal op (Refused l e)
    pub before : (q : Ptr OperationKind) → IsUnder (children s) (Operation root) (Operation q) →
        NodeBefore pre_forward (children s) (Operation root) (Operation q) (Operation op) →
        HasRules o uses_hold rule s q

  -- it is reported, memory aside
  abbrev pub IsTreeRefusal : Ptr OperationKind → VerifyErr (TreeVerifyErr E) → Type 0
  IsTreeRefusal root (Refused l e) = IsFirstRefusal root l e
  IsTreeRefusal root Memory = Unit {0}

  -- What the functions that verify one operation answer one another: by its kind alone, and with what it holds.
  abbrev pub IsKindVerdict : Ptr OperationKind → Result (Unit {0}) (VerifyErr (TreeVerifyErr E)) → Type 0
  IsKindVerdict p (Ok u) = HasKindRules o uses_hold rule s p
  IsKindVerdict p (Err v) = IsKindRefusal p v

  abbrev pub IsOpVerdict : Ptr OperationKind → Result (Unit {0}) (VerifyErr (TreeVerifyErr E)) → Type 0
  IsOpVerdict p (Ok u) = HasRules o uses_hold rule s p
  IsOpVerdict p (Err v) = IsOpRefusal p v

  -- what the call of a walk at an operation answers: it goes on only where the operation is right, and breaks with what
  -- is reported of one that is not
  abbrev pub IsCallVerdict : {B : Type 0} → (B → VerifyErr (TreeVerifyErr E)) → Ptr OperationKind →
      ControlFlow B WalkContinue → Type 0
  IsCallVerdict why p (Continue k) = (k ≡ Advance) × HasRules o uses_hold rule s p
  IsCallVerdict why p (Break b) = IsOpRefusal p (why b)

module _ {D K A T E : Type 0} (o : op_set.Ghosts D K A T E) (s : ContextView K A T) (p : Ptr OperationKind) where
  -- the answer of a look at all that an operation holds
  abbrev pub AreVerified : Result (Unit {0}) (VerifyErr (AttrVerifyErr E)) → Type 0
  AreVerified (Ok u) = (e : List ℕ × AttrView A) → Has (attributes_of s p) e →
      attr_is_valid (o.attr_is_valid s.types) s.types e.1 ≡ true
  AreVerified (Err (Refused l e)) = IsFirstInvalid o s p e
  AreVerified (Err Memory) = Unit {0}
