-- The rule of calls, and how it is refused.
use Rattle.std.specs.Prelude.{◌≡◌, ℕ, List, Bool, Option, Some, None, is_some, option_and_then, codes}
use Rattle.plir_data.specs.AttrCalls.{type_in_attr}
use Rattle.plir_data.specs.AttrView.{leaf, type_of}
use Rattle.plir_data.specs.Dictionary.{dict_get, dict_put}
use Rattle.plir_data.specs.Types.{TypeView, IsMarked, signature_of}
use Rattle.plir_data.specs.declared.location.VerifyErr.{VerifyErr}
use Rattle.plir_core.specs.declared.ptr.Ptr.{Ptr}
use Rattle.plir_core.specs.declared.ptr.Operation.{Operation as OperationKind}
use Rattle.plir_core.specs.ContextView.{ContextView, IsValueLive, attributes_of}
use Rattle.plir_core.specs.Changes.{with_op_edit}
use Rattle.plir_iface.specs.Verdict.{IsRefusal}
use Rattle.plir_flow.specs.declared.calls.CallOpCallable.{CallOpCallable}
use Rattle.plir_flow.specs.declared.calls.CallOpCallable.TheVariants.{Direct, Indirect}
use Rattle.plir_flow.specs.declared.calls.CallOpInterfaceErr.{CallOpInterfaceErr}
use Rattle.plir_flow.specs.declared.calls.CallOpInterfaceErr.TheVariants.{CalleeTypeAttrNotFoundErr}
use Rattle.plir_flow.specs.declared.calls.CallOpInterfaceErr.TheVariants.{CalleeTypeAttrIncorrectTypeErr}

-- the key that the type of what is called stands under
abbrev pub callee_type_key : List ℕ
callee_type_key = codes "builtin_callee_type"

-- whether a type is one of functions: whether it has a signature
abbrev pub has_signature : {T : Type 0} → (own_signature : T → Option (List ℕ × List ℕ)) → TypeView T → Bool
has_signature own_signature t = is_some (signature_of own_signature t)

module _ {K A T : Type 0} where
  -- the type that stands under the key, if an attribute of a type does
  abbrev pub callee_type_of : ContextView K A T → Ptr OperationKind → Option ℕ
  callee_type_of s op = option_and_then type_in_attr (dict_get (attributes_of s op) callee_type_key)

  -- what is called is a live value, where it is a value
  abbrev pub IsCalleeLive : ContextView K A T → CallOpCallable → Type 0
  IsCalleeLive s (Direct name) = Unit {0}
  IsCalleeLive s (Indirect v) = IsValueLive s v

  module _ (is_function : TypeView T → Bool) (s : ContextView K A T) (op : Ptr OperationKind) where
    -- the type is there, and is one of functions
    abbrev pub IsFunctionType : Option ℕ → Type 0
    IsFunctionType None = ⊥
    IsFunctionType (Some t) = IsMarked is_function s.types t

    -- The rule: an attribute of a type stands under the key, and the type is one of functions.
    abbrev pub HasCalleeType : Type 0
    HasCalleeType = IsFunctionType (callee_type_of s op)

    -- There is no attribute of a type under the key; or there is, and the type is none of functions.
    abbrev pub IsCallFault : CallOpInterfaceErr → Type 0
    IsCallFault CalleeTypeAttrNotFoundErr = callee_type_of s op ≡ None
    IsCallFault CalleeTypeAttrIncorrectTypeErr = (t : ℕ) ×
        ((callee_type_of s op ≡ Some t) × (IsMarked is_function s.types t → ⊥))

    -- the same, reported at the operation's location
    abbrev pub IsCalleeTypeRefusal : VerifyErr CallOpInterfaceErr → Type 0
    IsCalleeTypeRefusal = IsRefusal s op IsCallFault

  -- the attribute of a type has come under the key
  abbrev pub with_callee_type : ContextView K A T → Ptr OperationKind → ℕ → ContextView K A T
  with_callee_type s op t = with_op_edit s op (λ o. record o
      { attributes = dict_put o.attributes callee_type_key (leaf (type_of t)) })
