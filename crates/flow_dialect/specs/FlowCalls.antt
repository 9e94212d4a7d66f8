-- What operations of flow call, and what they hand back.
use Rattle.std.specs.Prelude.{◌≡◌, ℕ, List, [], ◌∷◌, length, Option, Some, None, IsSome, unwrap_or, option_and_then}
use Rattle.std.specs.Prelude.{option_map, codes}
use Rattle.plir_data.specs.AttrView.{AttrView, leaf, identifier}
use Rattle.plir_data.specs.Dictionary.{dict_get}
use Rattle.plir_data.specs.declared.op_set.OpKind.TheVariants.{Own}
use Rattle.plir_core.specs.declared.ptr.Ptr.{Ptr}
use Rattle.plir_core.specs.declared.ptr.Operation.{Operation as OperationKind}
use Rattle.plir_core.specs.declared.value.Value.{Value}
use Rattle.plir_core.specs.Contents.{OpView}
use Rattle.plir_core.specs.ContextView.{ContextView, attributes_of, kind_of, operands_of}
use Rattle.plir_flow.specs.Branches.{Range as Places}
use Rattle.plir_flow.specs.declared.calls.CallOpCallable.{CallOpCallable}
use Rattle.plir_flow.specs.declared.calls.CallOpCallable.TheVariants.{Direct, Indirect}
use Rattle.plir_flow_sets.specs.Calls.{CallView}
use Rattle.flow_dialect.specs.declared.kinds.FlowKind.{FlowKind}
use Rattle.flow_dialect.specs.declared.kinds.FlowKind.TheVariants.{Call, CallValue, Return, CondBranch, Scope}
use Rattle.flow_dialect.specs.declared.kinds.FlowKind.TheVariants.{Leave}

-- the places of all operands
abbrev pub all_places : List Value → Places
all_places operands = (0, length operands)

-- a call of the function of a name, with all operands
abbrev pub named_call : List Value → List ℕ → CallView
named_call operands name = record { callee = Direct name; arguments = all_places operands }

-- a call of the first operand, with the others
abbrev pub value_call : List Value → Option CallView
value_call [] = None
value_call (v ∷ vs) = Some (record { callee = Indirect v; arguments = (1, length (v ∷ vs)) })

module _ {A : Type 0} where
  -- the name that an attribute is, if it is one
  abbrev pub name_in : AttrView A → Option (List ℕ)
  name_in (leaf (identifier name)) = Some name
  name_in _ = None

  -- the name of what is called, by the attributes of a call
  abbrev pub callee_in : List (List ℕ × AttrView A) → Option (List ℕ)
  callee_in attributes = option_and_then name_in (dict_get attributes (codes "callee"))

module _ {K A : Type 0} where
  -- what an operation of a kind calls
  abbrev pub call_of : FlowKind → OpView K A → Option CallView
  call_of Call held = option_map (named_call held.operands) (callee_in held.attributes)
  call_of CallValue held = value_call held.operands
  call_of Return held = None
  call_of CondBranch held = None
  call_of Scope held = None
  call_of Leave held = None

  -- what it hands back
  abbrev pub returned_of : FlowKind → OpView K A → Option Places
  returned_of Return held = Some (all_places held.operands)
  returned_of Call held = None
  returned_of CallValue held = None
  returned_of CondBranch held = None
  returned_of Scope held = None
  returned_of Leave held = None

module _ {A T : Type 0} (s : ContextView FlowKind A T) (op : Ptr OperationKind) where
  -- An operation is a call of a name: it is of that kind, and a name stands under the key.
  pub record IsNamedCall : Type 0 where
    pub kind : kind_of s op ≡ Some (Own Call)
    pub named : IsSome (callee_in (attributes_of s op))

  -- what it calls, and the places of its arguments
  abbrev pub named_callee : CallOpCallable
  named_callee = Direct (unwrap_or (callee_in (attributes_of s op)) [])

  abbrev pub named_arguments : Places
  named_arguments = all_places (operands_of s op)
