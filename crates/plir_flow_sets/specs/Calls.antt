-- Calls, as an op set tells of them.
use Rattle.std.specs.Prelude.{◌≡◌, ◌<◌, List, [], length, Option, Some, None}
use Rattle.plir_core.specs.declared.ptr.Ptr.{Ptr}
use Rattle.plir_core.specs.declared.ptr.Operation.{Operation as OperationKind}
use Rattle.plir_core.specs.declared.value.Value.{Value}
use Rattle.plir_core.specs.Contents.{OpView}
use Rattle.plir_core.specs.ContextView.{ContextView}
use Rattle.plir_flow.specs.declared.calls.CallOpCallable.{CallOpCallable}
use Rattle.plir_flow.specs.declared.calls.CallOpCallable.TheVariants.{Direct, Indirect}
use Rattle.plir_flow.specs.Branches.{Range as Places, operands_within}
use Rattle.plir_flow.specs.Calls.{IsCalleeLive}
use Rattle.plir_flow_sets.specs.Told.{IsAmongOperands, places_of, told_of}
use Rattle.plir_flow_sets.specs.declared.call_set.Callee.{Callee}
use Rattle.plir_flow_sets.specs.declared.call_set.Callee.TheVariants as callees
use Rattle.plir_flow_sets.specs.declared.call_set.Call.{Call}

-- A call: what is called, and the places of the operands that are its arguments.
pub record CallView : Type 0 where
  pub callee : CallOpCallable
  pub arguments : Places

-- what is called, apart from what lends it
abbrev pub callable_of : Callee → CallOpCallable
callable_of (callees.Direct name) = Direct name.now
callable_of (callees.Indirect value) = Indirect value

-- the call, apart from what lends it
abbrev pub call_view : Call → CallView
call_view c = record { callee = callable_of c.callee; arguments = places_of c.arguments }

module _ {K A T : Type 0} where
  -- what is called is a live value, where it is a value; and the arguments stand among the operands
  abbrev pub IsCallLive : ContextView K A T → Ptr OperationKind → CallView → Type 0
  IsCallLive s op c = IsCalleeLive s c.callee × IsAmongOperands s op c.arguments

  -- the arguments of a call
  abbrev pub arguments_in : ContextView K A T → Ptr OperationKind → Option CallView → List Value
  arguments_in s op None = []
  arguments_in s op (Some c) = operands_within s op c.arguments

  -- the arguments of an operation that calls; one that doesn't has none
  abbrev pub arguments_of : (OpView K A → Option CallView) → ContextView K A T → Ptr OperationKind → List Value
  arguments_of calls s op = arguments_in s op (told_of calls s op)

  -- what is told of an operation is a call of this, with the operands in these places
  abbrev pub IsToldCall : (OpView K A → Option CallView) → ContextView K A T → Ptr OperationKind → CallOpCallable →
      Places → Type 0
  IsToldCall calls s op callee arguments = told_of calls s op ≡ Some (record {
    callee = callee;
    arguments = arguments;
  })

-- the name of what is called has more than 22 characters
abbrev pub HasLongName : Callee → Type 0
HasLongName (callees.Direct name) = 22 < length name.now
HasLongName (callees.Indirect value) = ⊥
