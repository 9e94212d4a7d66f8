-- What the dialect's operations call and hand back, and where they go on.
use Rattle.std.specs.Prelude.{ℕ, List, [], ◌∷◌, length, Option, Some, None, option_map, codes}
use Rattle.plir_data.specs.AttrView.{AttrView}
use Rattle.plir_data.specs.Dictionary.{dict_get}
use Rattle.plir_core.specs.declared.value.Value.{Value}
use Rattle.plir_core.specs.Contents.{OpView}
use Rattle.plir_builtin.specs.Symbols.{name_in}
use Rattle.plir_flow.specs.Branches.{Range as Places}
use Rattle.plir_flow.specs.declared.calls.CallOpCallable.TheVariants.{Direct}
use Rattle.plir_flow_sets.specs.Calls.{CallView}
use Rattle.sample_dialect.specs.declared.kinds.SampleKind.{SampleKind}
use Rattle.sample_dialect.specs.declared.kinds.SampleKind.TheVariants.{Call, Return, Branch, CondBranch}

-- the places of all operands, and those behind the first one
abbrev pub all_places : List Value → Places
all_places operands = (0, length operands)

abbrev pub rest_places : List Value → Option Places
rest_places [] = None
rest_places (v ∷ vs) = Some (1, length (v ∷ vs))

-- the name of what is called, by the attributes of a call
abbrev pub callee_in : {A : Type 0} → List (List ℕ × AttrView A) → Option (List ℕ)
callee_in attributes = name_in (dict_get attributes (codes "callee"))

-- a call of the function of a name, with all operands
abbrev pub named_call : List Value → List ℕ → CallView
named_call operands name = record { callee = Direct name; arguments = all_places operands }

module _ {K A : Type 0} where
  -- what an operation of a kind calls
  abbrev pub call_of : SampleKind → OpView K A → Option CallView
  call_of Call held = option_map (named_call held.operands) (callee_in held.attributes)
  call_of _ held = None

  -- what it hands back
  abbrev pub returned_of : SampleKind → OpView K A → Option Places
  returned_of Return held = Some (all_places held.operands)
  returned_of _ held = None

  -- what it forwards to each of its successors
  abbrev pub forwards_of : SampleKind → OpView K A → Option Places
  forwards_of Branch held = Some (all_places held.operands)
  forwards_of CondBranch held = rest_places held.operands
  forwards_of _ held = None
