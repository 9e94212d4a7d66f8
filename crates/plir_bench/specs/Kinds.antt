-- What operations of the benchmark's own kinds are, call and hand back.
use Rattle.std.specs.Prelude.{ℕ, List, Bool, true, false, Option, Some, None, codes, length, option_map}
use Rattle.plir_data.specs.AttrView.{AttrView}
use Rattle.plir_data.specs.Dictionary.{dict_get}
use Rattle.plir_core.specs.declared.value.Value.{Value}
use Rattle.plir_core.specs.Contents.{OpView}
use Rattle.plir_builtin.specs.Symbols.{name_in}
use Rattle.plir_flow.specs.Branches.{Range as Places}
use Rattle.plir_flow.specs.declared.calls.CallOpCallable.TheVariants.{Direct}
use Rattle.plir_flow_sets.specs.Calls.{CallView}
use Rattle.plir_folding.specs.Sums.{is_zero, wrapping_sum}
use Rattle.plir_folding.specs.Worth.{Integer}
use Rattle.plir_bench.specs.declared.kinds.BenchKind.{BenchKind}
use Rattle.plir_bench.specs.declared.kinds.BenchKind.TheVariants.{Sum, Call, Return}

-- the id of a kind
abbrev pub id_of : BenchKind → List ℕ
id_of Sum = codes "bench.sum"
id_of Call = codes "bench.call"
id_of Return = codes "bench.return"

-- whether an operation of the kind ends its block
abbrev pub ends_block : BenchKind → Bool
ends_block Return = true
ends_block _ = false

-- whether an operation of the kind does something besides its results
abbrev pub has_effect : BenchKind → Bool
has_effect Sum = false
has_effect _ = true

-- what an operation of the kind makes of two integers
abbrev pub fold_of : BenchKind → Integer → Integer → Option Integer
fold_of Sum a b = wrapping_sum a b
fold_of _ a b = None

-- whether the result of an operation of the kind is its other operand, where one is the integer
abbrev pub identity_of : BenchKind → Integer → Bool
identity_of Sum n = is_zero n
identity_of _ n = false

-- the places of all operands
abbrev pub all_places : List Value → Places
all_places operands = (0, length operands)

-- a call of the function of a name, with all operands
abbrev pub named_call : List Value → List ℕ → CallView
named_call operands name = record { callee = Direct name; arguments = all_places operands }

-- the name of what is called, by the attributes of a call
abbrev pub callee_in : {A : Type 0} → List (List ℕ × AttrView A) → Option (List ℕ)
callee_in attributes = name_in (dict_get attributes (codes "callee"))

module _ {K A : Type 0} where
  -- what an operation of a kind calls
  abbrev pub call_of : BenchKind → OpView K A → Option CallView
  call_of Call held = option_map (named_call held.operands) (callee_in held.attributes)
  call_of _ held = None

  -- what it hands back
  abbrev pub returned_of : BenchKind → OpView K A → Option Places
  returned_of Return held = Some (all_places held.operands)
  returned_of _ held = None
