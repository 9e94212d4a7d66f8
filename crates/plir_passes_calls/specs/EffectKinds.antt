-- What the queries of the toy's kinds answer.
use Rattle.std.specs.Prelude.{ℕ, Bool, true, false, List, codes}
use Rattle.plir_data.specs.declared.op_set.OpKind.{OpKind}
use Rattle.plir_data.specs.declared.op_set.OpKind.TheVariants.{Module, Func, Constant, ForwardRef, Own}
use Rattle.plir_passes_calls.specs.declared.passes.toy.ToyKind.{ToyKind}
use Rattle.plir_passes_calls.specs.declared.passes.toy.ToyKind.TheVariants.{Add, Load, Call, Yield, Old, New}

-- whether an operation of the kind ends its block
abbrev pub is_yield : ToyKind → Bool
is_yield Add = false
is_yield Load = false
is_yield Call = false
is_yield Yield = true
is_yield Old = false
is_yield New = false

-- whether it uses symbols
abbrev pub is_call : ToyKind → Bool
is_call Add = false
is_call Load = false
is_call Call = true
is_call Yield = false
is_call Old = false
is_call New = false

-- whether it does something besides its results
abbrev pub has_effect : ToyKind → Bool
has_effect Add = false
has_effect Load = true
has_effect Call = true
has_effect Yield = false
has_effect Old = true
has_effect New = true

abbrev pub id_of : ToyKind → List ℕ
id_of Add = codes "toy.add"
id_of Load = codes "toy.load"
id_of Call = codes "toy.call"
id_of Yield = codes "toy.yield"
id_of Old = codes "toy.old"
id_of New = codes "toy.new"

-- whether it is to be replaced
abbrev pub is_old_kind : ToyKind → Bool
is_old_kind Add = false
is_old_kind Load = false
is_old_kind Call = false
is_old_kind Yield = false
is_old_kind Old = true
is_old_kind New = false

abbrev pub is_old : OpKind ToyKind → Bool
is_old Module = false
is_old Func = false
is_old Constant = false
is_old ForwardRef = false
is_old (Own k) = is_old_kind k
