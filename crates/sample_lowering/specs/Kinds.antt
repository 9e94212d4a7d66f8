-- What the queries of the kinds answer, and which kinds are sums.
use Rattle.std.specs.Prelude.{ℕ, Bool, true, false, List, codes}
use Rattle.plir_data.specs.declared.op_set.OpKind.{OpKind}
use Rattle.plir_data.specs.declared.op_set.OpKind.TheVariants.{Module, Func, Constant, ForwardRef, Own}
use Rattle.sample_lowering.specs.declared.kinds.ArithKind.{ArithKind}
use Rattle.sample_lowering.specs.declared.kinds.ArithKind.TheVariants.{Add, Neg, Sub}

-- the id of a kind
abbrev pub id_of : ArithKind → List ℕ
id_of Add = codes "arith.add"
id_of Neg = codes "arith.neg"
id_of Sub = codes "arith.sub"

abbrev is_own_sum : ArithKind → Bool
is_own_sum Add = true
is_own_sum Neg = false
is_own_sum Sub = false

-- whether operations of a kind are sums
abbrev pub is_sum : OpKind ArithKind → Bool
is_sum Module = false
is_sum Func = false
is_sum Constant = false
is_sum ForwardRef = false
is_sum (Own k) = is_own_sum k
