-- The ids of operations, as `dialect.name`.
use Rattle.std.specs.Prelude.{ℕ, List, codes}
use Rattle.plir_data.specs.declared.op_set.OpKind.{OpKind}
use Rattle.plir_data.specs.declared.op_set.OpKind.TheVariants.{Module, Func, Constant, ForwardRef, Own}

-- the id of a kind of operations; `own_id` gives that of the user's own
abbrev pub op_id : {K : Type 0} (own_id : K → List ℕ) → OpKind K → List ℕ
op_id own_id Module = codes "builtin.module"
op_id own_id Func = codes "builtin.func"
op_id own_id Constant = codes "builtin.constant"
op_id own_id ForwardRef = codes "builtin.forward_ref"
op_id own_id (Own k) = own_id k
