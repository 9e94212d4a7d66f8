-- Which kinds of operations are replaced where a conversion is measured.
use Rattle.std.specs.Prelude.{Bool, true, false}
use Rattle.plir_data.specs.declared.op_set.OpKind.{OpKind}
use Rattle.plir_data.specs.declared.op_set.OpKind.TheVariants.{Module, Func, Constant, ForwardRef, Own}
use Rattle.plir_bench.specs.declared.kinds.BenchKind.{BenchKind}

-- whether the kind is that of forward references
abbrev pub is_reference : OpKind BenchKind → Bool
is_reference Module = false
is_reference Func = false
is_reference Constant = false
is_reference ForwardRef = true
is_reference (Own k) = false
