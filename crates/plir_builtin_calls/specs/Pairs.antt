-- What the kinds of the test set answer, and what they ask of their operations.
use Rattle.std.specs.Prelude.{◌≡◌, ℕ, List, Some, codes, length}
use Rattle.plir_data.specs.declared.op_set.OpKind.TheVariants.{Own}
use Rattle.plir_core.specs.declared.ptr.Ptr.{Ptr}
use Rattle.plir_core.specs.declared.ptr.Operation.{Operation as OperationKind}
use Rattle.plir_core.specs.ContextView.{ContextView, kind_of, operands_of}
use Rattle.plir_builtin_calls.specs.declared.verify.pairs.PairKind.{PairKind}
use Rattle.plir_builtin_calls.specs.declared.verify.pairs.PairKind.TheVariants.{Pair, Free}

abbrev pub id_of : PairKind → List ℕ
id_of Pair = codes "test.pair"
id_of Free = codes "test.free"

-- an operation that asks for two operands has two
abbrev pub IsRight : {A T : Type 0} → ContextView PairKind A T → Ptr OperationKind → Type 0
IsRight s p = kind_of s p ≡ Some (Own Pair) → length (operands_of s p) ≡ 2
