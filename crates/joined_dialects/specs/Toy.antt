-- The dialect of sums and negations.
use Rattle.std.specs.Prelude.{◌≡◌, ⊤, ℕ, List, Option, None, codes, length}
use Rattle.plir_core.specs.declared.ptr.Ptr.{Ptr}
use Rattle.plir_core.specs.declared.ptr.Operation.{Operation as OperationKind}
use Rattle.plir_core.specs.ContextView.{ContextView, operands_of}
use Rattle.plir_folding.specs.Worth.{Integer}
use Rattle.plir_folding.specs.Sums.{wrapping_sum}
use Rattle.joined_dialects.specs.declared.toy.ToyKind.{ToyKind}
use Rattle.joined_dialects.specs.declared.toy.ToyKind.TheVariants.{Add, Neg}

-- the id of a kind
abbrev pub id_of : ToyKind → List ℕ
id_of Add = codes "toy.add"
id_of Neg = codes "toy.neg"

-- what an operation makes of two integers
abbrev pub fold_of : ToyKind → Integer → Integer → Option Integer
fold_of Add a b = wrapping_sum a b
fold_of Neg a b = None

-- an operation that adds two values has two operands
abbrev pub IsRight : {K A T : Type 0} → ToyKind → ContextView K A T → Ptr OperationKind → Type 0
IsRight Add s op = length (operands_of s op) ≡ 2
IsRight Neg s op = ⊤
