-- The dialect of tensors.
use Rattle.std.specs.Prelude.{◌≡◌, ⊤, ℕ, List, Bool, true, false, codes, length}
use Rattle.plir_core.specs.declared.ptr.Ptr.{Ptr}
use Rattle.plir_core.specs.declared.ptr.Operation.{Operation as OperationKind}
use Rattle.plir_core.specs.ContextView.{ContextView, operands_of}
use Rattle.joined_dialects.specs.declared.my.MyKind.{MyKind}
use Rattle.joined_dialects.specs.declared.my.MyKind.TheVariants.{Fill, Show, Batch}

-- the id of a kind
abbrev pub id_of : MyKind → List ℕ
id_of Fill = codes "my.fill"
id_of Show = codes "my.show"
id_of Batch = codes "my.batch"

-- whether an operation of the kind does something besides its results
abbrev pub has_effect : MyKind → Bool
has_effect Fill = false
has_effect Show = true
has_effect Batch = true

-- an operation that shows a value has one operand
abbrev pub IsRight : {K A T : Type 0} → MyKind → ContextView K A T → Ptr OperationKind → Type 0
IsRight Fill s op = ⊤
IsRight Show s op = length (operands_of s op) ≡ 1
IsRight Batch s op = ⊤
