-- The dialect of views.
use Rattle.std.specs.Prelude.{◌≡◌, ⊤, ℕ, List, Bool, true, false, codes, length}
use Rattle.plir_core.specs.declared.ptr.Ptr.{Ptr}
use Rattle.plir_core.specs.declared.ptr.Operation.{Operation as OperationKind}
use Rattle.plir_core.specs.ContextView.{ContextView, operands_of}
use Rattle.plir_dialect_tests.specs.declared.view.ViewKind.{ViewKind}
use Rattle.plir_dialect_tests.specs.declared.view.ViewKind.TheVariants.{Show, Same, Name}

-- the id of a kind
abbrev pub id_of : ViewKind → List ℕ
id_of Show = codes "view.show"
id_of Same = codes "view.same"
id_of Name = codes "view.name"

-- whether an operation of the kind names what stands elsewhere
abbrev pub is_name : ViewKind → Bool
is_name Show = false
is_name Same = false
is_name Name = true

-- whether an operation of the kind does something besides its results
abbrev pub has_effect : ViewKind → Bool
has_effect Show = true
has_effect Same = false
has_effect Name = true

-- an operation that shows a value has one operand
abbrev pub IsRight : {K A T : Type 0} → ViewKind → ContextView K A T → Ptr OperationKind → Type 0
IsRight Show s op = length (operands_of s op) ≡ 1
IsRight Same s op = ⊤
IsRight Name s op = ⊤

-- an operation that names what stands elsewhere has no operand
abbrev pub AreUsesRight : {K A T : Type 0} → ViewKind → ContextView K A T → Ptr OperationKind → Type 0
AreUsesRight Show s op = ⊤
AreUsesRight Same s op = ⊤
AreUsesRight Name s op = length (operands_of s op) ≡ 0
