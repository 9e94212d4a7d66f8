-- The names of results in texts.
use Rattle.std.specs.Prelude.{ℕ, List, [], ◌++◌, Option, None, Some, codes}
use Rattle.std.specs.Fmt.{decimal}
use Rattle.plir_core.specs.declared.ptr.Ptr.{Ptr}
use Rattle.plir_core.specs.declared.ptr.Operation.{Operation as OperationKind}
use Rattle.plir_core.specs.declared.value.DefiningEntity.TheVariants.{Op}
use Rattle.plir_core.specs.ContextView.{ContextView}
use Rattle.plir_core.specs.Texts.{pointer_text}
use Rattle.plir_walk.specs.GivenNames.{names_at, name_at}

-- a given name comes first, if there is one
abbrev pub given_first : Option (List ℕ) → List ℕ
given_first None = []
given_first (Some name) = name ++ codes "_"

-- the given name, the pointer, `_res`, and the index, as in `sum_op3v1_res0`
abbrev pub result_name : {K A T : Type 0} → ContextView K A T → Ptr OperationKind → ℕ → List ℕ
result_name s op i = given_first (name_at (names_at s (Op op)) i) ++ pointer_text (codes "op") op ++ codes "_res" ++
    decimal i
