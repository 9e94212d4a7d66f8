-- The names that operations use, and which symbols are private.
use Rattle.std.specs.Prelude.{ℕ, Bool, false, List, [], Option, Some, None}
use Rattle.plir_core.specs.Contents.{OpView}

-- the names that are used by what an operation holds, where `names` gives those of one
abbrev pub names_in : {K A : Type 0} → (OpView K A → List (List ℕ)) → Option (OpView K A) → List (List ℕ)
names_in names None = []
names_in names (Some o) = names o

-- whether what an operation holds makes it private
abbrev pub is_private_in : {K A : Type 0} → (OpView K A → Bool) → Option (OpView K A) → Bool
is_private_in private None = false
is_private_in private (Some o) = private o
