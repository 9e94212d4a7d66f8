-- The types of the op set whose types hold types.
use Rattle.std.specs.Prelude.{ℕ, List, [], ◌∷◌, ◌++◌, codes, Option, Some, None}
use Rattle.std.specs.Fmt.{decimal}
use Rattle.plir_data.specs.OwnParts.{Part, chars, held}
use Rattle.plir_tests.specs.declared.holder_set.HolderType.{HolderType}
use Rattle.plir_tests.specs.declared.holder_set.HolderType.TheVariants.{Tensor, Routine}

-- the id of a type
abbrev pub id_of : HolderType → List ℕ
id_of (Tensor t) = codes "holder.tensor"
id_of (Routine r) = codes "holder.routine"

-- the handles that a type holds
abbrev pub handles_of : HolderType → List ℕ
handles_of (Tensor t) = t.element ∷ []
handles_of (Routine r) = r.0 ++ r.1

-- the types of arguments and results
abbrev pub signature_of : HolderType → Option (List ℕ × List ℕ)
signature_of (Tensor t) = None
signature_of (Routine r) = Some (r.0, r.1)

-- types, each behind a space
abbrev pub spaced_types : List ℕ → List Part
spaced_types [] = []
spaced_types (h ∷ hs) = chars (codes " ") ∷ held h ∷ spaced_types hs

-- what stands behind the id: `<4 x T>` of a tensor, `from T T to T` of a routine
abbrev pub body_of : HolderType → List Part
body_of (Tensor t) = chars (codes "<") ∷ chars (decimal t.length) ∷ chars (codes " x ") ∷ held t.element ∷
    chars (codes ">") ∷ []
body_of (Routine r) = chars (codes "from") ∷ (spaced_types r.0 ++ (chars (codes " to") ∷ spaced_types r.1))
