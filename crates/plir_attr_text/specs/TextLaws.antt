-- Laws of texts of attributes.
use Rattle.std.specs.Prelude.{◌≡◌, ◌≤◌, ℕ, List}
use Rattle.plir_data.specs.{AttrView.AttrView, OwnParts.Part, Types.TypeView, Types.IsTypeTable}
use Rattle.plir_attr_text.specs.Writable.{IsWritable, attr_term}
use Rattle.plir_attr_text.specs.{AttrText.attr_text, Meaning.StandsFor, Names.Grows, Terms.levels}

-- a text stands for one attribute at most
abbrev pub IsOfOneAttr : (A : Type 0) {T : Type 0} → (T → List ℕ) → Type 0
IsOfOneAttr A {T} own_handles = (m n : ℕ) (types : List (TypeView T)) → IsTypeTable own_handles types
    → (bytes : List ℕ) (x y : AttrView A) → StandsFor m types bytes x → StandsFor n types bytes y → x ≡ y

-- The text of an attribute stands for it, with as many levels as it has, also in a table that has grown on. The
-- functions give ids, parts of texts and type handles of the user's own attributes and types.
abbrev pub TextStands : {A T : Type 0} → (A → List ℕ) → (A → List Part) → (T → List ℕ) → (T → List Part) →
    (T → List ℕ) → Type 0
TextStands {A} {T} own_id own_body type_id type_body own_handles = (n : ℕ) (old new : List (TypeView T)) →
    IsTypeTable own_handles old → Grows old new
    → (x : AttrView A) → IsWritable old x → levels (attr_term old x) ≤ n →
    StandsFor n new (attr_text own_id own_body type_id type_body old x) x
