-- The text of a type.
use Rattle.std.specs.Prelude.{ℕ, List, ◌++◌, codes}
use Rattle.std.specs.Fmt.{decimal}
use Rattle.plir_data.specs.OwnParts.{Part, behind_id}
use Rattle.plir_data.specs.TextParts.{parted}
use Rattle.plir_data.specs.Types.{TypeView, integer, function, unit, own}
use Rattle.plir_data.specs.Unrolled.{unrolled}
use Rattle.plir_data.specs.declared.types.Signedness.{Signedness}
use Rattle.plir_data.specs.declared.types.Signedness.TheVariants.{Signed, Unsigned, Signless}

-- what stands before the width of an integer type
abbrev pub letters : Signedness → List ℕ
letters Signed = codes "si"
letters Unsigned = codes "ui"
letters Signless = codes "i"

-- an integer type behind its id
abbrev pub integer_text : Signedness → (width : ℕ) → List ℕ
integer_text s width = letters s ++ decimal width

-- `own_id` and `own_body` give the id of a type of the user's own and the parts behind it.
module _ {T : Type 0} (own_id : T → List ℕ) (own_body : T → List Part) where
  -- the text of a type, where `text` gives those of the types that its handles name
  abbrev pub text_over : (text : ℕ → List ℕ) → TypeView T → List ℕ
  text_over text (integer s width) = codes "builtin.integer " ++ integer_text s width
  text_over text (function arguments results) = codes "builtin.function <(" ++
      (parted (codes ", ") text arguments ++ (codes ")->(" ++ (parted (codes ", ") text results ++ codes ")>")))
  text_over text unit = codes "builtin.unit"
  text_over text (own t) = own_id t ++ behind_id text (own_body t)

  module _ (types : List (TypeView T)) where
    -- the text of the type that a handle names; where it names none, that of the unit type
    abbrev pub type_text : ℕ → List ℕ
    type_text = unrolled text_over (codes "builtin.unit") types

    -- the text of a type that may not stand in the table, by those that its handles name
    abbrev pub type_text_over : TypeView T → List ℕ
    type_text_over type = text_over type_text type

    -- the texts of the types that handles name, with a comma and a space between them
    abbrev pub types_text : List ℕ → List ℕ
    types_text handles = parted (codes ", ") type_text handles
