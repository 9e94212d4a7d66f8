-- That what a reader holds is meant by what is written.
use Rattle.std.specs.Prelude.{◌≡◌, ℕ, map, List}
use Rattle.plir_data.specs.{AttrSeen.attr_view, Types.TypeView, declared.attributes.AttrObj.AttrObj}
use Rattle.plir_attr_text.specs.{Meaning.IsMeant, Meaning.AreMeant, Terms.AttrTerm, Terms.attrs_of}

module _ {D K A T E : Type 0} (types : List (TypeView T)) where
  -- an attribute, and attributes in order
  abbrev pub IsMeantBy : AttrObj D K A T E → AttrTerm → Type 0
  IsMeantBy x t = IsMeant types t (attr_view x)

  abbrev pub AreMeantBy : List (AttrObj D K A T E) → List AttrTerm → Type 0
  AreMeantBy xs ts = AreMeant types (attrs_of ts) (map attr_view xs)

  -- a key with its attribute
  abbrev pub IsEntryMeantBy : List ℕ × AttrObj D K A T E → List ℕ × AttrTerm → Type 0
  IsEntryMeantBy e t = (e.0 ≡ t.0) × IsMeantBy e.1 t.1
