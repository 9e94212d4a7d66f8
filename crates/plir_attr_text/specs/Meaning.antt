-- Which attribute is meant by one that is written.
use Rattle.std.specs.Prelude.{◌≡◌, ℕ, List, [], ◌∷◌, Some}
use Rattle.plir_data.specs.Types as types
use Rattle.plir_data.specs.Types.{TypeView, type_at}
use Rattle.plir_data.specs.AttrView as views
use Rattle.plir_data.specs.AttrView.{AttrView, leaf, dict, vec, items_of, entries_of}
use Rattle.plir_data.specs.Dictionary.{dict_of}
use Rattle.plir_attr_text.specs.Terms as terms
use Rattle.plir_attr_text.specs.Terms.{AttrTerm, AttrTerms, no_attrs, attr_before, EntryTerms, no_entries, entry_before}
use Rattle.plir_attr_text.specs.{Names.Names, TypeGrammar.IsText, AttrGrammar.AttrWithin}

module _ {A T : Type 0} where
  abbrev mutual
    -- A type is meant by a handle of the table that names it. Of a key that comes again the last entry is meant.
    pub IsMeant : (table : List (TypeView T)) → AttrTerm → AttrView A → Type 0
    IsMeant table (terms.identifier w) x = x ≡ leaf (views.identifier w)
    IsMeant table (terms.string s) x = x ≡ leaf (views.string s)
    IsMeant table (terms.bool b) x = x ≡ leaf (views.bool b)
    IsMeant table (terms.integer s w b) x = (handle : ℕ) × (type_at table handle ≡ Some (types.integer s w)) ×
        (x ≡ leaf (views.integer handle w b))
    IsMeant table terms.unit x = x ≡ leaf views.unit
    IsMeant table (terms.type t) x = (handle : ℕ) × Names table handle t × (x ≡ leaf (views.type_of handle))
    IsMeant table (terms.operand_segment_sizes ns) x = x ≡ leaf (views.operand_segment_sizes ns)
    IsMeant table (terms.given_names ns) x = x ≡ leaf (views.given_names ns)
    IsMeant table (terms.dict es) x = (pairs : List (List ℕ × AttrView A)) × AreEntriesMeant table es pairs ×
        (x ≡ dict (entries_of (dict_of pairs)))
    IsMeant table (terms.vec ts) x = (xs : List (AttrView A)) × AreMeant table ts xs × (x ≡ vec (items_of xs))

    pub AreMeant : (table : List (TypeView T)) → AttrTerms → List (AttrView A) → Type 0
    AreMeant table no_attrs xs = xs ≡ []
    AreMeant table (attr_before t ts) xs = (first : AttrView A) × (more : List (AttrView A)) × IsMeant table t first ×
        AreMeant table ts more × (xs ≡ first ∷ more)

    pub AreEntriesMeant : (table : List (TypeView T)) → EntryTerms → List (List ℕ × AttrView A) → Type 0
    AreEntriesMeant table no_entries ps = ps ≡ []
    AreEntriesMeant table (entry_before k t es) ps = (first : AttrView A) × (more : List (List ℕ × AttrView A)) ×
        IsMeant table t first × AreEntriesMeant table es more × (ps ≡ (k, first) ∷ more)

  -- the dictionary that entries mean
  abbrev pub IsDictMeant : (table : List (TypeView T)) → EntryTerms → List (List ℕ × AttrView A) → Type 0
  IsDictMeant table es entries = (pairs : List (List ℕ × AttrView A)) × AreEntriesMeant table es pairs ×
      (entries ≡ dict_of pairs)

  -- the whole text stands for the attribute, with at most n levels open
  abbrev pub StandsFor : (n : ℕ) → (table : List (TypeView T)) → (bytes : List ℕ) → AttrView A → Type 0
  StandsFor n table bytes x = (t : AttrTerm) × IsText (AttrWithin n) bytes t × IsMeant table t x
