-- The types that types and attributes are made of.
use Rattle.std.specs.Prelude.{◌≡◌, ◌⊎◌}
use Rattle.plir_attr_text.specs.Terms as terms
use Rattle.plir_attr_text.specs.Terms.{TypeTerm, integer_type, function_type, unit_type, TypeTerms, no_types}
use Rattle.plir_attr_text.specs.Terms.{type_before, AttrTerm, AttrTerms, no_attrs, attr_before, EntryTerms, no_entries}
use Rattle.plir_attr_text.specs.Terms.{entry_before}

abbrev mutual
  -- the first type is the second, or one that it is made of
  pub IsPartOf : TypeTerm → TypeTerm → Type 0
  IsPartOf t (integer_type s w) = t ≡ integer_type s w
  IsPartOf t (function_type as_ rs) = (t ≡ function_type as_ rs) ⊎ (IsPartOfOne t as_ ⊎ IsPartOfOne t rs)
  IsPartOf t unit_type = t ≡ unit_type

  pub IsPartOfOne : TypeTerm → TypeTerms → Type 0
  IsPartOfOne t no_types = ⊥
  IsPartOfOne t (type_before u us) = IsPartOf t u ⊎ IsPartOfOne t us

abbrev mutual
  -- The type is that of an integer in the attribute, or part of a type that stands in it.
  pub IsHeldBy : TypeTerm → AttrTerm → Type 0
  IsHeldBy t (terms.identifier w) = ⊥
  IsHeldBy t (terms.string s) = ⊥
  IsHeldBy t (terms.bool b) = ⊥
  IsHeldBy t (terms.integer s w b) = t ≡ integer_type s w
  IsHeldBy t terms.unit = ⊥
  IsHeldBy t (terms.type u) = IsPartOf t u
  IsHeldBy t (terms.operand_segment_sizes ns) = ⊥
  IsHeldBy t (terms.given_names ns) = ⊥
  IsHeldBy t (terms.dict es) = IsHeldByEntry t es
  IsHeldBy t (terms.vec xs) = IsHeldByItem t xs

  pub IsHeldByItem : TypeTerm → AttrTerms → Type 0
  IsHeldByItem t no_attrs = ⊥
  IsHeldByItem t (attr_before x xs) = IsHeldBy t x ⊎ IsHeldByItem t xs

  pub IsHeldByEntry : TypeTerm → EntryTerms → Type 0
  IsHeldByEntry t no_entries = ⊥
  IsHeldByEntry t (entry_before k x es) = IsHeldBy t x ⊎ IsHeldByEntry t es
