-- Headers of own operations as they are written.
use Rattle.std.specs.Prelude.{ℕ, suc, max, List}
use Rattle.plir_attr_text.specs.Terms.{TypeTerms, no_types, type_before, types_levels, EntryTerms, entries_levels}

-- The names of operands and of successors.
pub record Uses : Type 0 where
  pub operands : List (List ℕ)
  pub successors : List (List ℕ)

-- The types of operands and of results.
pub record Signature : Type 0 where
  pub operand_types : TypeTerms
  pub result_types : TypeTerms

-- how many types
abbrev pub num_types : TypeTerms → ℕ
num_types no_types = 0
num_types (type_before t ts) = suc (num_types ts)

-- What stands in the text of an operation before its regions: names of its results, its kind, what it uses, the entries
-- of its dictionary, and its types.
pub record Header (K : Type 0) : Type 0 where
  pub names : List (List ℕ)
  pub kind : K
  pub uses : Uses
  pub entries : EntryTerms
  pub signature : Signature

-- how many levels are open at the deepest place
abbrev pub signature_levels : Signature → ℕ
signature_levels t = max (types_levels t.operand_types) (types_levels t.result_types)

abbrev pub header_levels : {K : Type 0} → Header K → ℕ
header_levels h = max (entries_levels h.entries) (signature_levels h.signature)
