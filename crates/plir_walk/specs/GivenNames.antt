-- Names of results of operations and of arguments of blocks.
use Rattle.std.specs.Prelude.{ℕ, ◌+◌, ◌-◌, Bool, false, cond, List, [], ◌++◌, length, replicate, Option, Some, None}
use Rattle.std.specs.Prelude.{is_none, option_and_then, unwrap_or, slice_get, slice_set, insert, remove}
use Rattle.std.specs.List.{list_all}
use Rattle.plir_data.specs.AttrView.{AttrView, leaf, given_names}
use Rattle.plir_data.specs.Dictionary.{dict_get, dict_put, dict_without}
use Rattle.plir_data.specs.Keys.{names_key}
use Rattle.plir_core.specs.declared.value.DefiningEntity.{DefiningEntity}
use Rattle.plir_core.specs.declared.value.DefiningEntity.TheVariants.{Op, Block}
use Rattle.plir_core.specs.ContextView.{ContextView, attributes_of, block_attributes_of}
use Rattle.plir_core.specs.Changes.{with_op_edit, with_block_edit}

-- The names of the first results, or arguments, in order; each may be unset.
abbrev pub Names : Type 0
Names = List (Option (List ℕ))

-- the name at a place; past the end there is none
abbrev pub name_at : Names → ℕ → Option (List ℕ)
name_at ns i = option_and_then (λ n. n) (slice_get ns i)

-- whether no name is set
abbrev pub all_unset : Names → Bool
all_unset ns = list_all is_none ns

-- names with unset ones at the end, so that there are n at least
abbrev pub padded : Names → ℕ → Names
padded ns n = ns ++ replicate (n - length ns) None

-- names with x in place of the one at i
abbrev pub set_name : Names → ℕ → Option (List ℕ) → Names
set_name ns i x = slice_set (padded ns (i + 1)) i x

-- names with x at i, where those from that place on have moved up
abbrev pub insert_name : Names → ℕ → Option (List ℕ) → Names
insert_name ns i x = insert (padded ns i) i x

-- names without the one at i, where the later ones have moved down; the same names, if there are no more than i
abbrev pub remove_name : Names → ℕ → Names
remove_name ns i = remove ns i

module _ {A : Type 0} where
  -- the names in an attribute of names
  abbrev pub names_of : AttrView A → Option Names
  names_of (leaf (given_names ns)) = Some ns
  names_of _ = None

  -- the names that stand under the key: none, if there is no attribute, or one of another kind
  abbrev pub names_under : Option (AttrView A) → Names
  names_under o = unwrap_or (option_and_then names_of o) []

  -- whether an attribute of another kind stands under the key
  abbrev pub is_other : Option (AttrView A) → Bool
  is_other None = false
  is_other (Some a) = is_none (names_of a)

  abbrev pub names_in : List (List ℕ × AttrView A) → Names
  names_in es = names_under (dict_get es names_key)

  abbrev pub has_other : List (List ℕ × AttrView A) → Bool
  has_other es = is_other (dict_get es names_key)

  -- attributes with these names, which stand under the key if any is set; else nothing does
  abbrev pub named : Names → List (List ℕ × AttrView A) → List (List ℕ × AttrView A)
  named ns es = cond (all_unset ns) (dict_without es names_key) (dict_put es names_key (leaf (given_names ns)))

module _ {K A T : Type 0} where
  -- the attributes of an operation or a block
  abbrev pub attributes_at : ContextView K A T → DefiningEntity → List (List ℕ × AttrView A)
  attributes_at s (Op p) = attributes_of s p
  attributes_at s (Block p) = block_attributes_of s p

  -- these have become f of what they were, and all else is the same
  abbrev pub with_attributes : ContextView K A T → DefiningEntity →
      (List (List ℕ × AttrView A) → List (List ℕ × AttrView A)) → ContextView K A T
  with_attributes s (Op p) f = with_op_edit s p (λ o. record o { attributes = f o.attributes })
  with_attributes s (Block p) f = with_block_edit s p (λ b. record b { attributes = f b.attributes })

  -- the names of its results or arguments
  abbrev pub names_at : ContextView K A T → DefiningEntity → Names
  names_at s e = names_in (attributes_at s e)

  -- whether an attribute of another kind stands under the key
  abbrev pub has_other_at : ContextView K A T → DefiningEntity → Bool
  has_other_at s e = has_other (attributes_at s e)

  -- these names in place of those that there were
  abbrev pub with_names : ContextView K A T → DefiningEntity → Names → ContextView K A T
  with_names s e ns = with_attributes s e (named ns)
