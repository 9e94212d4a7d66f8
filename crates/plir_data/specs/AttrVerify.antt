-- Which attributes are valid, and how one that is not is refused.
use Rattle.std.specs.Prelude.{◌≡◌, ℕ, List, Bool, true, false, ◌&&◌, Option, Some, nat_eq}
use Rattle.plir_data.specs.Types.{TypeView, integer as integer_type, type_at}
use Rattle.plir_data.specs.AttrView.{Leaf, integer, own, AttrView, leaf, dict, vec, Items, no_items, item}
use Rattle.plir_data.specs.declared.attr_verify.AttrVerifyErr.{AttrVerifyErr}
use Rattle.plir_data.specs.declared.attr_verify.AttrVerifyErr.TheVariants.{IntegerAttrBitwidth, Own}

module _ {T : Type 0} where
  -- an integer type of this width
  abbrev pub is_of_width : ℕ → Option (TypeView T) → Bool
  is_of_width width (Some (integer_type s w)) = nat_eq w width
  is_of_width width _ = false

module _ {A T : Type 0} (own_valid : A → Bool) (types : List (TypeView T)) where
  -- the type of an integer and its value have one width; of the user's own the op set decides; what a dictionary holds
  -- isn't looked at
  abbrev pub leaf_is_valid : Leaf A → Bool
  leaf_is_valid (integer t width bits) = is_of_width width (type_at types t)
  leaf_is_valid (own a) = own_valid a
  leaf_is_valid _ = true

  abbrev mutual
    pub attr_is_valid : AttrView A → Bool
    attr_is_valid (leaf x) = leaf_is_valid x
    attr_is_valid (dict es) = true
    attr_is_valid (vec xs) = items_are_valid xs

    pub items_are_valid : Items A → Bool
    items_are_valid no_items = true
    items_are_valid (item x xs) = attr_is_valid x && items_are_valid xs

-- the first of two facts where a test holds, else the second
abbrev pub Whether : Bool → Type 0 → Type 0 → Type 0
Whether true P Q = P
Whether false P Q = Q

module _ {A E : Type 0} (own_refusal : A → E → Type 0) where
  -- the refusals that may be given for an attribute that isn't valid
  abbrev pub IsLeafRefusal : Leaf A → AttrVerifyErr E → Type 0
  IsLeafRefusal (integer t width bits) err = err ≡ IntegerAttrBitwidth (record {})
  IsLeafRefusal (own a) (Own err) = own_refusal a err
  IsLeafRefusal _ _ = ⊥

module _ {A T E : Type 0} (own_valid : A → Bool) (own_refusal : A → E → Type 0) (types : List (TypeView T)) where
  abbrev mutual
    pub IsRefusal : AttrView A → AttrVerifyErr E → Type 0
    IsRefusal (leaf x) err = IsLeafRefusal own_refusal x err
    IsRefusal (dict es) err = ⊥
    IsRefusal (vec xs) err = IsFirstRefusal xs err

    -- a refusal of the first item that isn't valid
    pub IsFirstRefusal : Items A → AttrVerifyErr E → Type 0
    IsFirstRefusal no_items err = ⊥
    IsFirstRefusal (item x xs) err = Whether (attr_is_valid own_valid types x) (IsFirstRefusal xs err) (IsRefusal x err)
