-- Names of results and arguments that are read.
use Rattle.std.proofs.Common.{◌≡◌, ℕ, zero, suc, ◌+◌, ◌<◌, Bool, true, false, cond, List, [], ◌∷◌, map, Option, Some}
use Rattle.std.proofs.Common.{None, is_none, option_map, option_and_then, refl, sym, ap, ◌∙◌, arith}
use Rattle.std.specs.List.{list_all, range_with_len}
use Rattle.std.proofs.lemmas.Option.{slice_get-map}
use Rattle.plir_data.specs.AttrView.{AttrView, leaf, given_names}
use Rattle.plir_data.specs.Dictionary.{dict_get, dict_put, is_key}
use Rattle.plir_data.specs.DictLaws.{get-other}
use Rattle.plir_data.specs.Keys.{names_key, value_key}
use Rattle.plir_walk.specs.GivenNames.{name_at, names_in, names_under}
use Rattle.plir_read.specs.Heads.{names_attributes, constant_attributes}
use Rattle.plir_roundtrip.proofs.Children.{at_row}

pub none_named : (ns : List (Option (List ℕ))) (i : ℕ) → list_all is_none ns ≡ true → name_at ns i ≡ None
none_named [] i h = refl
none_named (None ∷ ns) zero h = refl
none_named (None ∷ ns) (suc i) h = none_named ns i h
none_named (Some w ∷ ns) i h = absurd cc

module _ (A : Type 0) where
  -- names that are put under their key are read there
  pub names_again : (ns : List (Option (List ℕ))) (i : ℕ)
      → name_at (names_in (names_attributes {A = A} ns)) i ≡ name_at ns i
  names_again ns i = at (list_all is_none ns) refl
    where
      at : (t : Bool) → list_all is_none ns ≡ t
          → name_at (names_in {A = A} (cond t [] (dict_put [] names_key (leaf (given_names ns))))) i ≡ name_at ns i
      at true e = sym (none_named ns i e)
      at false e = refl

  -- and nothing else stands there
  pub no_others : (ns : List (Option (List ℕ))) (k : List ℕ) → is_key k names_key ≡ false
      → dict_get (names_attributes {A = A} ns) k ≡ None
  no_others ns k other = at (list_all is_none ns)
    where
      at : (t : Bool) → dict_get {V = AttrView A} (cond t [] (dict_put [] names_key (leaf (given_names ns)))) k ≡ None
      at true = refl
      at false = ap (λ b. cond b (Some (leaf (given_names ns))) None) other

  -- the same in a constant
  pub constant_names_again : (ns : List (Option (List ℕ))) (value : AttrView A) (i : ℕ)
      → name_at (names_in (constant_attributes ns value)) i ≡ name_at ns i
  constant_names_again ns value i =
      ap (λ z. name_at (names_under z) i) (get-other (names_attributes {A = A} ns) value_key names_key value refl)
      ∙ names_again ns i

-- the name at a place in a row
pub name_in_row : {X Y : Type 0} (name : Y → Option (List ℕ)) (term : X → Y) (f : ℕ → X) (n i : ℕ) → i < n
    → name_at (map name (map term (map f (range_with_len 0 n)))) i ≡ name (term (f i))
name_in_row name term f n i lt =
    ap (option_and_then (λ z. z)) (slice_get-map name (map term (map f (range_with_len 0 n))) i
    ∙ ap (option_map name)
    (slice_get-map term (map f (range_with_len 0 n)) i ∙ ap (option_map term) (at_row f 0 n i lt)))
    ∙ ap (λ k. name (term (f k))) (let e : 0 + i ≡ i = omega arith in e)
