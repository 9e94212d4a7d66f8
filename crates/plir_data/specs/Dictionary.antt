-- Dictionaries: entries of keys and values, each key once, in ascending order of its bytes.
use Rattle.std.specs.Prelude.{ℕ, Bool, true, List, [], ◌∷◌, Option, Some, None, cond, ◌≡◌}
use Rattle.std.specs.Ordering.{nat_cmp, match_ordering, is_eq}
use Rattle.std.specs.declared.cmp.Ordering.TheVariants.{Less}
use Rattle.std.specs.Cmp.Lexicographic.{slice_cmp}
use Rattle.plir_data.specs.Identifier.{is_identifier}

-- whether two keys have the same bytes
abbrev pub is_key : List ℕ → List ℕ → Bool
is_key k l = is_eq (slice_cmp nat_cmp k l)

module _ {V : Type 0} where
  -- the value at a key
  abbrev pub dict_get : List (List ℕ × V) → List ℕ → Option V
  dict_get [] k = None
  dict_get (e ∷ es) k = cond (is_key k e.0) (Some e.1) (dict_get es k)

  -- the entries with v at a key, in place of what was there
  abbrev pub dict_put : List (List ℕ × V) → List ℕ → V → List (List ℕ × V)
  dict_put [] k v = (k, v) ∷ []
  dict_put (e ∷ es) k v = match_ordering (slice_cmp nat_cmp k e.0) ((k, v) ∷ e ∷ es) ((e.0, v) ∷ es) (e ∷
      dict_put es k v)

  -- the entries without a key
  abbrev pub dict_without : List (List ℕ × V) → List ℕ → List (List ℕ × V)
  dict_without [] k = []
  dict_without (e ∷ es) k = cond (is_key k e.0) es (e ∷ dict_without es k)

  -- a key is less than those of all entries
  abbrev pub IsBelowAll : List ℕ → List (List ℕ × V) → Type 0
  IsBelowAll k [] = Unit {0}
  IsBelowAll k (e ∷ es) = (slice_cmp nat_cmp k e.0 ≡ Less) × IsBelowAll k es

  -- the keys are identifiers and ascend
  abbrev pub IsDictionary : List (List ℕ × V) → Type 0
  IsDictionary [] = Unit {0}
  IsDictionary (e ∷ es) = (is_identifier e.0 ≡ true) × IsBelowAll e.0 es × IsDictionary es

  -- the entries of a list of pairs, put one after another
  abbrev pub dict_put_all : List (List ℕ × V) → List (List ℕ × V) → List (List ℕ × V)
  dict_put_all es [] = es
  dict_put_all es (p ∷ ps) = dict_put_all (dict_put es p.0 p.1) ps

  -- the dictionary of a list of pairs: of a key that comes again the last counts
  abbrev pub dict_of : List (List ℕ × V) → List (List ℕ × V)
  dict_of ps = dict_put_all [] ps
