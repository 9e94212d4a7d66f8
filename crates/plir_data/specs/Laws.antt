-- Laws of dictionaries and types.
use Rattle.std.specs.Prelude.{◌≡◌, ◌↔◌, ℕ, zero, suc, List, ◌∷◌, ◌++◌, Some, false, All}
use Rattle.plir_data.specs.AttrLive.{IsAttrLive, HandlesLive}
use Rattle.plir_data.specs.AttrView.{AttrView, dict, vec, entries_of, items_of}
use Rattle.plir_data.specs.Dictionary.{IsDictionary, dict_of, is_key}
use Rattle.plir_data.specs.TypeTree.{tree_over, tree_of}
use Rattle.plir_data.specs.Types.{TypeView, type_at}

module _ {V : Type 0} where
  -- One list becomes the other in n steps, each of which exchanges two neighbours with different keys. So any two lists
  -- with the same pairs are reordered, where the keys are distinct.
  abbrev pub IsReordered : ℕ → List (List ℕ × V) → List (List ℕ × V) → Type 0
  IsReordered zero ps qs = ps ≡ qs
  IsReordered (suc n) ps qs =
      (front : List (List ℕ × V)) × (p : List ℕ × V) × (q : List ℕ × V) × (back : List (List ℕ × V)) ×
      (is_key p.0 q.0 ≡ false) × (ps ≡ front ++ p ∷ q ∷ back) × IsReordered n (front ++ q ∷ p ∷ back) qs

-- a dictionary is live as an attribute exactly where the attributes in it are
abbrev pub AreLiveByEntries : {A T : Type 0} → (A → List ℕ) → List (TypeView T) → Type 0
AreLiveByEntries {A} own_handles types = (es : List (List ℕ × AttrView A)) →
    IsAttrLive own_handles types (dict (entries_of es)) ↔ HandlesLive own_handles types es

-- a list is live as an attribute exactly where the attributes in it are
abbrev pub AreLiveByItems : {A T : Type 0} → (A → List ℕ) → List (TypeView T) → Type 0
AreLiveByItems {A} own_handles types = (xs : List (AttrView A)) →
    IsAttrLive own_handles types (vec (items_of xs)) ↔ All (IsAttrLive own_handles types) xs

-- the order in which pairs of different keys come isn't seen in their dictionary
abbrev pub OrderIsNotSeen : Type 0 → Type 0
OrderIsNotSeen V = (n : ℕ) (ps qs : List (List ℕ × V)) → IsReordered n ps qs → dict_of ps ≡ dict_of qs

-- a dictionary is that of its own entries
abbrev pub IsDictOfItself : Type 0 → Type 0
IsDictOfItself V = (es : List (List ℕ × V)) → IsDictionary es → dict_of es ≡ es

-- the tree of each handle of the table is that of its type, over the trees of the handles that the type holds
abbrev pub IsMadeOfTrees : {T : Type 0} → List (TypeView T) → Type 0
IsMadeOfTrees types = (handle : ℕ) (t : TypeView _) → type_at types handle ≡ Some t →
    tree_of types handle ≡ tree_over (tree_of types) t
