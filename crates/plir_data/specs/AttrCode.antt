-- How the values of attributes are told apart: each is written as a list of marks, which reads back as that value
-- alone.
use Rattle.std.specs.Prelude.{ℕ, Bool, List, [], ◌∷◌, Option, Some, None, true, false, ◌≡◌, ◌⊎◌, refl}
use Rattle.std.specs.Coded.{Coded, code_by, coded_ℕ, coded_bool, coded_list, coded_option, coded×, coded⊎}
use Rattle.std.proofs.Common.{inl, inr}
use Rattle.plir_data.specs.AttrView.{Leaf, identifier, string, bool, integer, unit, type_of, operand_segment_sizes}
use Rattle.plir_data.specs.AttrView.{given_names, own, AttrView, leaf, dict, vec, Items, no_items, item, Entries}
use Rattle.plir_data.specs.AttrView.{no_entries, entry}

abbrev pub Numbers : Type 0
Numbers = List ℕ

abbrev pub Parts : Type 0 → Type 0
Parts A = Numbers ⊎ (Numbers ⊎ (Bool ⊎ ((ℕ × (ℕ × ℕ)) ⊎ (Bool ⊎ (ℕ ⊎ (Numbers ⊎ (List (Option Numbers) ⊎ A)))))))

module _ {A : Type 0} where
  abbrev pub parts : Leaf A → Parts A
  parts (identifier w) = inl w
  parts (string s) = inr (inl s)
  parts (bool b) = inr (inr (inl b))
  parts (integer t w b) = inr (inr (inr (inl (t, (w, b)))))
  parts unit = inr (inr (inr (inr (inl true))))
  parts (type_of t) = inr (inr (inr (inr (inr (inl t)))))
  parts (operand_segment_sizes ns) = inr (inr (inr (inr (inr (inr (inl ns))))))
  parts (given_names ns) = inr (inr (inr (inr (inr (inr (inr (inl ns)))))))
  parts (own a) = inr (inr (inr (inr (inr (inr (inr (inr a)))))))

  abbrev pub leaf_of : Parts A → Leaf A
  leaf_of (inl w) = identifier w
  leaf_of (inr (inl s)) = string s
  leaf_of (inr (inr (inl b))) = bool b
  leaf_of (inr (inr (inr (inl n)))) = integer n.0 n.1.0 n.1.1
  leaf_of (inr (inr (inr (inr (inl _))))) = unit
  leaf_of (inr (inr (inr (inr (inr (inl t)))))) = type_of t
  leaf_of (inr (inr (inr (inr (inr (inr (inl ns))))))) = operand_segment_sizes ns
  leaf_of (inr (inr (inr (inr (inr (inr (inr (inl ns)))))))) = given_names ns
  leaf_of (inr (inr (inr (inr (inr (inr (inr (inr a)))))))) = own a

  pub leaf_of-parts : (x : Leaf A) → leaf_of (parts x) ≡ x
  leaf_of-parts (identifier w) = refl
  leaf_of-parts (string s) = refl
  leaf_of-parts (bool b) = refl
  leaf_of-parts (integer t w b) = refl
  leaf_of-parts unit = refl
  leaf_of-parts (type_of t) = refl
  leaf_of-parts (operand_segment_sizes ns) = refl
  leaf_of-parts (given_names ns) = refl
  leaf_of-parts (own a) = refl

  abbrev pub leaf_code : Coded A → Coded (Leaf A)
  leaf_code c =
      code_by (Parts A) (coded⊎ (coded_list coded_ℕ)
      (coded⊎ (coded_list coded_ℕ) (coded⊎ coded_bool (coded⊎ (coded× coded_ℕ (coded× coded_ℕ coded_ℕ))
      (coded⊎ coded_bool (coded⊎ coded_ℕ
      (coded⊎ (coded_list coded_ℕ) (coded⊎ (coded_list (coded_option (coded_list coded_ℕ))) c)))))))) parts leaf_of
      leaf_of-parts

-- A mark: a leaf as it is, how a dictionary or a list begins, how items end or go on, how entries end or go on with a
-- key.
abbrev pub Mark : Type 0 → Type 0
Mark A = Leaf A ⊎ (Bool ⊎ (Bool ⊎ Option Numbers))

module _ {A : Type 0} where
  abbrev pub mark_code : Coded A → Coded (Mark A)
  mark_code c = coded⊎ (leaf_code c) (coded⊎ coded_bool (coded⊎ coded_bool (coded_option (coded_list coded_ℕ))))

-- what stands to the right of a place, as read so far
pub data Piece (A : Type 0) : Type 0 where
  one : AttrView A → Piece A
  many : Items A → Piece A
  pairs : Entries A → Piece A

module _ {A : Type 0} where
  abbrev mutual
    pub marks : AttrView A → List (Mark A) → List (Mark A)
    marks (leaf x) ms = inl x ∷ ms
    marks (dict es) ms = inr (inl false) ∷ entries_marks es ms
    marks (vec xs) ms = inr (inl true) ∷ items_marks xs ms

    pub items_marks : Items A → List (Mark A) → List (Mark A)
    items_marks no_items ms = inr (inr (inl false)) ∷ ms
    items_marks (item x xs) ms = inr (inr (inl true)) ∷ marks x (items_marks xs ms)

    pub entries_marks : Entries A → List (Mark A) → List (Mark A)
    entries_marks no_entries ms = inr (inr (inr None)) ∷ ms
    entries_marks (entry k x es) ms = inr (inr (inr (Some k))) ∷ marks x (entries_marks es ms)

  abbrev pub as_dict : List (Piece A) → List (Piece A)
  as_dict (pairs es ∷ ps) = one (dict es) ∷ ps
  as_dict _ = []

  abbrev pub as_vec : List (Piece A) → List (Piece A)
  as_vec (many xs ∷ ps) = one (vec xs) ∷ ps
  as_vec _ = []

  abbrev pub with_item : List (Piece A) → List (Piece A)
  with_item (one x ∷ many xs ∷ ps) = many (item x xs) ∷ ps
  with_item _ = []

  abbrev pub with_entry : List ℕ → List (Piece A) → List (Piece A)
  with_entry k (one x ∷ pairs es ∷ ps) = pairs (entry k x es) ∷ ps
  with_entry k _ = []

  abbrev pub read : List (Mark A) → List (Piece A)
  read [] = []
  read (inl x ∷ ms) = one (leaf x) ∷ read ms
  read (inr (inl false) ∷ ms) = as_dict (read ms)
  read (inr (inl true) ∷ ms) = as_vec (read ms)
  read (inr (inr (inl false)) ∷ ms) = many no_items ∷ read ms
  read (inr (inr (inl true)) ∷ ms) = with_item (read ms)
  read (inr (inr (inr None)) ∷ ms) = pairs no_entries ∷ read ms
  read (inr (inr (inr (Some k))) ∷ ms) = with_entry k (read ms)

  mutual
    pub read-marks : (x : AttrView A) (ms : List (Mark A)) → read (marks x ms) ≡ one x ∷ read ms
    read-marks (leaf x) ms = refl
    read-marks (dict es) ms = rw (read-entries_marks es ms) refl
    read-marks (vec xs) ms = rw (read-items_marks xs ms) refl

    pub read-items_marks : (xs : Items A) (ms : List (Mark A)) → read (items_marks xs ms) ≡ many xs ∷ read ms
    read-items_marks no_items ms = refl
    read-items_marks (item x xs) ms = rw (read-marks x (items_marks xs ms)) (rw (read-items_marks xs ms) refl)

    pub read-entries_marks : (es : Entries A) (ms : List (Mark A)) → read (entries_marks es ms) ≡ pairs es ∷ read ms
    read-entries_marks no_entries ms = refl
    read-entries_marks (entry k x es) ms = rw (read-marks x (entries_marks es ms)) (rw (read-entries_marks es ms) refl)

  abbrev pub first_one : List (Piece A) → AttrView A
  first_one (one x ∷ ps) = x
  first_one _ = leaf unit

  pub first_one-read : (x : AttrView A) → first_one (read (marks x [])) ≡ x
  first_one-read x = rw (read-marks x []) refl

  abbrev pub attr_code : Coded A → Coded (AttrView A)
  attr_code c = code_by (List (Mark A)) (coded_list (mark_code c)) (λ x. marks x []) (λ ms. first_one (read ms))
      first_one-read
