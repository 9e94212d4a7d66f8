-- Equality tells attributes apart.
use Rattle.std.specs.Prelude.{◌≡◌, ℕ, List, [], ◌∷◌, Bool, true, false, ◌&&◌, Option, Some, None, nat_eq, refl}
use Rattle.std.proofs.Common.{sym, ap, ◌∙◌, true≢false, rules}
use Rattle.std.specs.Cmp.{IsEquivalence}
use Rattle.std.specs.Cmp.Lexicographic.{pointwise, same_text, nat_list_eq_equiv}
use Rattle.std.specs.Option.{option_eq}
use Rattle.plir_data.specs.AttrView.{Leaf, identifier, string, bool, integer, unit, type_of, operand_segment_sizes}
use Rattle.plir_data.specs.AttrView.{given_names, own, AttrView, leaf, dict, vec, Items, no_items, item, Entries}
use Rattle.plir_data.specs.AttrView.{no_entries, entry}
use Rattle.plir_data.specs.AttrEq.{leaf_eq, attr_eq, items_eq, entries_eq}

both_left : (a b : Bool) → (a && b) ≡ true → a ≡ true
both_left true b e = refl
both_left false b e = e

both_right : (a b : Bool) → (a && b) ≡ true → b ≡ true
both_right true b e = e
both_right false b e = absurd (true≢false (sym e))

both : (a b : Bool) → a ≡ true → b ≡ true → (a && b) ≡ true
both a b p q = rw (p, q) refl

no : {X : Type 0} → false ≡ true → X
no e = absurd (true≢false (sym e))

-- a test that holds only of equal things, and of each thing with itself, is an equivalence
pub equivalence : {X : Type 0} (E : X → X → Bool) → ((x y : X) → E x y ≡ true → x ≡ y) → ((x : X) → E x x ≡ true) →
    IsEquivalence E
equivalence E same itself =
    record {
      refl = itself;
      symm = λ x y. symm x y (E x y) (E y x) refl refl;
      congr = λ x y z e. ap (λ w. E w z)
          (same x y e);
    }
  where
    symm : (x y : _) (a b : Bool) → E x y ≡ a → E y x ≡ b → E x y ≡ E y x
    symm x y true true p q = p ∙ sym q
    symm x y false false p q = p ∙ sym q
    symm x y true false p q = absurd (true≢false (sym (itself y) ∙ sym (ap (λ w. E y w) (same x y p)) ∙ q))
    symm x y false true p q = absurd (true≢false (sym (itself x) ∙ sym (ap (λ w. E x w) (same y x q)) ∙ p))

same_number : (m n : ℕ) → nat_eq m n ≡ true → m ≡ n
same_number m n e = search (rules)

texts : (xs ys : List ℕ) → pointwise nat_eq xs ys ≡ true → xs ≡ ys
texts xs ys e = same_text xs ys (sym e)

text_itself : (xs : List ℕ) → pointwise nat_eq xs xs ≡ true
text_itself xs = nat_list_eq_equiv.refl xs

pub same_names : (ms ns : List (Option (List ℕ))) → pointwise (option_eq (pointwise nat_eq)) ms ns ≡ true → ms ≡ ns
same_names [] [] e = refl
same_names [] (n ∷ ns) e = no e
same_names (m ∷ ms) [] e = no e
same_names (None ∷ ms) (None ∷ ns) e = ap (λ l. None ∷ l) (same_names ms ns e)
same_names (None ∷ ms) (Some n ∷ ns) e = no e
same_names (Some m ∷ ms) (None ∷ ns) e = no e
same_names (Some m ∷ ms) (Some n ∷ ns) e =
    ap (λ w. Some w ∷ ms) (texts m n (both_left _ _ e)) ∙ ap (λ l. Some n ∷ l) (same_names ms ns (both_right _ _ e))

names_itself : (ns : List (Option (List ℕ))) → pointwise (option_eq (pointwise nat_eq)) ns ns ≡ true
names_itself [] = refl
names_itself (None ∷ ns) = names_itself ns
names_itself (Some n ∷ ns) = both _ _ (text_itself n) (names_itself ns)

module _ {A : Type 0} (own_eq : A → A → Bool) (same : (a b : A) → own_eq a b ≡ true → a ≡ b) where
  same_leaf : (x y : Leaf A) → leaf_eq own_eq x y ≡ true → x ≡ y
  same_leaf (identifier v) (identifier w) e = ap identifier (texts v w e)
  same_leaf (string s) (string t) e = ap string (texts s t e)
  same_leaf (bool true) (bool true) e = refl
  same_leaf (bool true) (bool false) e = no e
  same_leaf (bool false) (bool true) e = no e
  same_leaf (bool false) (bool false) e = refl
  same_leaf (integer t w b) (integer u v c) e =
      ap (λ n. integer n w b) (same_number t u (both_left _ _ e)) ∙
      ap (λ n. integer u n b) (same_number w v (both_left _ _ (both_right _ _ e))) ∙
      ap (λ n. integer u v n) (same_number b c (both_right _ _ (both_right _ _ e)))
  same_leaf unit unit e = refl
  same_leaf (type_of t) (type_of u) e = ap type_of (same_number t u e)
  same_leaf (operand_segment_sizes ms) (operand_segment_sizes ns) e = ap operand_segment_sizes (texts ms ns e)
  same_leaf (given_names ms) (given_names ns) e = ap given_names (same_names ms ns e)
  same_leaf (own a) (own b) e = ap own (same a b e)
  same_leaf (identifier v) _ e = no e
  same_leaf (string v) _ e = no e
  same_leaf (bool true) _ e = no e
  same_leaf (bool false) _ e = no e
  same_leaf (integer t w b) _ e = no e
  same_leaf unit _ e = no e
  same_leaf (type_of t) _ e = no e
  same_leaf (operand_segment_sizes ms) _ e = no e
  same_leaf (given_names ms) _ e = no e
  same_leaf (own a) _ e = no e

  mutual
    pub same_attr : (x y : AttrView A) → attr_eq own_eq x y ≡ true → x ≡ y
    same_attr (leaf x) (leaf y) e = ap leaf (same_leaf x y e)
    same_attr (leaf x) (dict fs) e = no e
    same_attr (leaf x) (vec ys) e = no e
    same_attr (dict es) (leaf y) e = no e
    same_attr (dict es) (dict fs) e = ap dict (same_entries es fs e)
    same_attr (dict es) (vec ys) e = no e
    same_attr (vec xs) (leaf y) e = no e
    same_attr (vec xs) (dict fs) e = no e
    same_attr (vec xs) (vec ys) e = ap vec (same_items xs ys e)

    pub same_items : (xs ys : Items A) → items_eq own_eq xs ys ≡ true → xs ≡ ys
    same_items no_items no_items e = refl
    same_items no_items (item y ys) e = no e
    same_items (item x xs) no_items e = no e
    same_items (item x xs) (item y ys) e = ap (λ z. item z xs) (same_attr x y (both_left _ _ e)) ∙
        ap (item y) (same_items xs ys (both_right _ _ e))

    pub same_entries : (es fs : Entries A) → entries_eq own_eq es fs ≡ true → es ≡ fs
    same_entries no_entries no_entries e = refl
    same_entries no_entries (entry l y fs) e = no e
    same_entries (entry k x es) no_entries e = no e
    same_entries (entry k x es) (entry l y fs) e =
        ap (λ m. entry m x es) (texts k l (both_left _ _ e)) ∙
        ap (λ z. entry l z es) (same_attr x y (both_left _ _ (both_right _ _ e))) ∙
        ap (entry l y) (same_entries es fs (both_right _ _ (both_right _ _ e)))

module _ {A : Type 0} (own_eq : A → A → Bool) (own_itself : (a : A) → own_eq a a ≡ true) where
  number_itself : (n : ℕ) → nat_eq n n ≡ true
  number_itself n = search (rules)

  leaf_itself : (x : Leaf A) → leaf_eq own_eq x x ≡ true
  leaf_itself (identifier w) = text_itself w
  leaf_itself (string s) = text_itself s
  leaf_itself (bool true) = refl
  leaf_itself (bool false) = refl
  leaf_itself (integer t w b) = both _ _ (number_itself t) (both _ _ (number_itself w) (number_itself b))
  leaf_itself unit = refl
  leaf_itself (type_of t) = number_itself t
  leaf_itself (operand_segment_sizes ns) = text_itself ns
  leaf_itself (given_names ns) = names_itself ns
  leaf_itself (own a) = own_itself a

  mutual
    pub attr_itself : (x : AttrView A) → attr_eq own_eq x x ≡ true
    attr_itself (leaf x) = leaf_itself x
    attr_itself (dict es) = entries_itself es
    attr_itself (vec xs) = items_itself xs

    pub items_itself : (xs : Items A) → items_eq own_eq xs xs ≡ true
    items_itself no_items = refl
    items_itself (item x xs) = both _ _ (attr_itself x) (items_itself xs)

    pub entries_itself : (es : Entries A) → entries_eq own_eq es es ≡ true
    entries_itself no_entries = refl
    entries_itself (entry k x es) = both _ _ (text_itself k) (both _ _ (attr_itself x) (entries_itself es))

-- equality of attributes, of lists of them and of their entries under keys is an equivalence
module _ {A : Type 0} (own_eq : A → A → Bool) (same : (a b : A) → own_eq a b ≡ true →
    a ≡ b) (own : IsEquivalence own_eq) where
  pub attr_equivalence : IsEquivalence (attr_eq own_eq)
  attr_equivalence = equivalence (attr_eq own_eq) (same_attr own_eq same) (attr_itself own_eq own.refl)

  pub items_equivalence : IsEquivalence (items_eq own_eq)
  items_equivalence = equivalence (items_eq own_eq) (same_items own_eq same) (items_itself own_eq own.refl)

  pub entries_equivalence : IsEquivalence (entries_eq own_eq)
  entries_equivalence = equivalence (entries_eq own_eq) (same_entries own_eq same) (entries_itself own_eq own.refl)
