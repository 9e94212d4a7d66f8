-- What is made of a type's tree and text: of the type that a handle names, what is made of that type.
use Rattle.std.proofs.Common.{◌≡◌, ℕ, zero, suc, ◌<◌, Bool, true, false, List, [], ◌∷◌, ◌++◌, map, Option, Some, None}
use Rattle.std.proofs.Common.{All, codes, refl, ap, ◌∙◌, arith}
use Rattle.std.specs.Prelude.{Contains}
use Rattle.std.proofs.lemmas.List.Elements.{All-contains, All-contains_itself}
use Rattle.plir_data.specs.LiveLaws.{all_left, all_right}
use Rattle.plir_data.specs.OwnParts.{Part, chars, held, held_in, part_text, parts_text, behind_id}
use Rattle.plir_data.specs.TextParts.{before, parted, parted_from}
use Rattle.plir_data.specs.Types.{TypeView, integer, function, unit, own, IsTypeTable, handles_of, type_at}
use Rattle.plir_data.specs.TypeTree.{TypeTree, Trees, trees_of, tree_over, tree_of, function_tree}
use Rattle.plir_data.specs.TypeText.{integer_text, text_over, type_text, type_text_over}
use Rattle.plir_data.specs.Unrolled.{unrolled_if, unrolled_within, unrolled}

-- what holds of all things of a list holds of all of another that has no more
pub all_included : {X : Type 0} (P : X → Type 0) (xs ys : List X) → ((x : X) → Contains xs x → Contains ys x) →
    All P ys → All P xs
all_included P xs ys included all k d p = All-contains P ys _ all (included _ (All-contains_itself xs k d p))

-- functions of handles that agree below one
module _ {X : Type 0} (f g : ℕ → X) (b : ℕ) (same : (k : ℕ) → k < b → f k ≡ g k) where
  map_agree : (hs : List ℕ) → All (λ k. k < b) hs → map f hs ≡ map g hs
  map_agree [] all = refl
  map_agree (h ∷ hs) all =
      ap (λ x. x ∷ map f hs) (same h (all 0 0 (omega arith))) ∙ ap (λ xs. g h ∷ xs)
      (map_agree hs (λ k d p. all (suc k) d (omega (arith, p))))

module _ (f g : ℕ → List ℕ) (b : ℕ) (same : (k : ℕ) → k < b → f k ≡ g k) where
  parted_agree : (is_first : Bool) (between : List ℕ) (hs : List ℕ) → All (λ k. k < b) hs →
      parted_from is_first between f hs ≡ parted_from is_first between g hs
  parted_agree is_first between [] all = refl
  parted_agree is_first between (h ∷ hs) all =
      ap (λ x. before is_first between ++ (x ++ parted_from false between f hs)) (same h (all 0 0 (omega arith))) ∙
      ap (λ xs. before is_first between ++ (g h ++ xs))
      (parted_agree false between hs (λ k d p. all (suc k) d (omega (arith, p))))

  parts_agree : (ps : List Part) → All (λ k. k < b) (held_in ps) → parts_text f ps ≡ parts_text g ps
  parts_agree [] all = refl
  parts_agree (chars s ∷ ps) all = ap (λ x. s ++ x) (parts_agree ps all)
  parts_agree (held h ∷ ps) all =
      ap (λ x. x ++ parts_text f ps) (same h (all 0 0 (omega arith))) ∙ ap (λ x. g h ++ x)
      (parts_agree ps (λ k d p. all (suc k) d (omega (arith, p))))

  behind_agree : (ps : List Part) → All (λ k. k < b) (held_in ps) → behind_id f ps ≡ behind_id g ps
  behind_agree [] all = refl
  behind_agree (p ∷ ps) all = ap (λ x. 32 ∷ x) (parts_agree (p ∷ ps) all)

-- What `over` makes of a type follows from what is made of the types that it holds.
abbrev IsOver : {T X : Type 0} → (own_handles : T → List ℕ) → ((ℕ → X) → TypeView T → X) → Type 0
IsOver {T} {X} own_handles over = (f g : ℕ → X) (b : ℕ) → ((k : ℕ) → k < b → f k ≡ g k) → (t : TypeView T) → All
    (λ k. k < b) (handles_of own_handles t) → over f t ≡ over g t

module _ {T : Type 0} (own_handles : T → List ℕ) where
  tree_follows : IsOver own_handles tree_over
  tree_follows f g b same (integer s w) all = refl
  tree_follows f g b same (function xs ys) all =
      ap (λ ts. function_tree (trees_of ts) (trees_of (map f ys))) (map_agree f g b same xs
      (all_left (λ k. k < b) xs ys all)) ∙ ap (λ ts. function_tree (trees_of (map g xs)) (trees_of ts))
      (map_agree f g b same ys (all_right (λ k. k < b) xs ys all))
  tree_follows f g b same unit all = refl
  tree_follows f g b same (own t) all = refl

  module _ (own_id : T → List ℕ) (own_body : T → List Part) (own_held : (t : T) (h : ℕ) →
      Contains (held_in (own_body t)) h → Contains (own_handles t) h) where
    text_follows : IsOver own_handles (text_over own_id own_body)
    text_follows f g b same (integer s w) all = refl
    text_follows f g b same (function xs ys) all =
        let text : List ℕ → List ℕ → List ℕ = λ as_ rs. codes "builtin.function <(" ++ (as_ ++ (codes ")->(" ++ (rs ++ codes ")>"))) in
        ap (λ as_. text as_ (parted (codes ", ") f ys)) (parted_agree f g b same true (codes ", ") xs
        (all_left (λ k. k < b) xs ys all)) ∙ ap (λ rs. text (parted (codes ", ") g xs) rs)
        (parted_agree f g b same true (codes ", ") ys (all_right (λ k. k < b) xs ys all))
    text_follows f g b same unit all = refl
    text_follows f g b same (own t) all = ap (λ x. own_id t ++ x) (behind_agree f g b same (own_body t)
        (all_included (λ k. k < b) (held_in (own_body t)) (own_handles t) (own_held t) all))

module _ {T X : Type 0} (own_handles : T → List ℕ) (over : (ℕ → X) → TypeView T → X) (none : X) (follows : IsOver
    own_handles over) (types : List (TypeView T)) (table : IsTypeTable own_handles types) where
  within_agree : (n m h : ℕ) → h < n → h < m → unrolled_within over none n types h ≡ unrolled_within over none m types h
  unfolding unrolled_within
  within_agree zero m h p q = absurd (omega (arith, p))
  within_agree (suc n) zero h p q = absurd (omega (arith, q))
  within_agree (suc n) (suc m) h p q = by (type_at types h) refl
      (λ k r. within_agree n m k (omega (arith, p, r)) (omega (arith, q, r)))
    where
      by : (o : Option (TypeView T)) → type_at types h ≡ o → ((k : ℕ) → k < h →
          unrolled_within over none n types k ≡ unrolled_within over none m types k) →
          unrolled_if over none (unrolled_within over none n types) o ≡
          unrolled_if over none (unrolled_within over none m types) o
      by None is same = refl
      by (Some t) is same = follows (unrolled_within over none n types) (unrolled_within over none m types) h same t
          (table.before t h is)

  -- of a handle is made what is made of its type
  pub unrolled-over : (h : ℕ) (t : TypeView T) → type_at types h ≡ Some t →
      unrolled over none types h ≡ over (unrolled over none types) t
  unfolding unrolled_within
  unrolled-over h t is = ap (unrolled_if over none (unrolled_within over none h types)) is ∙
      follows (unrolled_within over none h types) (unrolled over none types) h
      (λ k r. within_agree h (suc k) k r (omega arith)) t (table.before t h is)

module _ {T : Type 0} (own_handles : T → List ℕ) (types : List (TypeView T)) (table : IsTypeTable own_handles types)
  where
    -- the tree of a handle is that of its type
    pub tree_of-over : (h : ℕ) (t : TypeView T) → type_at types h ≡ Some t → tree_of types h ≡ tree_over (tree_of types)
        t
    tree_of-over = unrolled-over own_handles tree_over _ (tree_follows own_handles) types table

    module _ (own_id : T → List ℕ) (own_body : T → List Part) (own_held : (t : T) (h : ℕ) →
        Contains (held_in (own_body t)) h → Contains (own_handles t) h) where
      -- and so is its text
      pub type_text-over : (h : ℕ) (t : TypeView T) → type_at types h ≡ Some t →
          type_text own_id own_body types h ≡ type_text_over own_id own_body types t
      type_text-over = unrolled-over own_handles (text_over own_id own_body) _
          (text_follows own_handles own_id own_body own_held) types table
