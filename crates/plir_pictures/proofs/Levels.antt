-- A nested text, by those of the children.
use Rattle.std.proofs.Common.{◌≡◌, ℕ, zero, suc, ◌+◌, ◌-◌, List, [], ◌∷◌, ◌++◌, inl, inr, refl, sym, ap, ◌∙◌, arith}
use Rattle.std.specs.List.{flat_map}
use Rattle.plir_core.specs.declared.ptr.IRNode.{IRNode}
use Rattle.plir_store.specs.Members.{Has}
use Rattle.plir_core.specs.Standing.{IsStanding}
use Rattle.plir_core.specs.ContextView.{ContextView, children, limit}
use Rattle.plir_core.specs.Measures.{depth}
use Rattle.plir_print.specs.OpText.{room}
use Rattle.plir_pictures.specs.Nested.{IsNestedWhole, nested, nested_at}

pub flat_same : {X : Type 0} (f g : X → List ℕ) (xs : List X) → ((x : X) → Has xs x → f x ≡ g x)
    → flat_map f xs ≡ flat_map g xs
flat_same f g [] h = refl
flat_same f g (x ∷ xs) h =
    ap (λ z. z ++ flat_map f xs) (h x (inl refl)) ∙ ap (λ z. g x ++ z) (flat_same f g xs (λ y k. h y (inr k)))

module _ {K A T : Type 0} (s : ContextView K A T) where
  -- what opens nodes alike and closes them alike makes the same text
  pub nested-same : (f g closes : IRNode → List ℕ) → ((x : IRNode) → f x ≡ g x) → (x : IRNode)
      → nested s f closes x ≡ nested s g closes x
  nested-same f g closes h x = by (room s x) x
    where
      by : (k : ℕ) (x : IRNode) → nested_at s f closes k x ≡ nested_at s g closes k x
      by zero x = refl
      by (suc k) x =
          ap (λ z. z ++ (flat_map (nested_at s f closes k) (children s x) ++ closes x)) (h x)
          ∙ ap (λ z. g x ++ (z ++ closes x)) (flat_same _ _ (children s x) (λ y i. by k y))

module _ {K A T : Type 0} (s : ContextView K A T) (st : IsStanding s) where
  room_is : (x : IRNode) → room s x ≡ suc (limit s + 1 - depth s x)
  room_is x = let d = st.measured.deepest x in omega arith

  child_room : (a x : IRNode) → Has (children s a) x → room s x ≡ limit s + 1 - depth s a
  child_room a x h = let d = st.measured.deeper a x (st.forest.child_parent a x h) in omega arith

  -- no level is left out
  pub level : IsNestedWhole s
  level opens closes x =
      ap (λ k. nested_at s opens closes k x) (room_is x)
      ∙ ap (λ z. opens x ++ (z ++ closes x))
      (flat_same _ _ (children s x) (λ y h. ap (λ k. nested_at s opens closes k y) (sym (child_room x y h))))
