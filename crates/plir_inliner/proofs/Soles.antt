-- The one block of the one region of an operation, found by its links.
use Rattle.std.proofs.Common.{◌≡◌, List, [], ◌∷◌, ◌++◌, Some, None, refl, sym, ap, ◌∙◌}
use Rattle.std.specs.Prelude.{option_and_then}
use Rattle.std.proofs.lemmas.Option.{same_Some, none-some}
use Rattle.plir_core.specs.declared.ptr.Ptr.{Ptr}
use Rattle.plir_core.specs.declared.ptr.Operation.{Operation as OperationKind}
use Rattle.plir_core.specs.declared.ptr.IRNode.{IRNode}
use Rattle.plir_core.specs.declared.ptr.IRNode.TheVariants.{Operation}
use Rattle.plir_store.specs.Members.{head}
use Rattle.plir_core.specs.ContextView.{ContextView, children, first_child, next_sibling}
use Rattle.plir_builtin.specs.Symbols.{only, body}

module _ {K A T : Type 0} (s : ContextView K A T) (over : IRNode)
    (front : first_child s over ≡ head (children s over)) where
  -- without a first child there is no only one
  pub only-none : first_child s over ≡ None → only (children s over) ≡ None
  only-none e = at (children s over) (sym front ∙ e)
    where
      at : (xs : List IRNode) → head xs ≡ None → only xs ≡ None
      at [] h = refl
      at (x ∷ xs) h = absurd (none-some x (sym h))

  module _ (n : IRNode) (first : first_child s over ≡ Some n)
      (law : (o : IRNode) (xs ys : List IRNode) → children s o ≡ xs ++ n ∷ ys → next_sibling s n ≡ head ys) where
    begins : (xs : List IRNode) → children s over ≡ xs → head xs ≡ Some n
    begins xs c = sym (ap head c) ∙ sym front ∙ first

    -- the first child is the only one if nothing follows it
    pub only-first : next_sibling s n ≡ None → only (children s over) ≡ Some n
    only-first e = at (children s over) refl
      where
        at : (xs : List IRNode) → children s over ≡ xs → only (children s over) ≡ Some n
        at [] c = absurd (none-some n (begins [] c))
        at (x ∷ []) c = ap only c ∙ begins (x ∷ []) c
        at (x ∷ y ∷ xs) c =
            let same : x ≡ n = same_Some x n (begins (x ∷ y ∷ xs) c) in
            absurd (none-some y (sym e ∙ law over [] (y ∷ xs) (c ∙ ap (λ z. z ∷ y ∷ xs) same)))

    -- and if something follows it, there is no only one
    pub only-more : (m : IRNode) → next_sibling s n ≡ Some m → only (children s over) ≡ None
    only-more m e = at (children s over) refl
      where
        at : (xs : List IRNode) → children s over ≡ xs → only (children s over) ≡ None
        at [] c = ap only c
        at (x ∷ []) c =
            let same : x ≡ n = same_Some x n (begins (x ∷ []) c) in
            absurd (none-some m (sym (law over [] [] (c ∙ ap (λ z. z ∷ []) same)) ∙ e))
        at (x ∷ y ∷ xs) c = ap only c

-- the body is the only block of the only region
module _ {K A T : Type 0} (s : ContextView K A T) (t : Ptr OperationKind) where
  pub body-none : only (children s (Operation t)) ≡ None → body s t ≡ None
  body-none e = ap (option_and_then (λ r. only (children s r))) e

  pub body-of-only : (r : IRNode) → only (children s (Operation t)) ≡ Some r → body s t ≡ only (children s r)
  body-of-only r e = ap (option_and_then (λ q. only (children s q))) e
