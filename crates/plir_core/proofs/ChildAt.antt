-- The child of a node at a place.
use Rattle.std.proofs.Common.{◌≡◌, ℕ, suc, List, ◌∷◌, ◌++◌, take, drop, Some, sym, ◌∙◌, ap}
use Rattle.std.specs.Prelude.{slice_get}
use Rattle.std.proofs.lemmas.List.{take-append-drop}
use Rattle.std.proofs.lemmas.Option.{get_or_from_slice_get, slice_get_within}
use Rattle.std.proofs.Math.Seq.{drop-cons}
use Rattle.plir_core.specs.declared.ptr.IRNode.{IRNode}
use Rattle.plir_core.specs.ContextView.{ContextView, children}
use Rattle.plir_core.specs.Unused.{child_at}

-- a list is what stands before a place, at it and after it
pub parted_at : {A : Type 0} (xs : List A) (i : ℕ) (x : A) → slice_get xs i ≡ Some x → xs ≡ take i xs ++ x ∷ drop
    (suc i) xs
parted_at xs i x e =
    sym (take-append-drop i xs)
    ∙ ap (λ z. take i xs ++ z) (drop-cons xs i x (slice_get_within xs i x e) ∙ ap (λ z. z ∷ drop (suc i) xs)
    (get_or_from_slice_get xs i x x e))

pub child_at-is : {K A T : Type 0} (s : ContextView K A T) (n x : IRNode) (i : ℕ) → slice_get (children s n) i ≡ Some x
    → child_at s n i ≡ x
child_at-is s n x i e = get_or_from_slice_get (children s n) i x n e
