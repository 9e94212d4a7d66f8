-- Operations that get places, one after another.
use Rattle.std.proofs.Common.{◌≡◌, ◌+◌, ◌<◌, ◌≤◌, ℕ, zero, suc, List, [], ◌∷◌, length, drop, get_or, min, inl, inr}
use Rattle.std.proofs.Common.{refl, sym, ap, subst, ◌∙◌, arith}
use Rattle.std.proofs.Math.Seq.{drop-cons}
use Rattle.std.proofs.lemmas.List.{drop_all}
use Rattle.std.proofs.lemmas.Bool.{cases_lt}
use Rattle.plir_store.specs.Members.{Has}
use Rattle.plir_data.specs.declared.location.Location.{Location}
use Rattle.plir_core.specs.declared.ptr.Ptr.{Ptr}
use Rattle.plir_core.specs.declared.ptr.Operation.{Operation as OperationKind}
use Rattle.plir_core.specs.declared.ptr.IRNode.TheVariants.{Operation}
use Rattle.plir_core.specs.Changes.{with_op_edit}
use Rattle.plir_core.specs.Contents.{OpView}
use Rattle.plir_core.specs.ContextView.{ContextView, IsLive}
use Rattle.plir_core.specs.Held.{IsOpEdited, KeepsNodes}
use Rattle.plir_places.specs.Placed.{with_place, with_places}

-- what stands at a place of a list is of it
pub has-at : {X : Type 0} (xs : List X) (k : ℕ) (d : X) → k < length xs → Has xs (get_or xs k d)
has-at [] k d h = absurd (let z : ⊥ = omega (arith, h) in z)
has-at (x ∷ xs) zero d h = inl refl
has-at (x ∷ xs) (suc k) d h = inr (has-at xs k d (omega (arith, h)))

-- what is left from a place on begins with what stands there
drop-next : {X : Type 0} (xs : List X) (k : ℕ) (d : X) → k < length xs → drop k xs ≡ get_or xs k d ∷ drop (k + 1) xs
drop-next xs k d h =
    let e : suc k ≡ k + 1 = omega arith in
    drop-cons xs k d h ∙ ap (λ j. get_or xs k d ∷ drop j xs) e

module _ {K A T : Type 0} where
  KeepsNodes-on : (s t u : ContextView K A T) → KeepsNodes s t → KeepsNodes t u → KeepsNodes s u
  KeepsNodes-on s t u p q = record {
    live = λ n. q.live n ∙ p.live n;
    given = λ n. q.given n ∙ p.given n;
    children = λ n. q.children n ∙ p.children n;
    parents = λ n. q.parents n ∙ p.parents n;
    types = q.types ∙ p.types;
    limit = q.limit ∙ p.limit;
  }

  -- where there are no places left nothing changes
  no-places : (s : ContextView K A T) (ps : List (Ptr OperationKind)) → with_places s ps [] ≡ s
  no-places s [] = refl
  no-places s (p ∷ ps) = refl

  -- where one of both lists is done nothing changes
  pub places-end : (s : ContextView K A T) (ps : List (Ptr OperationKind)) (ls : List Location) (k : ℕ) →
      min (length ps) (length ls) ≤ k → with_places s (drop k ps) (drop k ls) ≡ s
  places-end s ps ls k h = elim (cases_lt k (length ps)) [
    | inr done ↦ ap (λ z. with_places s z (drop k ls)) (drop_all k ps done)
    | inl more ↦ ap (λ z. with_places s (drop k ps) z) (drop_all k ls (omega (arith, h, more)))
        ∙ no-places s (drop k ps)
  ]

  -- one more operation gets its place
  pub places-next : (s t : ContextView K A T) (ps : List (Ptr OperationKind)) (ls : List Location) (k : ℕ)
      (p : Ptr OperationKind) (l : Location) → k < length ps → k < length ls →
      t ≡ with_place s (get_or ps k p) (get_or ls k l) →
      with_places t (drop (k + 1) ps) (drop (k + 1) ls) ≡ with_places s (drop k ps) (drop k ls)
  places-next s t ps ls k p l in_ps in_ls e =
      ap (λ z. with_places z (drop (k + 1) ps) (drop (k + 1) ls)) e
      ∙ ap (λ z. with_places s z (get_or ls k l ∷ drop (k + 1) ls)) (sym (drop-next ps k p in_ps))
      ∙ ap (λ z. with_places s (drop k ps) z) (sym (drop-next ls k l in_ls))

  -- what was live is so where nodes are kept
  pub still-live : (s t : ContextView K A T) (ps : List (Ptr OperationKind)) (k : ℕ) (d : Ptr OperationKind) →
      KeepsNodes s t → ((p : Ptr OperationKind) → Has ps p → IsLive s (Operation p)) → k < length ps →
      IsLive t (Operation (get_or ps k d))
  still-live s t ps k d kept live within =
      kept.live (Operation (get_or ps k d)) ∙ live (get_or ps k d) (has-at ps k d within)

  -- an edit of what an operation holds keeps them
  pub keeps-edit : (s t u : ContextView K A T) (p : Ptr OperationKind) (f : OpView K A → OpView K A) →
      KeepsNodes s t → IsOpEdited t (with_op_edit t p f) p f → u ≡ with_op_edit t p f → KeepsNodes s u
  keeps-edit s t u p f kept edited e =
      KeepsNodes-on s t u kept (subst (KeepsNodes t) (sym e) edited.keeps)
