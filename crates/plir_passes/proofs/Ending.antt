-- Which operations end a block of an operation, by its regions and their blocks.
use Rattle.std.proofs.Common.{◌≡◌, ◌<◌, ◌≤◌, ◌^◌, ℕ, arith, Bool, true, List, length, Some, None}
use Rattle.std.proofs.Common.{inl, inr, refl, sym, ap, ◌∙◌}
use Rattle.std.specs.Prelude.{slice_get}
use Rattle.std.proofs.lemmas.Option.{none-some, same_Some, slice_get_cases}
use Rattle.plir_core.specs.declared.ptr.Ptr.{Ptr}
use Rattle.plir_core.specs.declared.ptr.Operation.{Operation as OperationKind}
use Rattle.plir_core.specs.declared.ptr.IRNode.{IRNode}
use Rattle.plir_core.specs.declared.ptr.IRNode.TheVariants.{Operation}
use Rattle.plir_core.specs.Above.{climb}
use Rattle.plir_core.specs.Standing.{IsStanding}
use Rattle.plir_core.specs.ContextView.{ContextView, children, kind_of, parent_of}
use Rattle.plir_passes.specs.Legal.{is_kind}
use Rattle.plir_passes.specs.Reached.{StandsIn, ends_block}
use Rattle.plir_passes.specs.Seeking.{IsEnd, Through}
use Rattle.plir_passes.proofs.Upward.{first-step}

-- where nothing stands at a place, the list has ended
pub past-end : {X : Type 0} (xs : List X) (i : ℕ) → slice_get xs i ≡ None → length xs ≤ i
past-end xs i none = elim (slice_get_cases xs i).1 [ inl f ↦ absurd (none-some f.0 (sym none ∙ f.2)) | inr f ↦ f.0 ]

module _ {K A T : Type 0} (s : ContextView K A T) (w : IsStanding s) where
  -- a node has fewer children than there are numbers of slots
  pub few-children : (n : IRNode) → length (children s n) < 2 ^ 32
  few-children n =
      (let most = w.measured.counted (children s n) (w.forest.once n) (λ x has. w.forest.child_live n x has) in
      let a = w.within in
      let b = w.limit_fits in
      omega (arith, most, a, b))

  module _ (ends : K → Bool) (p q : Ptr OperationKind) where
    abbrev ThroughAll : Type 0
    ThroughAll = Through s (Through s (Through s (IsEnd ends s))) (Operation p) q

    abbrev IsInner : Type 0
    IsInner = StandsIn s p q × (is_kind (ends_block ends) (kind_of s q) ≡ true)

    pub through-inner : ThroughAll → IsInner
    through-inner h =
        let region = h.0 in
        let block = h.2.0 in
        let end = h.2.2 in
        let a = w.forest.child_parent (Operation p) region h.1 in
        let b = w.forest.child_parent region block h.2.1 in
        let c = ap (parent_of s) (sym end.2.0) ∙ w.forest.child_parent block end.0 end.1 in
        (ap (climb (parent_of s) 2) c ∙ ap (climb (parent_of s) 1) b ∙ a, end.2.1)

    pub inner-through : IsInner → ThroughAll
    inner-through h =
        let f = first-step (parent_of s) 2 (Operation q) (Operation p) h.0 in
        let g = first-step (parent_of s) 1 f.0 (Operation p) f.2 in
        let k = first-step (parent_of s) 0 g.0 (Operation p) g.2 in
        let top : k.0 ≡ Operation p = same_Some k.0 (Operation p) k.2 in (
          g.0,
          w.forest.parent_child (Operation p) g.0 (k.1 ∙ ap Some top),
          (
            f.0,
            w.forest.parent_child g.0 f.0 g.1,
            (Operation q, w.forest.parent_child f.0 (Operation q) f.1, (refl, h.1)),
          ),
        )
