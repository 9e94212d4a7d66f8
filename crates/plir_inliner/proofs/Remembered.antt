-- What is kept of bodies.
use Rattle.std.proofs.Common.{◌≡◌, ℕ, Bool, true, false, cond, Option, Some, refl, sym, ap, subst, ◌∙◌}
use Rattle.std.specs.HashMap.{get}
use Rattle.std.proofs.lemmas.Option.{same_Some}
use Rattle.plir_core.specs.declared.ptr.Ptr.{Ptr}
use Rattle.plir_core.specs.declared.ptr.BasicBlock.{BasicBlock as BlockKind}
use Rattle.plir_core.specs.Contents.{OpView}
use Rattle.plir_core.specs.ContextView.{ContextView}
use Rattle.plir_flow.specs.Branches.{Range as Places}
use Rattle.plir_flow_sets.specs.Calls.{CallView}
use Rattle.plir_inliner.specs.declared.bodies.Bodies.{Bodies}
use Rattle.plir_inliner.specs.Known.{AreRight, IsTold, ptr_eq}
use Rattle.plir_copies.specs.Telling.{same_ptr_told}

module _ {K A T : Type 0} (own : K → Bool) (calls : OpView K A → Option CallView)
    (returned : OpView K A → Option Places) (s : ContextView K A T) where
  -- with what is told of one block more, what is known is right
  pub keep-right : (old new : Bodies) (block : Ptr BlockKind) (told : Option ℕ) →
      IsTold own calls returned s block told →
      ((b : Ptr BlockKind) → get ptr_eq new.told b ≡ cond (ptr_eq block b) (Some told) (get ptr_eq old.told b)) →
      AreRight own calls returned s old → AreRight own calls returned s new
  keep-right old new block told is updates right b other e = by (ptr_eq block b) refl
    where
      by : (z : Bool) → ptr_eq block b ≡ z → IsTold own calls returned s b other
      by true t =
          (let same : block ≡ b = (same_ptr_told block b (ptr_eq block b) refl).0 t in
          let value : told ≡ other = same_Some told other
          (sym (updates b ∙ ap (λ y. cond y (Some told) (get ptr_eq old.told b)) t) ∙ e) in
          subst (λ y. IsTold own calls returned s y other) same (subst (IsTold own calls returned s block) value is))
      by false t = right b other (sym (updates b ∙ ap (λ y. cond y (Some told) (get ptr_eq old.told b)) t) ∙ e)
