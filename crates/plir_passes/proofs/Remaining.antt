-- What is left is reached in what is left.
use Rattle.std.proofs.Common.{◌≡◌, ℕ, zero, suc, Bool, inl, inr, refl, sym, ap, subst, ◌∙◌}
use Rattle.std.proofs.lemmas.Option.{same_Some}
use Rattle.plir_store.specs.Members.{Has}
use Rattle.plir_core.specs.declared.ptr.Ptr.{Ptr}
use Rattle.plir_core.specs.declared.ptr.Operation.{Operation as OperationKind}
use Rattle.plir_core.specs.declared.ptr.BasicBlock.{BasicBlock as BlockKind}
use Rattle.plir_core.specs.declared.ptr.IRNode.TheVariants.{Operation, BasicBlock}
use Rattle.plir_core.specs.declared.value.DefiningEntity.{DefiningEntity}
use Rattle.plir_core.specs.declared.value.DefiningEntity.TheVariants.{Op, Block}
use Rattle.plir_core.specs.ContextView.{ContextView, IsLive, kind_in, operands_in, parent_of, successors_in}
use Rattle.plir_core.specs.Forest.{look, IsForest}
use Rattle.plir_core.specs.Unused.{IsUnusedOutside}
use Rattle.plir_walk.specs.NodeLaws.{same-op}
use Rattle.plir_passes.specs.Legal.{is_kind}
use Rattle.plir_passes.specs.Reached.{AreAllReached, IsBlockOf, IsFrom, IsReached, IsReachedIn, IsReachedLeft, IsUnder}
use Rattle.plir_passes.specs.Reached.{Needs, NeedsUnder, StaysItself, acts, ends_block}
use Rattle.plir_passes.proofs.Erasures.{ancestor-after, ancestor-before, climb-same}
use Rattle.plir_passes.proofs.Leaving.{root-reached, up-reached}
use Rattle.plir_passes.proofs.Upward.{first-step, op-of-block, under-live}

module _ {K A T : Type 0} (effect ends : K → Bool) (s : ContextView K A T) (r : Ptr OperationKind)
    (w : IsForest (look s)) (live : IsLive s (Operation r)) (alone : IsUnusedOutside s (Operation r))
    (t : ContextView K A T) (forest : IsForest (look t)) (left : IsReachedLeft effect ends s r t) where
  abbrev reached : Ptr OperationKind → Type 0
  reached q = IsReached effect ends s r q

  lives : (q : Ptr OperationKind) → IsUnder s r q → reached q → IsLive t (Operation q)
  lives q under h = (left.ops q under).1 h

  -- a block of a reached operation is left
  block-lives : (q : Ptr OperationKind) (b : Ptr BlockKind) → reached q → IsBlockOf s q b → IsLive t (BasicBlock b)
  block-lives q b h of =
      let f = first-step (parent_of s) 1 (BasicBlock b) (Operation q) of in
      left.nodes (BasicBlock b) (w.child_live f.0 (BasicBlock b) (w.parent_child f.0 (BasicBlock b) f.1))
      (λ p unreached above.
      (let g = op-of-block s b above.0 p above.1 in
      let same : q ≡ g.0 = same-op q g.0 (same_Some (Operation q) (Operation g.0) (sym of ∙ g.3)) in
      unreached.1 (up-reached effect ends s r w live alone p g.0 unreached.0 (g.1, g.4) (subst reached same h))))

  block-after : (q : Ptr OperationKind) (b : Ptr BlockKind) → reached q → IsBlockOf s q b → IsBlockOf t q b
  block-after q b h of = climb-same s t forest left.thinned 2 (BasicBlock b) (block-lives q b h of) ∙ of

  from-after : (q : Ptr OperationKind) (e : DefiningEntity) → reached q → IsFrom s q e → IsFrom t q e
  from-after q (Op p) h from = from
  from-after q (Block b) h from = block-after q b h from

  -- a reached operation needs what it needed
  needs-after : (p q : Ptr OperationKind) → IsLive t (Operation p) → IsLive t (Operation q) → reached q →
      Needs ends s p q → Needs ends t p q
  needs-after p q lp lq h (inl f) =
      let has = subst (λ z. Has z f.0) (sym (ap operands_in (left.thinned.ops p lp))) f.1 in
      inl (f.0, has, from-after q f.0.entity h f.2)
  needs-after p q lp lq h (inr (inl f)) =
      let has = subst (λ z. Has z f.0) (sym (ap successors_in (left.thinned.ops p lp))) f.1 in
      inr (inl (f.0, has, block-after q f.0 h f.2))
  needs-after p q lp lq h (inr (inr (inl stands))) =
      inr (inr (inl (climb-same s t forest left.thinned 3 (Operation p) lp ∙ stands)))
  needs-after p q lp lq h (inr (inr (inr f))) =
      inr (inr (inr (
        climb-same s t forest left.thinned 3 (Operation q) lq ∙ f.0,
        ap (λ o. is_kind (ends_block ends) (kind_in o)) (left.thinned.ops q lq) ∙ f.1,
      )))

  under-after : (q : Ptr OperationKind) → IsUnder s r q → IsLive t (Operation q) → IsUnder t r q
  under-after q under l = ancestor-after s t forest left.thinned (Operation r) (Operation q) l under

  still : (k : ℕ) (q : Ptr OperationKind) → IsReachedIn (StaysItself effect ends s r) (NeedsUnder effect ends s r) k q →
      IsReachedIn (StaysItself effect ends t r) (NeedsUnder effect ends t r) k q
  still zero q h =
      let l = lives q h.0 (zero, h) in (
        under-after q h.0 l,
        elim h.1 [
          | inl same ↦ inl same
          | inr does ↦ inr (ap (λ o. is_kind (acts effect) (kind_in o)) (left.thinned.ops q l) ∙ does)
        ],
      )
  still (suc k) q h =
      let p = h.0 in
      let under = h.2.0 in
      let here : reached q = (suc k, h) in
      let l = lives q under here in
      (p, still k p h.1, (under-after q under l, needs-after p q (lives p (under-in k p h.1) (k, h.1)) l here h.2.1))
    where
      under-in : (k : ℕ) (p : Ptr OperationKind) →
          IsReachedIn (StaysItself effect ends s r) (NeedsUnder effect ends s r) k p → IsUnder s r p
      under-in zero p f = f.0
      under-in (suc k) p f = f.2.0

  pub all-reached : AreAllReached effect ends t r
  all-reached q under =
      let root = lives r (zero, refl) (root-reached effect ends s r w live alone) in
      let l = under-live t forest (Operation r) (Operation q) under root in
      let before = ancestor-before s t forest left.thinned (Operation r) (Operation q) root under in
      let h = (left.ops q before).0 l in
      (h.0, still h.0 q h.1)
