-- Where all is reached, no operation is left that may go and that no other uses.
use Rattle.std.proofs.Common.{◌≡◌, ◌≢◌, ◌+◌, ℕ, zero, suc, arith, Bool, true, false, true≢false, [], Option}
use Rattle.std.proofs.Common.{Some, None, inl, inr, refl, sym, ap, subst, ◌∙◌}
use Rattle.std.specs.Prelude.{not, ◌&&◌}
use Rattle.std.proofs.lemmas.Option.{same_Some}
use Rattle.plir_data.specs.declared.op_set.OpKind.{OpKind}
use Rattle.plir_data.specs.declared.op_set.OpKind.TheVariants.{Module, Func, Constant, ForwardRef, Own}
use Rattle.plir_store.specs.Members.{Has}
use Rattle.plir_store.specs.MemberLaws.{at-Has}
use Rattle.plir_core.specs.declared.ptr.Ptr.{Ptr}
use Rattle.plir_core.specs.declared.ptr.Operation.{Operation as OperationKind}
use Rattle.plir_core.specs.declared.ptr.BasicBlock.{BasicBlock as BlockKind}
use Rattle.plir_core.specs.declared.ptr.IRNode.{IRNode}
use Rattle.plir_core.specs.declared.ptr.IRNode.TheVariants.{Operation, BasicBlock}
use Rattle.plir_core.specs.declared.value.Value.{Value}
use Rattle.plir_core.specs.declared.value.DefiningEntity.{DefiningEntity}
use Rattle.plir_core.specs.declared.value.DefiningEntity.TheVariants.{Op, Block}
use Rattle.plir_core.specs.Above.{climb}
use Rattle.plir_core.specs.ContextView.{ContextView, IsLive, children, kind_of, operands_of, parent_of}
use Rattle.plir_core.specs.Forest.{look, IsBelow}
use Rattle.plir_core.specs.Measures.{depth}
use Rattle.plir_core.specs.Standing.{IsStanding}
use Rattle.plir_walk.specs.NodeLaws.{ptr-tells}
use Rattle.plir_passes.specs.Dead.{HasNoDead, IsUsedBy, is_removable}
use Rattle.plir_passes.specs.Legal.{is_kind}
use Rattle.plir_passes.specs.Reached.{AreAllReached, IsBlockOf, IsFrom, IsReachedIn, IsUnder, Needs, NeedsUnder}
use Rattle.plir_passes.specs.Reached.{StandsIn, StaysItself, acts, ends_block}
use Rattle.plir_passes.proofs.Upward.{first-step, under-live}

-- ---- kinds

both-off : (a b : Bool) → (not a && not b) ≡ true → ((a ≡ true) → ⊥) × ((b ≡ true) → ⊥)
both-off true b e = absurd (true≢false (sym e))
both-off false true e = absurd (true≢false (sym e))
both-off false false e = (λ f. true≢false (sym f), λ f. true≢false (sym f))

module _ {K : Type 0} (effect ends : K → Bool) where
  kind-idle : (o : Option (OpKind K)) → is_kind (is_removable effect ends) o ≡ true →
      (is_kind (acts effect) o ≡ true → ⊥) × (is_kind (ends_block ends) o ≡ true → ⊥)
  kind-idle None e = absurd (true≢false (sym e))
  kind-idle (Some Module) e = absurd (true≢false (sym e))
  kind-idle (Some Func) e = absurd (true≢false (sym e))
  kind-idle (Some Constant) e = (λ f. true≢false (sym f), λ f. true≢false (sym f))
  kind-idle (Some ForwardRef) e = absurd (true≢false (sym e))
  kind-idle (Some (Own k)) e = both-off (effect k) (ends k) e

module _ {K A T : Type 0} (t : ContextView K A T) (w : IsStanding t) where
  -- what climbs to a node stands as much deeper as it climbs, so nothing stands below itself
  climb-deeper : (k : ℕ) (x a : IRNode) → climb (parent_of t) k (Some x) ≡ Some a → depth t x ≡ depth t a + k
  climb-deeper zero x a e = (let d = ap (depth t) (same_Some x a e) in omega (arith, d))
  climb-deeper (suc k) x a e =
      let f = first-step (parent_of t) k x a e in
      let r = climb-deeper k f.0 a f.2 in
      let d = w.measured.deeper f.0 x f.1 in
      omega (arith, r, d)

  apart : (r p : Ptr OperationKind) → IsBelow (look t) (Operation r) (Operation p) → p ≢ r
  apart r p below same =
      let d = climb-deeper (suc below.0) (Operation p) (Operation r) below.1 in
      let e = ap (λ q. depth t (Operation q)) same in
      let z : ⊥ = omega (arith, d, e) in z

  -- an operation without regions has no blocks, and nothing stands in it
  module _ (p : Ptr OperationKind) (leaf : children t (Operation p) ≡ []) where
    no-child : (n : IRNode) → climb (parent_of t) 1 (Some n) ≡ Some (Operation p) → ⊥
    no-child n e = subst (λ z. Has z n) leaf (w.forest.parent_child (Operation p) n e)

    no-block : (b : Ptr BlockKind) → IsBlockOf t p b → ⊥
    no-block b of =
        let f = first-step (parent_of t) 1 (BasicBlock b) (Operation p) of in
        no-child f.0 f.2

    none-in : (u : Ptr OperationKind) → StandsIn t p u → ⊥
    none-in u stands =
        let f = first-step (parent_of t) 2 (Operation u) (Operation p) stands in
        let g = first-step (parent_of t) 1 f.0 (Operation p) f.2 in
        no-child g.0 g.2

  module _ (effect ends : K → Bool) (r : Ptr OperationKind) (live : IsLive t (Operation r)) where
    abbrev reached_in : ℕ → Ptr OperationKind → Type 0
    reached_in k q = IsReachedIn (StaysItself effect ends t r) (NeedsUnder effect ends t r) k q

    in-under : (k : ℕ) (q : Ptr OperationKind) → reached_in k q → IsUnder t r q
    in-under zero q h = h.0
    in-under (suc k) q h = h.2.0

    module _ (p : Ptr OperationKind) (below : IsBelow (look t) (Operation r) (Operation p))
        (d : IsUsedBy effect ends t [] p) where
      idle : (is_kind (acts effect) (kind_of t p) ≡ true → ⊥) × (is_kind (ends_block ends) (kind_of t p) ≡ true → ⊥)
      idle = kind-idle effect ends (kind_of t p) d.removable

      -- an operation whose operand comes from it is that one itself
      used : (u : Ptr OperationKind) → IsLive t (Operation u) → (v : Value) → Has (operands_of t u) v →
          (e : DefiningEntity) → v.entity ≡ e → IsFrom t p e → u ≡ p
      used u l v has (Op x) same from = elim (ptr-tells u p) [
        | inl is ↦ is
        | inr other ↦
            let at = at-Has (operands_of t u) v has in
            absurd (d.users u l other (record {
              place = at.0;
              index = v.index;
              here = at.1 ∙ (λ i. Some (record { entity = (same ∙ ap Op from) i; index = v.index }));
            }))
      ]
      used u l v has (Block b) same from = absurd (no-block p d.no_region b from)

      never : (k : ℕ) → reached_in k p → ⊥
      never zero h = elim h.1 [ inl same ↦ apart r p below same | inr does ↦ idle.0 does ]
      never (suc k) h = need (λ g. never k g) h.2.1
        where
          lives : IsLive t (Operation h.0)
          lives = under-live t w.forest (Operation r) (Operation h.0) (in-under k h.0 h.1) live

          need : (reached_in k p → ⊥) → Needs ends t h.0 p → ⊥
          need rest (inl f) =
              rest (subst (reached_in k) (used h.0 lives f.0 f.1 f.0.entity refl f.2) h.1)
          need rest (inr (inl f)) = no-block p d.no_region f.0 f.2
          need rest (inr (inr (inl stands))) = none-in p d.no_region h.0 stands
          need rest (inr (inr (inr f))) = idle.1 f.1

    pub none-dead : AreAllReached effect ends t r → HasNoDead effect ends t (Operation r)
    none-dead all p below d =
        (let h = all p (suc below.0, below.1) in never p below d h.0 h.1)
