-- What stands beside a node is another one, and stays where the node is erased.
use Rattle.std.proofs.Common.{◌≡◌, ℕ, zero, suc, true, List, [], ◌∷◌, Option, Some, None, sym, ◌∙◌, ap, subst, arith}
use Rattle.std.proofs.Common.{add-one}
use Rattle.std.specs.Prelude.{slice_get, option_map}
use Rattle.std.proofs.lemmas.Option.{same_Some, none-some}
use Rattle.plir_store.specs.MemberLaws.{Has-at, at-Has}
use Rattle.plir_store.specs.Members.{Has, Distinct}
use Rattle.plir_core.specs.Above.{Reaches}
use Rattle.plir_core.specs.Erase.{IsErased}
use Rattle.plir_core.specs.Lasting.{StandsBesideAfter}
use Rattle.plir_core.specs.Measures.{depth_of}
use Rattle.plir_core.specs.Nodes.{Nodes, is_node_live, node_children, node_parent, node_next, node_prev}
use Rattle.plir_core.specs.Stored.{IsStored}
use Rattle.plir_core.specs.declared.ptr.Ptr.{Ptr}
use Rattle.plir_core.specs.declared.ptr.Operation.{Operation as OperationKind}
use Rattle.plir_core.specs.declared.ptr.IRNode.{IRNode}
use Rattle.plir_core.specs.declared.ptr.IRNode.TheVariants.{Operation}
use Rattle.plir_core.specs.ContextView.{ContextView, IsLive, parent_of, next_sibling, prev_sibling}
use Rattle.plir_core.proofs.Answered.{answered, IsBeside, next-beside, prev-beside}
use Rattle.plir_core.proofs.Backs.{before_or, prev-place}
use Rattle.plir_core.proofs.ChildPlaces.{next-place}
use Rattle.plir_core.proofs.Depths.{depth-child}
use Rattle.plir_core.proofs.Erased.{IsTree-stored}
use Rattle.plir_core.proofs.Facts.{child-live, child-parent, children-once, parent-child}
use Rattle.plir_core.proofs.Trees.{depth-climb}

-- what stands once does not stand at two places
twice : (xs : List IRNode) (i : ℕ) (a : IRNode) → Distinct xs → slice_get xs i ≡ Some a → slice_get xs (suc i) ≡ Some a
    → ⊥
twice [] i a d e f = none-some a e
twice (x ∷ xs) zero a d e f = d.0 (subst (Has xs) (sym (same_Some x a e)) (Has-at xs 0 a f))
twice (x ∷ xs) (suc i) a d e f = twice xs i a d.1 e f

before_itself : (xs : List IRNode) (i : ℕ) (a : IRNode) → Distinct xs → slice_get xs i ≡ Some a → before_or None xs i ≡
    Some a → ⊥
before_itself xs zero a d e f = none-some a f
before_itself xs (suc i) a d e f = twice xs i a d f e

module _ {O B : Type 0} (s : Nodes O B) (w : IsStored s) (n x : IRNode) where
  prev-other : node_prev s n ≡ Some x → x ≡ n → ⊥
  prev-other e q =
      let b = prev-beside s w n x e in
      let r = at-Has (node_children s b.above) n (parent-child s w b.above n b.parent) in
      let f = sym (prev-place s w b.above n r.0 r.1) ∙ e in
      before_itself (node_children s b.above) r.0 n (children-once s w b.above) r.1
      (subst (λ z. before_or None (node_children s b.above) r.0 ≡ Some z) q f)

  next-other : node_next s n ≡ Some x → x ≡ n → ⊥
  next-other e q =
      let b = next-beside s w n x e in
      let r = at-Has (node_children s b.above) n (parent-child s w b.above n b.parent) in
      let f : slice_get (node_children s b.above) (suc r.0) ≡ Some x = ap (slice_get (node_children s b.above))
      (sym (add-one r.0)) ∙ sym (next-place s w b.above n r.0 r.1) ∙ e in
      twice (node_children s b.above) r.0 n (children-once s w b.above) r.1 (subst
      (λ z. slice_get (node_children s b.above) (suc r.0) ≡ Some z) q f)

  -- another child of the same parent does not stand below n
  apart : IsBeside s w n x → (x ≡ n → ⊥) → Reaches (node_parent s) x n → ⊥
  apart b other (zero, c) = other (same_Some x n c)
  apart b other (suc k, c) =
      let deep = depth-climb (node_children s) (node_parent s) (depth_of s) (IsTree-stored s w) (suc k) x n c in
      omega (
        arith,
        deep,
        depth-child s w b.above x (child-parent s w b.above x b.child),
        depth-child s w b.above n
            b.parent,
      )

  module _ (t : Nodes O B) (e : IsErased s t n) (b : IsBeside s w n x) (other : x ≡ n → ⊥) where
    stays-live : is_node_live t x ≡ true
    stays-live = e.live x (apart b other) ∙ child-live s w b.above x b.child

    stays-here : node_parent t x ≡ node_parent s n
    stays-here = e.parents x (apart b other) ∙ child-parent s w b.above x b.child ∙ sym b.parent

module _ {K A T : Type 0} (s t : ContextView K A T) (w : IsStored s.nodes) (p : Ptr OperationKind)
    (e : IsErased s.nodes t.nodes (Operation p)) (beside : Option (Ptr OperationKind)) where
  lasts : (o : Option IRNode) → option_map Operation beside ≡ o → ((x : IRNode) → o ≡ Some x → IsBeside s.nodes w
      (Operation p) x × (x ≡ Operation p → ⊥)) → StandsBesideAfter s t p beside
  lasts o v h = record {
    live = answered Operation (λ m. IsLive t m) beside o v (λ x q. (let r = h x q in stays-live s.nodes w (Operation p)
        x t.nodes e r.0 r.1));
    here = answered Operation (λ m. parent_of t m ≡ parent_of s (Operation p)) beside o v
        (λ x q. (let r = h x q in stays-here s.nodes w (Operation p) x t.nodes e r.0 r.1));
  }

  pub prev-lasts : option_map Operation beside ≡ prev_sibling s (Operation p) → StandsBesideAfter s t p beside
  prev-lasts v = lasts (prev_sibling s (Operation p)) v (λ x q. (
    prev-beside s.nodes w (Operation p) x q,
    prev-other
        s.nodes w (Operation p) x q,
  ))

  pub next-lasts : option_map Operation beside ≡ next_sibling s (Operation p) → StandsBesideAfter s t p beside
  next-lasts v = lasts (next_sibling s (Operation p)) v (λ x q. (
    next-beside s.nodes w (Operation p) x q,
    next-other
        s.nodes w (Operation p) x q,
  ))
