-- The nodes of trees in the order of a text, as contexts change.
use Rattle.std.proofs.Common.{◌≡◌, ℕ, zero, suc, ◌+◌, ◌<◌, ◌≤◌, List, [], ◌∷◌, ◌++◌, Option, Some, inl, inr, refl, sym}
use Rattle.std.proofs.Common.{ap, ap₂, subst, ◌∙◌, append-nil, flat_map, arith}
use Rattle.std.proofs.lemmas.Grind.{flat_map-append}
use Rattle.plir_core.specs.declared.ptr.Ptr.{Ptr}
use Rattle.plir_core.specs.declared.ptr.Operation.{Operation as OperationKind}
use Rattle.plir_core.specs.declared.ptr.Region.{Region as RegionKind}
use Rattle.plir_core.specs.declared.ptr.IRNode.{IRNode}
use Rattle.plir_core.specs.declared.ptr.IRNode.TheVariants.{Operation, Region}
use Rattle.plir_core.specs.Above.{Reaches}
use Rattle.plir_core.specs.Stored.{up, seat_of}
use Rattle.plir_core.specs.Made.{IsMade}
use Rattle.plir_store.specs.Members.{Has}
use Rattle.plir_core.specs.Placed.{IsPlaced}
use Rattle.plir_core.specs.Standing.{IsStanding}
use Rattle.plir_core.specs.ContextView.{ContextView, IsLive, children, parent_of}
use Rattle.plir_core.specs.Measures.{depth_from, most_steps, depth as depth_in}
use Rattle.plir_attr_text.specs.Names.{Grows}
use Rattle.plir_read.specs.Slots.{pre_order, node_slots, AreNext, AreGivenOut, tree_in_order, below_in_order}
use Rattle.plir_read.specs.Slots.{IsMadeInOrder, IsGrownInOrder}
use Rattle.plir_read.specs.laws.Frames.{IsFrame, frame_made, frame_placed, child_below}
use Rattle.plir_read.specs.laws.SlotLaws.{AreNext-append, placed_slots}

flat_map-same : {X A : Type 0} (f g : X → List A) (xs : List X) → ((x : X) → Has xs x → f x ≡ g x) →
    flat_map f xs ≡ flat_map g xs
flat_map-same f g [] e = refl
flat_map-same f g (x ∷ xs) e =
    let a = e x (inl refl) in
    let b = flat_map-same f g xs (λ y h. e y (inr h)) in
    rw (a, b) refl

module _ {N : Type 0} where
  -- where the nodes that pass have the children that they had, and their children pass
  pub pre_order-same : (K L : N → List N) (P : N → Type 0) → ((n : N) → P n → L n ≡ K n) →
      ((a x : N) → P a → Has (K a) x → P x) → (k : ℕ) (n : N) → P n → pre_order L k n ≡ pre_order K k n
  pre_order-same K L P same down zero n p = refl
  pre_order-same K L P same down (suc k) n p =
      ap (λ ks. n ∷ flat_map (pre_order L k) ks) (same n p) ∙
      ap (λ ms. n ∷ ms) (flat_map-same (pre_order L k) (pre_order K k) (K n)
      (λ x h. pre_order-same K L P same down k x (down n x p h)))

  -- to more levels than there are the nodes are the same
  enough_levels : (K : N → List N) (level : N → ℕ) (most : ℕ) → ((a x : N) → Has (K a) x → level x ≡ level a + 1) →
      ((n : N) → level n < most) → (k j : ℕ) (n : N) → most ≤ level n + k → most ≤ level n + j →
      pre_order K k n ≡ pre_order K j n
  enough_levels K level most deeper deepest zero j n h g = absurd (omega (arith, deepest n))
  enough_levels K level most deeper deepest (suc k) zero n h g = absurd (omega (arith, deepest n))
  enough_levels K level most deeper deepest (suc k) (suc j) n h g =
      ap (λ ms. n ∷ ms) (flat_map-same (pre_order K k) (pre_order K j) (K n)
      (λ x m. let d = deeper n x m in enough_levels K level most deeper deepest k j x (omega arith) (omega arith)))

  some_depth : (above : N → Option N) (k : ℕ) (n : N) → 0 < k → 0 < depth_from above k (Some n)
  some_depth above zero n h = absurd (omega arith)
  some_depth above (suc k) n h = omega arith

module _ {K A T : Type 0} where
  -- a tree is its root and what is below that
  pub tree_is : (s : ContextView K A T) → IsStanding s → (n : IRNode) →
      tree_in_order s.nodes n ≡ n ∷ below_in_order s.nodes n
  tree_is s w n =
      let here : 0 < depth_in s n = some_depth (up s.nodes) (most_steps s.nodes) (seat_of n) (omega arith) in
      let deeper = λ (a x : IRNode) (h : Has (children s a) x). w.measured.deeper a x (w.forest.child_parent a x h) in
      ap (λ ms. n ∷ ms) (flat_map-same (pre_order (children s) s.nodes.limit) (tree_in_order s.nodes) (children s n)
      (λ x h.
      let d = deeper n x h in
      enough_levels (children s) (depth_in s) (s.nodes.limit + 2) deeper
      (λ m. let b = w.measured.deepest m in omega arith) s.nodes.limit (suc s.nodes.limit) x (omega arith)
      (omega arith)))

  module _ (s t : ContextView K A T) (P : IRNode → Type 0) (f : IsFrame s t P) (limit : t.nodes.limit ≡ s.nodes.limit)
    where
      pub tree_kept : (n : IRNode) → P n → tree_in_order t.nodes n ≡ tree_in_order s.nodes n
      tree_kept n p = pre_order-same (children s) (children t) P f.same f.down (suc t.nodes.limit) n p ∙
          ap (λ l. pre_order (children s) (suc l) n) limit

      pub trees_kept : (ns : List IRNode) → ((m : IRNode) → Has ns m → P m) →
          flat_map (tree_in_order t.nodes) ns ≡ flat_map (tree_in_order s.nodes) ns
      trees_kept ns all =
          flat_map-same (tree_in_order t.nodes) (tree_in_order s.nodes) ns (λ m h. tree_kept m (all m h))

  -- nothing below a node
  pub none_in_order : (s : ContextView K A T) (n : IRNode) → children s n ≡ [] → IsGrownInOrder s.nodes s.nodes n
  none_in_order s n e = subst (λ ks. AreGivenOut s.nodes (flat_map (tree_in_order s.nodes) ks) s.nodes) (sym e) refl

  -- a node without children
  pub leaf_in_order : (s t : ContextView K A T) (n : IRNode) → children t n ≡ [] →
      AreGivenOut s.nodes (n ∷ []) t.nodes → IsMadeInOrder s.nodes t.nodes n
  leaf_in_order s t n e g =
      subst (λ ks. AreGivenOut s.nodes (n ∷ flat_map (pre_order (children t) t.nodes.limit) ks) t.nodes) (sym e) g

  -- a node, and behind it what is below it
  pub root_in_order : (s t u : ContextView K A T) (n : IRNode) → IsStanding u → AreGivenOut s.nodes (n ∷ []) t.nodes →
      IsGrownInOrder t.nodes u.nodes n → IsMadeInOrder s.nodes u.nodes n
  root_in_order s t u n w g h =
      subst (λ ns. AreGivenOut s.nodes ns u.nodes) (sym (tree_is u w n))
      (AreNext-append (node_slots s.nodes) (node_slots t.nodes) (node_slots u.nodes) (n ∷ []) (below_in_order u.nodes n)
      g h)

  -- an operation with its region, and behind it what is below that
  pub op_in_order : (s t u : ContextView K A T) (p : Ptr OperationKind) (r : Ptr RegionKind) → IsStanding u →
      children u (Operation p) ≡ Region r ∷ [] → AreGivenOut s.nodes (Operation p ∷ Region r ∷ []) t.nodes →
      IsGrownInOrder t.nodes u.nodes (Region r) → IsMadeInOrder s.nodes u.nodes (Operation p)
  op_in_order s t u p r w e g h =
      let below : below_in_order u.nodes (Operation p) ≡ Region r ∷ below_in_order u.nodes (Region r) =
      ap (flat_map (tree_in_order u.nodes)) e ∙ append-nil (tree_in_order u.nodes (Region r)) ∙
      tree_is u w (Region r) in
      let all = tree_is u w (Operation p) ∙ ap (λ ns. Operation p ∷ ns) below in
      subst (λ ns. AreGivenOut s.nodes ns u.nodes) (sym all)
      (AreNext-append (node_slots s.nodes) (node_slots t.nodes) (node_slots u.nodes) (Operation p ∷ Region r ∷ [])
      (below_in_order u.nodes (Region r)) g h)

  -- From `first` to s nodes came below `over`; from s to t the tree at n was made, which from t to u was put under
  -- `over`, last.
  module _ (first s t u : ContextView K A T) (over n : IRNode) where
    pub next_in_order : IsStanding s → IsStanding t → IsLive s over → IsMade s.nodes t.nodes n → Grows s.types t.types →
        IsPlaced t.nodes u.nodes n over (children t over ++ n ∷ []) → u.types ≡ t.types →
        IsGrownInOrder first.nodes s.nodes over → IsMadeInOrder s.nodes t.nodes n →
        IsGrownInOrder first.nodes u.nodes over
    next_in_order before now live made types placed same g h =
        let apart : Reaches (parent_of t) over n → ⊥ = made.apart over live in
        let older = frame_made s t n before made types in
        let beside = frame_placed t u n over (children t over ++ n ∷ []) now placed same in
        let kept : flat_map (tree_in_order u.nodes) (children t over) ≡ below_in_order s.nodes over =
        trees_kept t u (λ m. Reaches (parent_of t) over m → ⊥) beside placed.moved.limit (children t over)
        (λ m k. child_below t now over m k)
        ∙ ap (flat_map (tree_in_order t.nodes)) (made.children over live)
        ∙ trees_kept s t (λ m. IsLive s m) older made.keeps.limit (children s over)
        (λ m k. before.forest.child_live over m k) in
        let last : flat_map (tree_in_order u.nodes) (n ∷ []) ≡ tree_in_order t.nodes n =
        append-nil (tree_in_order u.nodes n) ∙
        tree_kept t u (λ m. Reaches (parent_of t) over m → ⊥) beside placed.moved.limit n apart in
        let all : below_in_order u.nodes over ≡ below_in_order s.nodes over ++ tree_in_order t.nodes n =
        ap (flat_map (tree_in_order u.nodes)) placed.children_over ∙
        flat_map-append (tree_in_order u.nodes) (children t over) (n ∷ []) ∙ ap₂ (λ xs ys. xs ++ ys) kept last in
        let given = AreNext-append (node_slots first.nodes) (node_slots s.nodes) (node_slots t.nodes)
        (below_in_order s.nodes over) (tree_in_order t.nodes n) g h in
        subst (λ z. AreNext (node_slots first.nodes) (below_in_order u.nodes over) z)
        (sym (placed_slots t.nodes u.nodes n over (children t over ++ n ∷ []) placed))
        (subst (λ ns. AreNext (node_slots first.nodes) ns (node_slots t.nodes)) (sym all) given)
