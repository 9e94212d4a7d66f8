-- The nodes of a tree, as they stand in a list: each once, and each that is at its root or below it.
use Rattle.std.proofs.Common.{◌≡◌, ◌+◌, ◌*◌, ◌<◌, ◌≤◌, ◌∙◌, ℕ, zero, suc, arith, List, [], ◌∷◌, ◌++◌, length}
use Rattle.std.proofs.Common.{Option, Some, None, inl, inr, refl, sym, ap, subst}
use Rattle.std.specs.List.{flat_map}
use Rattle.std.proofs.lemmas.Option.{same_Some, none-some}
use Rattle.plir_store.specs.Members.{Has, Distinct}
use Rattle.plir_store.specs.MemberLaws.{Has-append_cases, Has-append_left, Has-append_right, Distinct-append}
use Rattle.plir_store.specs.MemberLaws.{Distinct-one}
use Rattle.plir_core.specs.declared.ptr.IRNode.{IRNode}
use Rattle.plir_core.specs.Above.{climb}
use Rattle.plir_core.specs.ContextView.{ContextView, IsAncestor, children, parent_of}
use Rattle.plir_core.specs.Erase.{post_order, tree_of}
use Rattle.plir_core.specs.Forest.{look, IsForest}
use Rattle.plir_core.specs.Measures.{depth, depth_from, most_steps, IsMeasured}
use Rattle.plir_core.specs.Stored.{up, seat_of}
use Rattle.plir_core.specs.RoomLaws.{IsAtMost}
use Rattle.plir_copies.specs.Room.{count_of, tree_count}
use Rattle.plir_copies.proofs.RoomLaws.{as_many, count_within}

module _ {N : Type 0} (above : N → Option N) where
  pub climb-none : (k : ℕ) → climb above k None ≡ None
  climb-none zero = refl
  climb-none (suc k) = refl

  -- a climb of some steps ends one step further up
  climb-on : (k : ℕ) (o : Option N) (m n : N) → climb above k o ≡ Some m → above m ≡ Some n
      → climb above (suc k) o ≡ Some n
  climb-on k None m n e p = absurd (none-some m (sym (climb-none k) ∙ e))
  climb-on zero (Some x) m n e p = ap above (same_Some x m e) ∙ p
  climb-on (suc k) (Some x) m n e p = climb-on k (above x) m n e p

  -- what a climb comes to before its last step
  climb-back : (k : ℕ) (x n : N) → climb above (suc k) (Some x) ≡ Some n
      → (m : N) × (climb above k (Some x) ≡ Some m) × (above m ≡ Some n)
  climb-back zero x n e = (x, refl, e)
  climb-back (suc k) x n e = go (λ y c. climb-back k y n c) (above x) refl e
    where
      go : ((y : N) → climb above (suc k) (Some y) ≡ Some n
          → (m : N) × (climb above k (Some y) ≡ Some m) × (above m ≡ Some n)) → (o : Option N) → above x ≡ o
          → climb above (suc k) o ≡ Some n
          → (m : N) × (climb above k (above x) ≡ Some m) × (above m ≡ Some n)
      go more None p c = absurd (none-some n c)
      go more (Some y) p c =
          let r = more y c in
          (r.0, ap (climb above k) p ∙ r.1, r.2)

module _ {X : Type 0} (f : X → List X) where
  flat_map-Has : (xs : List X) (x y : X) → Has xs x → Has (f x) y → Has (flat_map f xs) y
  flat_map-Has [] x y h k = absurd h
  flat_map-Has (z ∷ xs) x y (inl e) k =
      Has-append_left (f z) (flat_map f xs) y (subst (λ w. Has (f w) y) (sym e) k)
  flat_map-Has (z ∷ xs) x y (inr h) k = Has-append_right (f z) (flat_map f xs) y (flat_map-Has xs x y h k)

  Has-flat_map : (xs : List X) (y : X) → Has (flat_map f xs) y → (x : X) × Has xs x × Has (f x) y
  Has-flat_map [] y h = absurd h
  Has-flat_map (z ∷ xs) y h = elim (Has-append_cases (f z) (flat_map f xs) y h) [
    | inl a ↦ (z, inl refl, a)
    | inr b ↦ (let r = Has-flat_map xs y b in (r.0, inr r.1, r.2))
  ]

depth-bound : {N : Type 0} (above : N → Option N) (k : ℕ) (o : Option N) → depth_from above k o ≤ k
depth-bound above zero o = omega arith
depth-bound above (suc k) None = omega arith
depth-bound above (suc k) (Some n) = (let h = depth-bound above k (above n) in omega (arith, h))

depth-some : {N : Type 0} (above : N → Option N) (k : ℕ) (n : N) → 1 ≤ k → 1 ≤ depth_from above k (Some n)
depth-some above zero n h = absurd (omega (arith, h))
depth-some above (suc k) n h = omega arith

module _ {K A T : Type 0} (s : ContextView K A T) where
  -- each step up leads one level up
  deeper-by : IsMeasured s → (k : ℕ) (n a : IRNode) → climb (parent_of s) k (Some n) ≡ Some a
      → depth s n ≡ depth s a + k
  deeper-by m zero n a e = ap (depth s) (same_Some n a e) ∙ (let h : depth s a ≡ depth s a + 0 = omega arith in h)
  deeper-by m (suc k) n a e = go (λ x c. deeper-by m k x a c) (parent_of s n) refl e
    where
      go : ((x : IRNode) → climb (parent_of s) k (Some x) ≡ Some a → depth s x ≡ depth s a + k) → (o : Option IRNode)
          → parent_of s n ≡ o → climb (parent_of s) k o ≡ Some a → depth s n ≡ depth s a + suc k
      go more None p c = absurd (none-some a (sym (climb-none (parent_of s) k) ∙ c))
      go more (Some x) p c =
          let here = m.deeper x n p in
          let rest = more x c in
          omega (arith, here, rest)

  -- nothing is its own child's child
  pub no-cycle : IsMeasured s → (root n : IRNode) → IsAncestor s root n → parent_of s root ≡ Some n → ⊥
  no-cycle m root n r p =
      let up = deeper-by m r.0 n root r.1 in
      let down = m.deeper n root p in
      omega (arith, up, down)

  pub one_up : (n x root : IRNode) → parent_of s x ≡ Some n → IsAncestor s root n → IsAncestor s root x
  one_up n x root p r = (suc r.0, subst (λ o. climb (parent_of s) r.0 o ≡ Some root) (sym p) r.1)

  -- the nodes from a node down, to some levels
  abbrev down : ℕ → IRNode → List IRNode
  down j n = post_order (children s) j n

  -- what stands there is that node or below it
  down-below : IsForest (look s) → (j : ℕ) (n x : IRNode) → Has (down j n) x → IsAncestor s n x
  down-below f zero n x h = absurd h
  down-below f (suc j) n x h = elim (Has-append_cases (flat_map (down j) (children s n)) (n ∷ []) x h) [
    | inl a ↦ (
        let r = Has-flat_map (down j) (children s n) x a in
        let k = down-below f j r.0 x r.2 in
        (suc k.0, climb-on (parent_of s) k.0 (Some x) r.0 n k.1 (f.child_parent n r.0 r.1)))
    | inr b ↦ elim b [ inl e ↦ (0, ap Some (sym e)) | inr z ↦ absurd z ]
  ]

  -- and each that is no more levels down stands there
  below-down : IsForest (look s) → (j k : ℕ) (n x : IRNode) → climb (parent_of s) k (Some x) ≡ Some n → k < j
      → Has (down j n) x
  below-down f zero k n x e lt = absurd (omega (arith, lt))
  below-down f (suc j) zero n x e lt =
      Has-append_right (flat_map (down j) (children s n)) (n ∷ []) x (inl (sym (same_Some x n e)))
  below-down f (suc j) (suc k) n x e lt =
      let r = climb-back (parent_of s) k x n e in
      Has-append_left (flat_map (down j) (children s n)) (n ∷ []) x (flat_map-Has (down j) (children s n) r.0 x
      (f.parent_child n r.0 r.2) (below-down f j k r.0 x r.1 (omega (arith, lt))))

  -- two children of a node under which the same one stands are one
  one-above : IsMeasured s → (n a b x : IRNode) → parent_of s a ≡ Some n → parent_of s b ≡ Some n
      → IsAncestor s a x → IsAncestor s b x → a ≡ b
  one-above m n a b x p q h k =
      let same : h.0 ≡ k.0 =
      omega (arith, deeper-by m h.0 x a h.1, deeper-by m k.0 x b k.1, m.deeper n a p, m.deeper n b q) in
      same_Some a b (sym h.1 ∙ ap (λ i. climb (parent_of s) i (Some x)) same ∙ k.1)

  -- none stands there twice
  parts-once : IsForest (look s) → IsMeasured s → (j : ℕ) → ((n : IRNode) → Distinct (down j n)) → (n : IRNode)
      → (cs : List IRNode) → Distinct cs → ((c : IRNode) → Has cs c → parent_of s c ≡ Some n)
      → Distinct (flat_map (down j) cs)
  parts-once f m j once n [] d p = tt
  parts-once f m j once n (c ∷ cs) d p =
      Distinct-append (down j c) (flat_map (down j) cs) (once c)
      (parts-once f m j once n cs d.1 (λ x h. p x (inr h))) (λ x a b.
      let r = Has-flat_map (down j) cs x b in
      let same = one-above m n r.0 c x (p r.0 (inr r.1)) (p c (inl refl)) (down-below f j r.0 x r.2)
      (down-below f j c x a) in
      d.0 (subst (Has cs) same r.1))

  down-once : IsForest (look s) → IsMeasured s → (j : ℕ) (n : IRNode) → Distinct (down j n)
  down-once f m zero n = tt
  down-once f m (suc j) n =
      Distinct-append (flat_map (down j) (children s n)) (n ∷ [])
      (parts-once f m j (down-once f m j) n (children s n) (f.once n) (λ c h. f.child_parent n c h)) (Distinct-one n)
      (λ x a b. elim b [
        | inl e ↦ (
            let r = Has-flat_map (down j) (children s n) x a in
            no-cycle m r.0 n (subst (IsAncestor s r.0) (sym e) (down-below f j r.0 x r.2)) (f.child_parent n r.0 r.1))
        | inr z ↦ absurd z
      ])

  module _ (f : IsForest (look s)) (m : IsMeasured s) (root : IRNode) where
    in-tree : (n : IRNode) → IsAncestor s root n → Has (tree_of s.nodes root) n
    in-tree n r =
        let most = most_steps s.nodes in
        let some : 1 ≤ depth s root = depth-some (up s.nodes) most (seat_of root) (omega arith) in
        let bound : depth s n ≤ most = depth-bound (up s.nodes) most (Some (seat_of n)) in
        below-down f most r.0 root n r.1 (omega (arith, some, bound, deeper-by m r.0 n root r.1))

    -- different nodes of the tree are no more of any kind than it has
    pub tree-most : (ns : List IRNode) → Distinct ns → ((n : IRNode) → Has ns n → IsAncestor s root n)
        → IsAtMost (count_of ns) (tree_count s.nodes root)
    tree-most ns d below = count_within ns (tree_of s.nodes root) d (λ n h. in-tree n (below n h))

    -- and all of them, each once, are as many
    pub tree-counted : (ns : List IRNode) → Distinct ns → ((n : IRNode) → Has ns n → IsAncestor s root n)
        → ((n : IRNode) → IsAncestor s root n → Has ns n) → count_of ns ≡ tree_count s.nodes root
    tree-counted ns d below all =
        let most = most_steps s.nodes in
        as_many (count_of ns) (tree_count s.nodes root) (tree-most ns d below) (count_within (tree_of s.nodes root) ns
        (down-once f m most root) (λ n h. all n (down-below f most root n h)))
