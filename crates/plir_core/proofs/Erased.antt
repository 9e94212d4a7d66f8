-- A tree is erased from its first leaf on.
use Rattle.std.proofs.Common.{◌≡◌, ℕ, zero, suc, ◌+◌, ◌≤◌, true, List, [], ◌∷◌, Option, Some, inl, refl, sym, ◌∙◌, ap}
use Rattle.std.proofs.Common.{subst, arith}
use Rattle.std.proofs.lemmas.Option.{same_Some, none-some}
use Rattle.plir_core.specs.declared.ptr.IRNode.{IRNode}
use Rattle.plir_core.specs.Above.{climb}
use Rattle.plir_store.specs.Members.{Has, head}
use Rattle.plir_core.specs.Nodes.{Nodes, is_node_live, node_children, node_parent, num_nodes}
use Rattle.plir_core.specs.Stored.{seat_of, IsStored}
use Rattle.plir_core.specs.Erase.{post_order, without_node, without_nodes, tree_of, erased}
use Rattle.plir_core.proofs.Facts.{child-parent, parent-child, children-once, child-live}
use Rattle.plir_core.proofs.Depths.{depth-child, depth-le, depth-le_most, depth_falls}
use Rattle.plir_core.proofs.Trees.{IsTree, climb_step, climb_last, down-up, depth-climb, post_order-first, down-frame}
use Rattle.plir_core.proofs.FreedNode.{freed-live, freed-children_here, freed-children, freed-most, freed-stored}
use Rattle.plir_core.proofs.FreedNode.{freed-count}
use Rattle.plir_core.specs.Measures.{most_steps, depth_of}

pub head-Has : (ns : List IRNode) (n : IRNode) → head ns ≡ Some n → Has ns n
head-Has [] n e = absurd (none-some n e)
head-Has (x ∷ ns) n e = inl (same_Some x n e)

module _ {O B : Type 0} where
  -- the first child of a node
  abbrev pub first_child : Nodes O B → IRNode → Option IRNode
  first_child s n = head (node_children s n)

  pub IsTree-stored : (s : Nodes O B) → IsStored s → IsTree (node_children s) (node_parent s) (depth_of s)
  IsTree-stored s w = record {
    child_parent = child-parent s w;
    parent_child = parent-child s w;
    once = children-once s w;
    deeper = depth-child s w;
  }

  -- what is reached by first children is live
  way-live : (s : Nodes O B) (w : IsStored s) (k : ℕ) (n x : IRNode) → is_node_live s n ≡ true → climb (first_child s) k
      (Some n) ≡ Some x → is_node_live s x ≡ true
  way-live s w zero n x live e = subst (λ z. is_node_live s z ≡ true) (same_Some n x e) live
  way-live s w (suc k) n x live e =
      let r = climb_last (first_child s) k (Some n) x e in
      child-live s w r.0 x (head-Has (node_children s r.0) x r.1.1)

  pub depth-some : (s : Nodes O B) → IsStored s → (n : IRNode) → 1 ≤ depth_of s n
  depth-some s w n = let d = depth_falls s w (seat_of n) in omega arith

  -- the tree of a node without children
  pub tree-leaf : (s : Nodes O B) (n : IRNode) → node_children s n ≡ [] → tree_of s n ≡ n ∷ []
  tree-leaf s n none = enough (most_steps s) (omega arith)
    where
      enough : (f : ℕ) → 1 ≤ f → post_order (node_children s) f n ≡ n ∷ []
      enough zero h = absurd (omega arith)
      enough (suc f) h = rw none refl

  -- A node without children is reached from n by k + 1 first children, and freed.
  module _ (s : Nodes O B) (w : IsStored s) (n x : IRNode) (k : ℕ) (live : is_node_live s n ≡ true)
      (way : climb (first_child s) (suc k) (Some n) ≡ Some x) (none : node_children s x ≡ []) where
    abbrev tree : IsTree (node_children s) (node_parent s) (depth_of s)
    tree = IsTree-stored s w

    pub leaf_live : is_node_live s x ≡ true
    leaf_live = way-live s w (suc k) n x live way

    deep : depth_of s x ≡ depth_of s n + suc k
    deep = depth-climb (node_children s) (node_parent s) (depth_of s) tree (suc k) x n
        (down-up (node_children s) (node_parent s) (depth_of s) tree (suc k) n x way)

    root_other : n ≡ x → ⊥
    root_other e = let d = deep in let c = ap (depth_of s) e in let b : ⊥ = omega arith in b

    pub root_live : is_node_live (without_node s x) n ≡ true
    root_live = freed-live s x n leaf_live root_other w ∙ live

    pub less_stored : IsStored (without_node s x)
    less_stored = freed-stored s x leaf_live none w

    -- p is the parent of the leaf, with the leaf as its first child
    module _ (p : IRNode) (rest : List IRNode) (to : climb (first_child s) k (Some n) ≡ Some p)
        (was : node_children s p ≡ x ∷ rest) where
      under : node_parent s x ≡ Some p
      under = child-parent s w p x (subst (λ z. Has z x) (sym was) (inl refl))

      is : node_children (without_node s x) p ≡ rest
      is = freed-children_here s x p [] rest leaf_live w was

      same : (m : IRNode) → (m ≡ p → ⊥) → node_children (without_node s x) m ≡ node_children s m
      same m ne = freed-children s x m leaf_live none w (λ e. ne (same_Some m p (sym e ∙ under)))

      tree_in : tree_of s n ≡ x ∷ tree_of (without_node s x) n
      tree_in =
          let d = deep in
          let one = depth-some s w n in
          let most = depth-le_most s w x in
          post_order-first (node_children s) (node_parent s) (depth_of s) tree (node_children (without_node s x)) p x
          rest was is same none k (most_steps s) n way (omega arith)
          ∙ ap (λ f. x ∷ post_order (node_children (without_node s x)) f n) (sym (freed-most s x))

      way_in : climb (first_child (without_node s x)) k (Some n) ≡ Some p
      way_in = down-frame (node_children s) (node_parent s) (depth_of s) tree (node_children (without_node s x)) p x
          rest was is same none k n to

    head_cons : (ks : List IRNode) → head ks ≡ Some x → (rest : List IRNode) × (ks ≡ x ∷ rest)
    head_cons [] e = absurd (none-some x e)
    head_cons (y ∷ ks) e = (ks, ap (λ z. z ∷ ks) (same_Some y x e))

    -- it was the first node of the tree's post-order
    pub tree-first : tree_of s n ≡ x ∷ tree_of (without_node s x) n
    tree-first =
        let r = climb_last (first_child s) k (Some n) x way in
        let c = head_cons (node_children s r.0) r.1.1 in
        tree_in r.0 c.0 r.1.0 c.1

    -- its parent is reached by first children, also afterwards
    pub way-parent : (p : IRNode) → node_parent s x ≡ Some p → climb (first_child (without_node s x)) k (Some n) ≡ Some
        p
    way-parent p e =
        let r = climb_last (first_child s) k (Some n) x way in
        let c = head_cons (node_children s r.0) r.1.1 in
        way_in r.0 c.0 r.1.0 c.1 ∙ sym (under r.0 c.0 r.1.0 c.1) ∙ e

    -- which is live still
    pub way-over : (p : IRNode) → node_parent s x ≡ Some p → is_node_live (without_node s x) p ≡ true
    way-over p e = way-live (without_node s x) less_stored k n p root_live (way-parent p e)

    pub erased-first : erased s n ≡ erased (without_node s x) n
    erased-first = ap (without_nodes s) tree-first

  -- A leaf that is reached from a node by first children.
  pub record FirstLeaf (s : Nodes O B) (n : IRNode) : Type 0 where
    pub steps : ℕ
    pub leaf : IRNode
    pub way : climb (first_child s) steps (Some n) ≡ Some leaf
    pub none : node_children s leaf ≡ []

  leaf_from : (s : Nodes O B) (w : IsStored s) (n : IRNode) (g k : ℕ) (x : IRNode) → climb (first_child s) k (Some n) ≡
      Some x → s.limit + 2 ≤ depth_of s x + g → FirstLeaf s n
  leaf_from s w n zero k x way h = let d = depth-le s w x in absurd (omega arith)
  leaf_from s w n (suc g) k x way h = elim (node_children s x) as (λ ks. node_children s x ≡ ks → FirstLeaf s n) [
    | [] ↦ λ e. record { steps = k; leaf = x; way = way; none = e }
    | c ∷ ms ↦ λ e.
        let d = depth-child s w x c (child-parent s w x c (subst (λ z. Has z c) (sym e) (inl refl))) in
        leaf_from s w n g (suc k) c (climb_step (first_child s) k (Some n) x way ∙ ap head e) (omega arith)
  ] refl

  pub first_leaf : (s : Nodes O B) (w : IsStored s) (n : IRNode) → FirstLeaf s n
  first_leaf s w n = leaf_from s w n (s.limit + 2) 0 n refl (omega arith)

  -- each of the nodes is live and without children when its turn comes
  abbrev pub IsPeeled : Nodes O B → List IRNode → Type 0
  IsPeeled s [] = Unit {0}
  IsPeeled s (n ∷ ns) = (is_node_live s n ≡ true) × (node_children s n ≡ []) × IsPeeled (without_node s n) ns

  IsPeeled-tree_in : (size : ℕ) (s : Nodes O B) (w : IsStored s) (n : IRNode) → is_node_live s n ≡ true → num_nodes s ≤
      size → IsPeeled s (tree_of s n)
  IsPeeled-tree_in zero s w n live h = let c = freed-count s n live in absurd (omega arith)
  IsPeeled-tree_in (suc size) s w n live h =
      let l = first_leaf s w n in
      elim (l.steps) as (λ k. climb (first_child s) k (Some n) ≡ Some l.leaf → IsPeeled s (tree_of s n)) [
        | zero ↦ λ way.
            let e : n ≡ l.leaf = same_Some n l.leaf way in
            let none : node_children s n ≡ [] = subst (λ z. node_children s z ≡ []) (sym e) l.none in
            subst (IsPeeled s) (sym (tree-leaf s n none)) (live, none, tt)
        | suc k ↦ λ way.
            let c = freed-count s l.leaf (leaf_live s w n l.leaf k live way l.none) in
            subst (IsPeeled s) (sym (tree-first s w n l.leaf k live way l.none)) (
              leaf_live s w n l.leaf k live way l.none,
              l.none,
              IsPeeled-tree_in size (without_node s l.leaf) (less_stored s w n l.leaf k live way l.none) n
                  (root_live s w n l.leaf k live way l.none) (omega arith),
            )
      ] l.way

  pub IsPeeled-tree : (s : Nodes O B) (w : IsStored s) (n : IRNode) → is_node_live s n ≡ true → IsPeeled s (tree_of s n)
  IsPeeled-tree s w n live = IsPeeled-tree_in (num_nodes s) s w n live (omega arith)
