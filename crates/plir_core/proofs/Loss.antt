-- What is left when nodes are freed one after another, each live and without children when its turn comes.
use Rattle.std.proofs.Common.{◌≡◌, ℕ, suc, ◌+◌, true, false, List, [], ◌∷◌, ◌++◌, length, Some, None, zero, ◌*◌, inl}
use Rattle.std.proofs.Common.{inr, refl, sym, ◌∙◌, ap, subst, arith}
use Rattle.std.specs.List.{flat_map}
use Rattle.std.proofs.lemmas.Option.{same_Some, none-some}
use Rattle.plir_store.specs.Table.{content_at}
use Rattle.plir_core.specs.declared.ptr.Ptr.{Ptr}
use Rattle.plir_core.specs.declared.ptr.Operation.{Operation as OperationKind}
use Rattle.plir_core.specs.declared.ptr.BasicBlock.{BasicBlock as BlockKind}
use Rattle.plir_core.specs.declared.ptr.IRNode.{IRNode}
use Rattle.plir_core.specs.declared.ptr.IRNode.TheVariants.{Operation, Region, BasicBlock}
use Rattle.plir_core.specs.Above.{climb, Reaches}
use Rattle.plir_store.specs.Members.{Has}
use Rattle.plir_core.specs.Nodes.{Nodes, is_node_live, was_given_out, node_children, node_parent, num_nodes}
use Rattle.plir_core.specs.Stored.{IsStored}
use Rattle.plir_core.specs.Erase.{post_order, without_node, without_nodes, tree_of, erased, IsErased}
use Rattle.plir_core.proofs.Facts.{child-parent}
use Rattle.plir_core.proofs.Listing.{content_without}
use Rattle.plir_core.proofs.Freed.{ptr_one}
use Rattle.plir_core.proofs.Depths.{depth-child, depth-le_most}
use Rattle.plir_store.specs.MemberLaws.{Has-mid}
use Rattle.plir_core.proofs.Trees.{IsTree, tree-below, below-tree, Has-flat_map, Reaches-more, depth-climb}
use Rattle.plir_core.proofs.FreedNode.{freed-live, freed-dead, freed-given, freed-parent, freed-children_here}
use Rattle.plir_core.proofs.FreedNode.{freed-children, freed-limit, freed-stored, freed-count}
use Rattle.plir_core.proofs.Erased.{IsPeeled, IsPeeled-tree, IsTree-stored, depth-some}
use Rattle.plir_core.specs.Measures.{most_steps, depth_of}

module _ {O B : Type 0} where
  -- A dead node stays dead.
  dead-stays : (s : Nodes O B) (w : IsStored s) (n m : IRNode) → is_node_live s n ≡ true → is_node_live s m ≡ false →
      is_node_live (without_node s n) m ≡ false
  dead-stays s w n m live dead =
      let other : m ≡ n → ⊥ = λ e. let a = ap (is_node_live s) e in let b : ⊥ = cc in b in
      freed-live s n m live other w ∙ dead

  dead-parent : (s : Nodes O B) (m : IRNode) → is_node_live s m ≡ false → node_parent s m ≡ None
  dead-parent s m e = rw e refl

  -- what a live operation holds, as another node is freed
  freed-ops : (s : Nodes O B) (w : IsStored s) (n : IRNode) (p : Ptr OperationKind) → is_node_live s n ≡ true →
      (Operation p ≡ n → ⊥) → is_node_live s (Operation p) ≡ true → content_at (without_node s n).ops p.slot ≡
      content_at s.ops p.slot
  freed-ops s w (Operation q) p live ne here = content_without s.ops q.slot p.slot
      (λ e. ne (ap Operation (ptr_one s.ops q p live here e)))
  freed-ops s w (Region q) p live ne here = refl
  freed-ops s w (BasicBlock q) p live ne here = refl

  freed-blocks : (s : Nodes O B) (w : IsStored s) (n : IRNode) (p : Ptr BlockKind) → is_node_live s n ≡ true →
      (BasicBlock p ≡ n → ⊥) → is_node_live s (BasicBlock p) ≡ true → content_at (without_node s n).blocks p.slot ≡
      content_at s.blocks p.slot
  freed-blocks s w (Operation q) p live ne here = refl
  freed-blocks s w (Region q) p live ne here = refl
  freed-blocks s w (BasicBlock q) p live ne here = content_without s.blocks q.slot p.slot
      (λ e. ne (ap BasicBlock (ptr_one s.blocks q p live here e)))

  -- The nodes ns are freed from s to t.
  pub record IsLess (s t : Nodes O B) (ns : List IRNode) : Type 0 where
    pub stored : IsStored t
    pub gone : (m : IRNode) → Has ns m → is_node_live t m ≡ false
    pub dead : (m : IRNode) → is_node_live s m ≡ false → is_node_live t m ≡ false
    pub live : (m : IRNode) → (Has ns m → ⊥) → is_node_live t m ≡ is_node_live s m
    pub parents : (m : IRNode) → (Has ns m → ⊥) → node_parent t m ≡ node_parent s m
    pub children : (m : IRNode) → ((x : IRNode) → Has ns x → node_parent s x ≡ Some m → ⊥) → node_children t m ≡
        node_children s m
    pub ops : (p : Ptr OperationKind) → (Has ns (Operation p) → ⊥) → is_node_live s (Operation p) ≡ true → content_at
        t.ops p.slot ≡ content_at s.ops p.slot
    pub blocks : (p : Ptr BlockKind) → (Has ns (BasicBlock p) → ⊥) → is_node_live s (BasicBlock p) ≡ true → content_at
        t.blocks p.slot ≡ content_at s.blocks p.slot
    pub given : (m : IRNode) → was_given_out t m ≡ was_given_out s m
    pub count : num_nodes t + length ns ≡ num_nodes s
    pub limit : t.limit ≡ s.limit

  pub IsLess-peeled : (ns : List IRNode) (s : Nodes O B) → IsStored s → IsPeeled s ns → IsLess s (without_nodes s ns) ns
  IsLess-peeled [] s w p = record {
    stored = w;
    gone = λ m h. absurd h;
    dead = λ m e. e;
    live = λ m h. refl;
    parents = λ m h. refl;
    children = λ m h. refl;
    ops = λ p h e. refl;
    blocks = λ p h e. refl;
    given = λ m. refl;
    count = omega arith;
    limit = refl;
  }
  IsLess-peeled (n ∷ ns) s w p =
      let w' = freed-stored s n p.0 p.1 w in
      let r = IsLess-peeled ns (without_node s n) w' p.2 in
      let away : (m : IRNode) → (Has (n ∷ ns) m → ⊥) → m ≡ n → ⊥ = λ m h e. h (inl (sym e)) in
      record {
        stored = r.stored;
        gone = λ m h. elim h [
          | inl e ↦ r.dead m (subst (λ z. is_node_live (without_node s n) z ≡ false) e (freed-dead s n p.0 w))
          | inr j ↦ r.gone m j
        ];
        dead = λ m e. r.dead m (dead-stays s w n m p.0 e);
        live = λ m h. r.live m (λ j. h (inr j)) ∙ freed-live s n m p.0 (away m h) w;
        parents = λ m h. r.parents m (λ j. h (inr j)) ∙ freed-parent s n m p.0 (away m h) w;
        children = λ m h. r.children m (later n ns s w p m h) ∙ freed-children s n m p.0 p.1 w (h n (inl refl));
        ops = λ q h e. r.ops q (λ j. h (inr j)) (freed-live s n (Operation q) p.0 (away (Operation q) h) w ∙ e) ∙
            freed-ops s w n q p.0 (away (Operation q) h) e;
        blocks = λ q h e. r.blocks q (λ j. h (inr j)) (freed-live s n (BasicBlock q) p.0 (away (BasicBlock q) h) w ∙ e)
            ∙ freed-blocks s w n q p.0 (away (BasicBlock q) h) e;
        given = λ m. r.given m ∙ freed-given s n m;
        count = let c = freed-count s n p.0 in let d = r.count in omega arith;
        limit = r.limit ∙ freed-limit s n;
      }
    where
      later : (n : IRNode) (ns : List IRNode) (s : Nodes O B) (w : IsStored s) → IsPeeled s (n ∷ ns) → (m : IRNode) →
          ((x : IRNode) → Has (n ∷ ns) x → node_parent s x ≡ Some m → ⊥) → (x : IRNode) → Has ns x → node_parent
          (without_node s n) x ≡ Some m → ⊥
      later n ns s w p m h x j e =
          let gone : x ≡ n → ⊥ = λ q. none-some m (sym (dead-parent (without_node s n) x
          (subst (λ z. is_node_live (without_node s n) z ≡ false) (sym q) (freed-dead s n p.0 w))) ∙ e) in
          h x (inr j) (sym (freed-parent s n x p.0 gone w) ∙ e)

  -- the nodes of a tree, but for the last, which is its root
  without_nodes-append : (xs ys : List IRNode) (s : Nodes O B) → without_nodes s (xs ++ ys) ≡ without_nodes
      (without_nodes s xs) ys
  without_nodes-append [] ys s = refl
  without_nodes-append (x ∷ xs) ys s = without_nodes-append xs ys (without_node s x)

  IsPeeled-front : (xs ys : List IRNode) (s : Nodes O B) → IsPeeled s (xs ++ ys) → IsPeeled s xs
  IsPeeled-front [] ys s p = tt
  IsPeeled-front (x ∷ xs) ys s p = (p.0, p.1, IsPeeled-front xs ys (without_node s x) p.2)

  IsPeeled-back : (xs ys : List IRNode) (s : Nodes O B) → IsPeeled s (xs ++ ys) → IsPeeled (without_nodes s xs) ys
  IsPeeled-back [] ys s p = p
  IsPeeled-back (x ∷ xs) ys s p = IsPeeled-back xs ys (without_node s x) p.2

  module _ (s : Nodes O B) (w : IsStored s) (n : IRNode) (live : is_node_live s n ≡ true) where
    abbrev tree : IsTree (node_children s) (node_parent s) (depth_of s)
    tree = IsTree-stored s w

    less : IsLess s (erased s n) (tree_of s n)
    less = IsLess-peeled (tree_of s n) s w (IsPeeled-tree s w n live)

    -- what is in the tree is the root or below it
    pub in-tree : (m : IRNode) → Has (tree_of s n) m → Reaches (node_parent s) m n
    in-tree m h = tree-below (node_children s) (node_parent s) (depth_of s) tree (most_steps s) n m h

    pub tree-in : (m : IRNode) → Reaches (node_parent s) m n → Has (tree_of s n) m
    tree-in m r =
        let d = depth-climb (node_children s) (node_parent s) (depth_of s) tree r.0 m n r.1 in
        let one = depth-some s w n in
        let most = depth-le_most s w m in
        below-tree (node_children s) (node_parent s) (depth_of s) tree (most_steps s) r.0 n m r.1 (omega arith)

    away : (m : IRNode) → (Reaches (node_parent s) m n → ⊥) → Has (tree_of s n) m → ⊥
    away m out h = out (in-tree m h)

    -- a node of the tree whose parent is not in the tree is the root
    over-tree : (m x : IRNode) → (Reaches (node_parent s) m n → ⊥) → Reaches (node_parent s) x n → node_parent s x ≡
        Some m → x ≡ n
    over-tree m x out r e = elim (r.0) as (λ k. climb (node_parent s) k (Some x) ≡ Some n → x ≡ n) [
      | zero ↦ λ q. same_Some x n q
      | suc k ↦ λ q. absurd (out (k, ap (climb (node_parent s) k) (sym e) ∙ q))
    ] r.1

    -- the tree without its root
    front_in : (f : ℕ) (m : IRNode) → Has (flat_map (post_order (node_children s) f) (node_children s n)) m →
        (c : IRNode) × ((node_parent s c ≡ Some n) × Reaches (node_parent s) m c)
    front_in f m h =
        let r = Has-flat_map (post_order (node_children s) f) (node_children s n) m h in (
          r.0,
          (
            child-parent s w n r.0 r.1.0,
            tree-below (node_children s) (node_parent s) (depth_of s) tree f r.0 m
                r.1.1,
          ),
        )

    front_below : (f : ℕ) (m : IRNode) → Has (flat_map (post_order (node_children s) f) (node_children s n)) m → m ≡ n →
        ⊥
    front_below f m h e =
        let r = front_in f m h in
        let a = depth-child s w n r.0 r.1.0 in
        let b = depth-climb (node_children s) (node_parent s) (depth_of s) tree r.1.1.0 m r.0 r.1.1.1 in
        let c = ap (depth_of s) e in
        let x : ⊥ = omega arith in
        x

    -- the parent of the root has lost it
    children_lost : (f : ℕ) → tree_of s n ≡ post_order (node_children s) (suc f) n → (m : IRNode) (xs ys : List IRNode)
        → node_children s m ≡ xs ++ n ∷ ys → node_children (erased s n) m ≡ xs ++ ys
    children_lost f shape m xs ys e =
        let front : List IRNode = flat_map (post_order (node_children s) f) (node_children s n) in
        let peeled : IsPeeled s (front ++ n ∷ []) = subst (IsPeeled s) shape (IsPeeled-tree s w n live) in
        let first = IsLess-peeled front s w (IsPeeled-front front (n ∷ []) s peeled) in
        let last = IsPeeled-back front (n ∷ []) s peeled in
        let over : node_parent s n ≡ Some m = child-parent s w m n (subst (λ z. Has z n) (sym e) (Has-mid xs ys n)) in
        let kept : node_children (without_nodes s front) m ≡ node_children s m = first.children m (λ x h q.
        let r = front_in f x h in
        outside m over (below_child x m r.0 r.1.0 r.1.1 q)) in
        ap (λ z. node_children z m) (ap (without_nodes s) shape ∙ without_nodes-append front (n ∷ []) s)
        ∙ freed-children_here (without_nodes s front) n m xs ys last.0 first.stored (kept ∙ e)
      where
        -- a node's parent is not in the node's tree
        outside : (m : IRNode) → node_parent s n ≡ Some m → Reaches (node_parent s) m n → ⊥
        outside m over r =
            let a = depth-child s w m n over in
            let b = depth-climb (node_children s) (node_parent s) (depth_of s) tree r.0 m n r.1 in
            let x : ⊥ = omega arith in
            x

        -- what stands right above a node below a child of n is in n's tree
        below_child : (x m c : IRNode) → node_parent s c ≡ Some n → Reaches (node_parent s) x c → node_parent s x ≡ Some
            m → Reaches (node_parent s) m n
        below_child x m c over r q = elim (r.0) as (λ k. climb (node_parent s) k (Some x) ≡ Some c → Reaches
            (node_parent s) m n) [
              | zero ↦ λ z. (0, sym q ∙ ap (node_parent s) (same_Some x c z) ∙ over)
              | suc k ↦ λ z. Reaches-more (node_children s) (node_parent s) (depth_of s) tree m c n
                  (k, ap (climb (node_parent s) k) (sym q) ∙ z) over
            ] r.1

    most_shape : (f : ℕ) × (most_steps s ≡ suc f)
    most_shape = (3 * (length s.ops.slots + length s.regions.slots + length s.blocks.slots) + 1, omega arith)

    -- what is still live was not in the tree
    left : (m : IRNode) → is_node_live (erased s n) m ≡ true → Has (tree_of s n) m → ⊥
    left m e h = let g = less.gone m h in let x : ⊥ = cc in x

    pub IsErased-tree : IsErased s (erased s n) n
    IsErased-tree = record {
      stored = less.stored;
      gone = λ m r. less.gone m (tree-in m r);
      live = λ m out. less.live m (away m out);
      ops = λ p e. let out = left (Operation p) e in less.ops p out (sym (less.live (Operation p) out) ∙ e);
      blocks = λ p e. let out = left (BasicBlock p) e in less.blocks p out (sym (less.live (BasicBlock p) out) ∙ e);
      parents = λ m out. less.parents m (away m out);
      children = λ m out over. less.children m (λ x h q. over (ap (node_parent s)
          (sym (over-tree m x out (in-tree x h) q)) ∙ q));
      children_over = children_lost most_shape.0 (ap (λ f. post_order (node_children s) f n) most_shape.1);
      given = less.given;
      count = less.count;
      limit = less.limit;
    }
