-- The steps of a walk through a tree.
use Rattle.std.proofs.Common.{◌≡◌, ℕ, zero, suc, ◌+◌, ◌-◌, ◌<◌, ◌≤◌, true, List, [], ◌∷◌, ◌++◌, drop, length, get_or}
use Rattle.std.proofs.Common.{Option, Some, None, inl, inr, refl, sym, ◌∙◌, ap, subst, arith}
use Rattle.std.specs.Prelude.{slice_get, IfSome}
use Rattle.std.specs.List.{sum_by, flat_map}
use Rattle.std.proofs.lemmas.Bool.{cases_lt}
use Rattle.std.proofs.lemmas.List.Sums.{sum_by-cons, sum_by-append, sum_by_push, sum_by-drop_more}
use Rattle.std.proofs.Math.ListN.{drop_of_length-le}
use Rattle.std.proofs.lemmas.Option.{same_Some, none-some, slice_get_within, slice_get-get_or, get_or_from_slice_get}
use Rattle.plir_store.specs.Members.{head}
use Rattle.plir_store.specs.MemberLaws.{Has-at}
use Rattle.plir_core.specs.declared.ptr.IRNode.{IRNode}
use Rattle.plir_core.specs.Nodes.{Nodes, is_node_live, node_children, node_parent, node_next}
use Rattle.plir_core.specs.Stored.{IsStored}
use Rattle.plir_core.specs.Measures.{most_steps, depth_of}
use Rattle.plir_core.specs.Erase.{post_order, tree_of}
use Rattle.plir_core.specs.Walked.{tree_sum, IsAfter, IsCome, IsBehind, GoesOn, GoesOnBehind, Ends}
use Rattle.plir_core.proofs.Facts.{child-parent, child-live}
use Rattle.plir_core.proofs.Depths.{depth-child, depth-le_most}
use Rattle.plir_core.proofs.ChildPlaces.{next-place, front}
use Rattle.plir_core.proofs.Trees.{flat_map-same}
use Rattle.plir_core.proofs.Erased.{head-Has, depth-some}

-- a sum over lists that are joined
sum_by-flat_map : {X Y : Type 0} (g : Y → ℕ) (h : X → List Y) (xs : List X) →
    sum_by g (flat_map h xs) ≡ sum_by (λ x. sum_by g (h x)) xs
sum_by-flat_map g h [] = refl
sum_by-flat_map g h (x ∷ xs) =
    let a = sum_by-append g (h x) (flat_map h xs) in
    let b = sum_by-flat_map g h xs in
    let c = sum_by-cons (λ z. sum_by g (h z)) x xs in
    omega arith

past : {X : Type 0} (ks : List X) (i : ℕ) (d : X) → slice_get ks i ≡ None → length ks ≤ i
past ks i d f = elim (cases_lt i (length ks)) [
  | inl less ↦ absurd (none-some (get_or ks i d) (sym f ∙ slice_get-get_or ks i d less))
  | inr h ↦ h
]

module _ {O B : Type 0} (s : Nodes O B) (w : IsStored s) where
  -- levels enough
  enough : (f : ℕ) (n : IRNode) → most_steps s < depth_of s n + f →
      post_order (node_children s) f n ≡ post_order (node_children s) (suc f) n
  enough zero n h = let d = depth-le_most s w n in absurd (omega arith)
  enough (suc f) n h =
      ap (λ z. z ++ n ∷ []) (flat_map-same (post_order (node_children s) f) (post_order (node_children s) (suc f))
      (node_children s n) (λ c under.
      let d = depth-child s w n c (child-parent s w n c under) in
      enough f c (omega arith)))

  -- a tree is those of the children and the node
  pub tree_of-step : (n : IRNode) → tree_of s n ≡ flat_map (tree_of s) (node_children s n) ++ n ∷ []
  tree_of-step n = with_levels (most_steps s - 1) (omega arith)
    where
      with_levels : (f : ℕ) → most_steps s ≡ suc f → tree_of s n ≡ flat_map (tree_of s) (node_children s n) ++ n ∷ []
      with_levels f e =
          ap (λ k. post_order (node_children s) k n) e
          ∙ ap (λ z. z ++ n ∷ []) (flat_map-same (post_order (node_children s) f) (tree_of s) (node_children s n)
          (λ c under.
          let d = depth-child s w n c (child-parent s w n c under) in
          let one = depth-some s w n in
          enough f c (omega arith) ∙ ap (λ k. post_order (node_children s) k c) (sym e)))

  pub tree_sum-step : (g : IRNode → ℕ) (n : IRNode) → tree_sum g s n ≡ sum_by (tree_sum g s) (node_children s n) + g n
  tree_sum-step g n =
      let a = ap (sum_by g) (tree_of-step n) in
      let b = sum_by_push g (flat_map (tree_of s) (node_children s n)) n in
      let c = sum_by-flat_map g (tree_of s) (node_children s n) in
      omega arith

  module _ (root : IRNode) (g : IRNode → ℕ) where
    pub IsCome-start : is_node_live s root ≡ true → IsCome g s root root 0
    IsCome-start live = record {
      live = live;
      levels = 0;
      rest = 0;
      after = (refl, refl);
      whole = omega arith;
    }

    -- on to the first child
    pub IsCome-down : (n child : IRNode) (before : ℕ) → IsCome g s root n before →
        head (node_children s n) ≡ Some child → IsCome g s root child (before + g n)
    IsCome-down n child before c h =
        let there : slice_get (node_children s n) 0 ≡ Some child = sym (front (node_children s n)) ∙ h in
        let within = slice_get_within (node_children s n) 0 child there in
        let first : sum_by (tree_sum g s) (node_children s n) ≡ tree_sum g s
        (get_or (node_children s n) 0 child) + sum_by (tree_sum g s) (drop (0 + 1) (node_children s n)) =
        sum_by-drop_more (tree_sum g s) (node_children s n) 0 child within in
        let is = ap (tree_sum g s) (get_or_from_slice_get (node_children s n) 0 child child there) in
        let step = tree_sum-step g n in
        let all = c.whole in
        record {
          live = child-live s w n child (head-Has (node_children s n) child h);
          levels = suc c.levels;
          rest = sum_by (tree_sum g s) (drop (0 + 1) (node_children s n)) + c.rest;
          after = (n, 0, c.rest, there, refl, c.after);
          whole = omega arith;
        }

    -- a node without children is gone by at once
    pub IsBehind-leaf : (n : IRNode) (before : ℕ) → IsCome g s root n before → head (node_children s n) ≡ None →
        IsBehind g s root n (before + g n)
    IsBehind-leaf n before c none =
        let step = tree_sum-step g n in
        let no : sum_by (tree_sum g s) (node_children s n) ≡ 0 = ap (sum_by (tree_sum g s))
        (empty (node_children s n) none) in
        let all = c.whole in
        record {
          levels = c.levels;
          rest = c.rest;
          after = c.after;
          whole = omega arith;
        }
      where
        empty : (ks : List IRNode) → head ks ≡ None → ks ≡ []
        empty [] e = refl
        empty (x ∷ ks) e = absurd (none-some x (sym e))

    -- below the root a node stands under another
    below : (n : IRNode) (before : ℕ) (c : IsBehind g s root n before) → (n ≡ root → ⊥) →
        (k : ℕ) × IsAfter g s root (suc k) n c.rest
    below n before c ne = in_levels c.levels c.after
      where
        in_levels : (k : ℕ) → IsAfter g s root k n c.rest → (j : ℕ) × IsAfter g s root (suc j) n c.rest
        in_levels zero a = absurd (ne a.0)
        in_levels (suc k) a = (k, a)

    -- on to the next child of the same node
    pub IsCome-next : (n b : IRNode) (before : ℕ) → IsBehind g s root n before → (n ≡ root → ⊥) →
        node_next s n ≡ Some b → IsCome g s root b before
    IsCome-next n b before c ne next =
        let r = below n before c ne in
        let over = r.1.0 in
        let place = r.1.1 in
        let there : slice_get (node_children s over) place ≡ Some n = r.1.3 in
        let sums = r.1.4 in
        let follows : slice_get (node_children s over) (place + 1) ≡ Some b = sym (next-place s w over n place there)
        ∙ next in
        let within = slice_get_within (node_children s over) (place + 1) b follows in
        let first = sum_by-drop_more (tree_sum g s) (node_children s over) (place + 1) b within in
        let is = ap (tree_sum g s) (get_or_from_slice_get (node_children s over) (place + 1) b b follows) in
        let all = c.whole in
        record {
          live = child-live s w over b (Has-at (node_children s over) (place + 1) b follows);
          levels = suc r.0;
          rest = sum_by (tree_sum g s) (drop (place + 1 + 1) (node_children s over)) + r.1.2;
          after = (over, place + 1, r.1.2, follows, refl, r.1.5);
          whole = omega arith;
        }

    -- after the last child up to the parent
    pub IsBehind-up : (n over : IRNode) (before : ℕ) → IsBehind g s root n before → (n ≡ root → ⊥) →
        node_next s n ≡ None → node_parent s n ≡ Some over → IsBehind g s root over before
    IsBehind-up n over before c ne last under =
        let r = below n before c ne in
        let up = r.1.0 in
        let place = r.1.1 in
        let there : slice_get (node_children s up) place ≡ Some n = r.1.3 in
        let sums = r.1.4 in
        let one : up ≡ over = same_Some up over (sym (child-parent s w up n (Has-at (node_children s up) place n there))
        ∙ under) in
        let end = past (node_children s up) (place + 1) n (sym (next-place s w up n place there) ∙ last) in
        let none : sum_by (tree_sum g s) (drop (place + 1) (node_children s up)) ≡ 0 = ap (sum_by (tree_sum g s))
        (drop_of_length-le (node_children s up) end) in
        let all = c.whole in
        record {
          levels = r.0;
          rest = r.1.2;
          after = subst (λ z. IsAfter g s root r.0 z r.1.2) one r.1.5;
          whole = omega arith;
        }

    -- below the root a node has a parent
    pub IsBehind-over : (n : IRNode) (before : ℕ) → IsBehind g s root n before → (n ≡ root → ⊥) →
        node_parent s n ≡ None → ⊥
    IsBehind-over n before c ne none =
        let r = below n before c ne in
        none-some r.1.0 (sym none ∙ child-parent s w r.1.0 n (Has-at (node_children s r.1.0) r.1.1 n r.1.3))

    -- it ends at the root
    after-depth : (k : ℕ) (n : IRNode) (rest : ℕ) → IsAfter g s root k n rest → depth_of s n ≡ depth_of s root + k
    after-depth zero n rest a = let d = ap (depth_of s) a.0 in omega arith
    after-depth (suc k) n rest a =
        let r = after-depth k a.0 a.2 a.5 in
        let d = depth-child s w a.0 n (child-parent s w a.0 n (Has-at (node_children s a.0) a.1 n a.3)) in
        omega arith

    pub IsBehind-root : (before : ℕ) → IsBehind g s root root before → before ≡ tree_sum g s root
    IsBehind-root before c = in_levels c.levels c.after
      where
        in_levels : (k : ℕ) → IsAfter g s root k root c.rest → before ≡ tree_sum g s root
        in_levels zero a = let e = a.1 in let all = c.whole in omega arith
        in_levels (suc k) a = let d = after-depth (suc k) root c.rest a in absurd (omega arith)

-- after a node without children
pub IsCome-after : {O B : Type 0} (s : Nodes O B) (w : IsStored s) (root n : IRNode) (r : Option IRNode) →
    head (node_children s n) ≡ None → IfSome r (GoesOnBehind s root n) → IfSome r (GoesOn s root n)
IsCome-after s w root n None none h = tt
IsCome-after s w root n (Some next) none h = λ g before c. h g (before + g n) (IsBehind-leaf s w root g n before c none)

-- What is counted of a node comes to the sum as a walk goes on, and as it ends: s is made of the fields, and t is the
-- value.
module _ {O B : Type 0} (g : IRNode → ℕ) (s t : Nodes O B) (view : s ≡ t) (root n : IRNode) (before k : ℕ)
    (is : k ≡ g n) (come : IsCome g t root n before) where
  pub IsCome-on : (next : IRNode) → GoesOn s root n next → IsCome g t root next (before + k)
  IsCome-on next on =
      let on_t : GoesOn t root n next = subst (λ z. GoesOn z root n next) view on in
      subst (λ m. IsCome g t root next (before + m)) (sym is) (on_t g before come)

  pub sum-ends : Ends s root n → before + k ≡ tree_sum g t root
  sum-ends ends =
      let ends_t : Ends t root n = subst (λ z. Ends z root n) view ends in
      ap (λ m. before + m) is ∙ ends_t g before come
