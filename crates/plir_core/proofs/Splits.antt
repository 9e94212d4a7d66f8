-- A block is split, or loses all its operations: what stands above what, and which children are left.
use Rattle.std.proofs.Common.{◌≡◌, zero, suc, true, List, [], ◌∷◌, ◌++◌, Some, None, IsSome, refl, sym, ◌∙◌, ap, subst, arith}
use Rattle.std.proofs.lemmas.List.{append-nil}
use Rattle.std.proofs.lemmas.Option.{same_Some, none-some}
use Rattle.plir_store.specs.Members.{Has, head}
use Rattle.plir_store.specs.MemberLaws.{Has-split}
use Rattle.plir_core.specs.declared.ptr.IRNode.{IRNode}
use Rattle.plir_core.specs.Above.{climb, Reaches}
use Rattle.plir_core.specs.Made.{IsMade}
use Rattle.plir_core.specs.Measures.{depth_of}
use Rattle.plir_core.specs.Moved.{IsTransferred, IsSplitOff, IsSplicedLast}
use Rattle.plir_core.specs.Nodes.{Nodes, is_node_live, node_children, node_parent}
use Rattle.plir_core.specs.Placed.{IsPlacedBehind}
use Rattle.plir_core.specs.Stored.{IsStored}
use Rattle.plir_core.proofs.Apart.{moved_apart}
use Rattle.plir_core.proofs.Depths.{depth-child}
use Rattle.plir_core.proofs.Erased.{IsTree-stored}
use Rattle.plir_core.proofs.Facts.{parent-child, parent-live}
use Rattle.plir_core.proofs.Listing.{some_value}
use Rattle.plir_core.proofs.Trees.{depth-climb}

pub nothing_first : (xs : List IRNode) → head xs ≡ None → xs ≡ []
nothing_first [] e = refl
nothing_first (x ∷ xs) e = absurd (none-some x (sym e))

module _ {O B : Type 0} (s : Nodes O B) where
  -- no node stands below a child of it
  not_below : (w : IsStored s) (x a : IRNode) → node_parent s x ≡ Some a → Reaches (node_parent s) a x → ⊥
  not_below w x a e r =
      let d = depth-child s w a x e in
      let c = depth-climb (node_children s) (node_parent s) (depth_of s) (IsTree-stored s w) r.0 a x r.1 in
      omega arith

  -- a block without operations
  pub spliced-none : (source over : IRNode) → node_children s source ≡ [] → IsSplicedLast s s source over
  spliced-none source over e = record {
    ops = refl;
    regions = refl;
    blocks = refl;
    limit = refl;
    left = e;
    children_over = sym (append-nil (node_children s over)) ∙ ap (λ z. node_children s over ++ z) (sym e);
    children = λ m a b. refl;
    moved = λ m h. absurd (subst (λ z. Has z m) e h);
    parents = λ m h. refl;
  }

  -- the first one and all behind it are all
  pub spliced-last : (t : Nodes O B) (source over first : IRNode) → head (node_children s source) ≡ Some first →
      IsSplitOff s t source first over → IsSplicedLast s t source over
  spliced-last t source over first e split = go (node_children s source) refl e
    where
      go : (xs : List IRNode) → node_children s source ≡ xs → head xs ≡ Some first → IsSplicedLast s t source over
      go [] q f = absurd (none-some first f)
      go (x ∷ xs) q f =
          let all = q ∙ ap (λ z. z ∷ xs) (same_Some x first f) in
          subst (λ z. IsTransferred s t source over z [] (node_children s over ++ z)) (sym all) (split [] xs all)

-- A new node n was made and put right behind another one: it does not stand below that one.
module _ {O B : Type 0} (s made now : Nodes O B) (ws : IsStored s) (w : IsStored made) (n self : IRNode)
    (m : IsMade s made n) (p : IsPlacedBehind made now n self) (live : is_node_live s self ≡ true)
    (linked : IsSome (node_parent s self)) where
  over_is : (over : IRNode) × (node_parent s self ≡ Some over)
  over_is = some_value (node_parent s self) linked

  over_now : node_parent made self ≡ Some over_is.0
  over_now = m.keeps.parents self live ∙ over_is.1

  sides : (xs : List IRNode) × (ys : List IRNode) × (node_children made over_is.0 ≡ xs ++ self ∷ ys)
  sides = Has-split (node_children made over_is.0) self (parent-child made w over_is.0 self over_now)

  apart_over : Reaches (node_parent made) over_is.0 n → ⊥
  apart_over = m.apart over_is.0 (parent-live s ws over_is.0 self over_is.1)

  pub split-apart : Reaches (node_parent now) n self → ⊥
  split-apart (zero, q) =
      let a = ap (is_node_live s) (same_Some n self q) in
      let b = m.new in
      let c : ⊥ = cc in
      c
  split-apart (suc k, q) =
      let placed = p over_is.0 sides.0 sides.1 sides.2 in
      moved_apart made now n placed.moved over_is.0 self apart_over (not_below made w self over_is.0 over_now)
      (k, ap (climb (node_parent now) k) (sym placed.parent) ∙ q)
