-- The loop that looks for a node above another.
use Rattle.std.proofs.Common.{◌≡◌, ℕ, zero, suc, ◌+◌, ◌<◌, ◌≤◌, true, List, length, slice_index_or, Option, Some, None}
use Rattle.std.proofs.Common.{inl, inr, refl, sym, ◌∙◌, ap, subst, arith}
use Rattle.std.specs.Prelude.{option_map, All}
use Rattle.std.proofs.lemmas.Bool.{cases_lt}
use Rattle.std.proofs.lemmas.List.{get_or_default}
use Rattle.std.proofs.lemmas.Option.{same_Some, none-some}
use Rattle.plir_core.specs.declared.ptr.IRNode.{IRNode}
use Rattle.plir_core.specs.Above.{climb, Reaches}
use Rattle.plir_core.specs.Nodes.{Nodes, is_node_live, node_parent}
use Rattle.plir_core.specs.Stored.{seat_of, up, IsStored}
use Rattle.plir_core.proofs.Facts.{parent-live}
use Rattle.plir_core.proofs.Depths.{depth-child, depth_falls}
use Rattle.plir_core.proofs.Trees.{climb_nothing, climb_step}
use Rattle.plir_core.specs.Measures.{depth_from, most_steps}

-- the node `at` is come by from `node`, and the ancestor, if it is one, is at `at` or above it
pub record IsClimbing {O B : Type 0} (s : Nodes O B) (node ancestor : IRNode) (at : Option IRNode) : Type 0 where
  pub steps : ℕ
  pub come : climb (node_parent s) steps (Some node) ≡ at
  pub ahead : (j : ℕ) → climb (node_parent s) j (Some node) ≡ Some ancestor → (k : ℕ) ×
      (climb (node_parent s) k at ≡ Some ancestor)
  pub live : (n : IRNode) → at ≡ Some n → is_node_live s n ≡ true

-- how many nodes are left to look at
abbrev pub levels_left : {O B : Type 0} → Nodes O B → Option IRNode → ℕ
levels_left s at = depth_from (up s) (most_steps s) (option_map seat_of at)

module _ {O B : Type 0} (s : Nodes O B) (node ancestor : IRNode) where
  pub IsClimbing-start : is_node_live s node ≡ true → IsClimbing s node ancestor (Some node)
  IsClimbing-start live = record {
    steps = 0;
    come = refl;
    ahead = λ j e. (j, e);
    live = λ n e. subst (λ z. is_node_live s z ≡ true) (same_Some node n e) live;
  }

  beyond : (current : IRNode) (k : ℕ) → (current ≡ ancestor → ⊥) → climb (node_parent s) k (Some current) ≡ Some
      ancestor → (j : ℕ) × (climb (node_parent s) j (node_parent s current) ≡ Some ancestor)
  beyond current zero ne e = absurd (ne (same_Some current ancestor e))
  beyond current (suc k) ne e = (k, e)

  pub IsClimbing-more : IsStored s → (current : IRNode) (at next : Option IRNode) → at ≡ Some current → IsClimbing s
      node ancestor at → (current ≡ ancestor → ⊥) → next ≡ node_parent s current → IsClimbing s node ancestor next
  IsClimbing-more w current at next is c ne e = record {
    steps = suc c.steps;
    come = climb_step (node_parent s) c.steps (Some node) current (c.come ∙ is) ∙ sym e;
    ahead = λ j q.
        let x = c.ahead j q in
        let y = beyond current x.0 ne (ap (climb (node_parent s) x.0) (sym is) ∙ x.1) in
        (y.0, ap (climb (node_parent s) y.0) e ∙ y.1);
    live = λ n q. parent-live s w n current (sym e ∙ q);
  }

  pub IsClimbing-found : (current : IRNode) (at : Option IRNode) → at ≡ Some current → IsClimbing s node ancestor at →
      current ≡ ancestor → Reaches (node_parent s) node ancestor
  IsClimbing-found current at is c e = (c.steps, c.come ∙ is ∙ ap (λ z. Some z) e)

  pub IsClimbing-end : (at : Option IRNode) → at ≡ None → IsClimbing s node ancestor at → Reaches (node_parent s) node
      ancestor → ⊥
  IsClimbing-end at none c r =
      let x = c.ahead r.0 r.1 in
      none-some ancestor (sym (climb_nothing (node_parent s) x.0) ∙ ap (climb (node_parent s) x.0) (sym none) ∙ x.1)

  falls_in : IsStored s → (current : IRNode) (o : Option IRNode) → node_parent s current ≡ o → levels_left s o <
      levels_left s (Some current)
  falls_in w current None e =
      let d = depth_falls s w (seat_of current) in
      let none : levels_left s None ≡ 0 = nothing (most_steps s) in
      omega arith
    where
      nothing : (k : ℕ) → depth_from (up s) k None ≡ 0
      nothing zero = refl
      nothing (suc k) = refl
  falls_in w current (Some p) e = let d = depth-child s w p current e in omega arith

  pub levels-fall : IsStored s → (current : IRNode) (at next : Option IRNode) → at ≡ Some current → next ≡ node_parent s
      current → levels_left s next < levels_left s at
  levels-fall w current at next is e = rw (is, e) (falls_in w current (node_parent s current) refl)

-- P holds of the first n elements
abbrev pub AllSoFar : {X : Type 0} → (X → Type 0) → List X → ℕ → Type 0
AllSoFar {X} P xs n = (k : ℕ) (d : X) → k < n → P (slice_index_or xs k d)

pub AllSoFar-none : {X : Type 0} (P : X → Type 0) (xs : List X) → AllSoFar P xs 0
AllSoFar-none P xs k d h = absurd (omega arith)

pub AllSoFar-more : {X : Type 0} (P : X → Type 0) (xs : List X) (n : ℕ) → AllSoFar P xs n →
    ((d : X) → P (slice_index_or xs n d)) → AllSoFar P xs (n + 1)
AllSoFar-more P xs n all here k d h = elim (cases_lt k n) [
  | inl less ↦ all k d less
  | inr past ↦ let e : n ≡ k = omega arith in subst (λ i. P (slice_index_or xs i d)) e (here d)
]

-- one element of which P holds not, so that P does not hold of all
pub not_all : {X : Type 0} (P : X → Type 0) (xs : List X) (i : ℕ) (d : X) → i < length xs →
    (P (slice_index_or xs i d) → ⊥) → All P xs → ⊥
not_all P xs i d h not all = not (all i d h)

pub AllSoFar-next : {X : Type 0} (P : X → Type 0) (xs : List X) (n : ℕ) (d : X) → AllSoFar P xs n → n < length xs → P
    (slice_index_or xs n d) → AllSoFar P xs (n + 1)
AllSoFar-next P xs n d all h here = AllSoFar-more P xs n all (λ e. subst P (get_or_default xs n d e h) here)

pub AllSoFar-all : {X : Type 0} (P : X → Type 0) (xs : List X) (n : ℕ) → AllSoFar P xs n → length xs ≤ n → All P xs
AllSoFar-all P xs n all h k d i = all k d (omega arith)
