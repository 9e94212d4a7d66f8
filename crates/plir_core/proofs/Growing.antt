-- How trees grow.
use Rattle.std.proofs.Common.{◌≡◌, ℕ, zero, suc, Bool, true, false, Option, Some, None, inl, inr, refl, sym, ◌∙◌, ap}
use Rattle.std.proofs.Common.{subst}
use Rattle.std.proofs.lemmas.Option.{same_Some, none-some}
use Rattle.plir_core.specs.declared.ptr.IRNode.{IRNode}
use Rattle.plir_core.specs.declared.ptr.IRNode.TheVariants.{Operation, Region, BasicBlock}
use Rattle.plir_core.specs.Above.{climb, Reaches}
use Rattle.plir_core.specs.Nodes.{Nodes, is_node_live, was_given_out, node_parent}
use Rattle.plir_core.specs.Stored.{IsStored}
use Rattle.plir_core.specs.Made.{KeepsLive}
use Rattle.plir_core.specs.Placed.{MovesOnly}
use Rattle.plir_core.specs.Grown.{PlacedIsGrown, RegionIsGrown, GrownTwice, MadeAndGrown, Growth}
use Rattle.plir_core.proofs.Freed.{bool_cases}
use Rattle.plir_core.proofs.NewNodes.{apart_new}
use Rattle.plir_core.proofs.Added.{KeepsLive-on, SameNodes-unmade, climb_kept}

climb_nowhere : (up : IRNode → Option IRNode) (k : ℕ) → climb up k None ≡ None
climb_nowhere up zero = refl
climb_nowhere up (suc k) = refl

true_or : (x y : Bool) → x ≡ true → x ≡ false → ⊥
true_or x y e f = let b : true ≡ false = sym e ∙ f in cc

-- one climb after another
Reaches-on : (up : IRNode → Option IRNode) (a b c : IRNode) → Reaches up a b → Reaches up b c → Reaches up a c
Reaches-on up a b c r q = climb_on r.0 (Some a) r.1
  where
    climb_on : (k : ℕ) (o : Option IRNode) → climb up k o ≡ Some b → (j : ℕ) × (climb up j o ≡ Some c)
    climb_on zero o e = (q.0, ap (climb up q.0) e ∙ q.1)
    climb_on (suc k) None e = absurd (none-some b e)
    climb_on (suc k) (Some n) e = let j = climb_on k (up n) e in (suc j.0, j.1)

-- What stands above nothing is reached by the same climb where all others have the parents that they had.
module _ (up up' : IRNode → Option IRNode) (m : IRNode) (top : up m ≡ None) (same : (x : IRNode) → (x ≡ m → ⊥) → up' x ≡
    up x) where
  climb_to_top : (k : ℕ) (o : Option IRNode) → climb up k o ≡ Some m → climb up' k o ≡ Some m
  climb_to_top zero o e = e
  climb_to_top (suc k) None e = absurd (none-some m e)
  climb_to_top (suc k) (Some x) e =
      let other : x ≡ m → ⊥ = λ q. none-some m (sym (climb_nowhere up k) ∙ ap (climb up k) (sym top ∙ ap up (sym q)) ∙
      e) in
      rw (same x other) (climb_to_top k (up x) e)

module _ {O B : Type 0} where
  -- the same tables: the same nodes are live, and were given out
  moved_live : (s t : Nodes O B) (n : IRNode) → MovesOnly s t n → (m : IRNode) → is_node_live t m ≡ is_node_live s m
  moved_live s t n x (Operation p) = rw x.ops refl
  moved_live s t n x (Region p) = rw x.regions refl
  moved_live s t n x (BasicBlock p) = rw x.blocks refl

  moved_given : (s t : Nodes O B) (n : IRNode) → MovesOnly s t n → (m : IRNode) → was_given_out t m ≡ was_given_out s m
  moved_given s t n x (Operation p) = rw x.ops refl
  moved_given s t n x (Region p) = rw x.regions refl
  moved_given s t n x (BasicBlock p) = rw x.blocks refl

  differs : (s : Nodes O B) (x n : IRNode) → is_node_live s x ≡ true → is_node_live s n ≡ false → x ≡ n → ⊥
  differs s x n e f q = true_or (is_node_live s n) true (subst (λ z. is_node_live s z ≡ true) q e) f

  pub placed_grown : (s : Nodes O B) → PlacedIsGrown s
  placed_grown s t u n over ks m x =
      let reached : (y : IRNode) → Reaches (node_parent t) y n → Reaches (node_parent u) y n =
      λ y r. (r.0, climb_to_top (node_parent t) (node_parent u) n m.top x.moved.parents r.0 (Some y) r.1) in
      record {
        keeps = record {
          live = λ y e. moved_live t u n x.moved y ∙ m.keeps.live y e;
          parents = λ y e. x.moved.parents y (differs s y n e m.new) ∙ m.keeps.parents y e;
          ops = λ p e. rw x.moved.ops (m.keeps.ops p e);
          blocks = λ p e. rw x.moved.blocks (m.keeps.blocks p e);
          given = λ y e. moved_given t u n x.moved y ∙ m.keeps.given y e;
          limit = x.moved.limit ∙ m.keeps.limit;
        };
        children = λ y e ne. x.children y ne ∙ m.children y e;
        below = λ y e f. Reaches-on (node_parent u) y n over (reached y (m.below y
            (sym (moved_live t u n x.moved y) ∙ e) f)) (1, x.parent);
        fresh = λ y e f. m.fresh y (sym (moved_live t u n x.moved y) ∙ e) f;
      }

  pub region_grown : (s : Nodes O B) → RegionIsGrown s
  region_grown s t o n x = record {
    keeps = x.added.keeps;
    children = λ m e ne. x.added.children m e (λ q. ne (sym (same_Some o m q)));
    below = λ m e f. (1, ap (node_parent t) (x.added.only m e f) ∙ x.added.placed);
    fresh = λ m e f. subst (λ z. was_given_out s z ≡ false) (sym (x.added.only m e f)) x.added.fresh;
  }

  -- what is reached stays reached
  kept_reached : (s t : Nodes O B) → IsStored s → KeepsLive s t → (m n : IRNode) → is_node_live s m ≡ true → Reaches
      (node_parent s) m n → Reaches (node_parent t) m n
  kept_reached s t w k m n e r = (r.0, climb_kept s t w k r.0 m n e r.1)

  not_given_before : (s t : Nodes O B) → KeepsLive s t → (m : IRNode) → was_given_out t m ≡ false → was_given_out s m ≡
      false
  not_given_before s t k m f = elim (bool_cases (was_given_out s m)) [
    | inl e ↦ absurd (true_or (was_given_out t m) true (k.given m e) f)
    | inr e ↦ e
  ]

  pub grown_twice : (s : Nodes O B) → GrownTwice s
  grown_twice s t u over w x y = record {
    keeps = KeepsLive-on s t u x.keeps y.keeps;
    children = λ m e ne. y.children m (x.keeps.live m e) ne ∙ x.children m e ne;
    below = λ m e f. elim (bool_cases (is_node_live t m)) [
      | inl g ↦ kept_reached t u w y.keeps m over g (x.below m g f)
      | inr g ↦ y.below m e g
    ];
    fresh = λ m e f. elim (bool_cases (is_node_live t m)) [
      | inl g ↦ x.fresh m g f
      | inr g ↦ not_given_before s t x.keeps m (y.fresh m e g)
    ];
  }

  pub made_grown : (s : Nodes O B) → IsStored s → MadeAndGrown s
  made_grown s v t u n over w m here new x = record {
    keeps = KeepsLive-on s t u m.keeps x.keeps;
    children = λ y e. x.children y (m.keeps.live y e) (differs s y over e new) ∙ m.children y e;
    new = m.new;
    root = x.keeps.live n m.root;
    top = x.keeps.parents n m.root ∙ m.top;
    below = λ y e f. elim (bool_cases (is_node_live t y)) [
      | inl g ↦ kept_reached t u w x.keeps y n g (m.below y g f)
      | inr g ↦ Reaches-on (node_parent u) y over n (x.below y e g) (kept_reached t u w x.keeps over n here
          (m.below over here new))
    ];
    fresh = λ y e f. elim (bool_cases (is_node_live t y)) [
      | inl g ↦ m.fresh y g f
      | inr g ↦ not_given_before s t m.keeps y (x.fresh y e g)
    ];
    apart = apart_new s u v (KeepsLive-on s t u m.keeps x.keeps) n m.new;
  }

  pub growth : (s : Nodes O B) → IsStored s → Growth s
  growth s w = record {
    placed = placed_grown s;
    region = region_grown s;
    twice = grown_twice s;
    made = made_grown s w;
    unmade = λ t u n m x. SameNodes-unmade s t u w n m x;
  }
