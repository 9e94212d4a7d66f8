-- What a callback at a node has done so far: each node call keeps it, and it is lawful.
use Rattle.std.proofs.Common.{◌≡◌, ◌≢◌, ℕ, zero, suc, ◌^◌, Bool, true, false, List, Option, Some, None, ◌⊎◌, inl, inr}
use Rattle.std.proofs.Common.{refl, sym, ap, subst, ◌∙◌}
use Rattle.std.proofs.lemmas.Option.{none-some, same_Some}
use Rattle.plir_store.specs.Members.{Has}
use Rattle.plir_core.specs.declared.ptr.Ptr.{Ptr}
use Rattle.plir_core.specs.declared.ptr.Operation.{Operation as OperationKind}
use Rattle.plir_core.specs.declared.ptr.BasicBlock.{BasicBlock as BasicBlockKind}
use Rattle.plir_core.specs.declared.ptr.IRNode.{IRNode}
use Rattle.plir_core.specs.Above.{Reaches, climb}
use Rattle.plir_core.specs.Nodes.{is_node_live, node_parent}
use Rattle.plir_core.specs.Contents.{OpView, BlockView}
use Rattle.plir_core.specs.ContextView.{ContextView, is_live, given_out, children, parent_of}
use Rattle.plir_core.specs.Changes.{SameLive, with_op_edit, with_block_edit}
use Rattle.plir_core.specs.Erase.{IsErased}
use Rattle.plir_core.specs.Made.{IsRegionAdded, IsMade}
use Rattle.plir_core.specs.Placed.{IsPlaced, IsUnlinked}
use Rattle.plir_core.specs.Forest.{Shape, IsBelow, IsForest, look}
use Rattle.plir_walk.specs.Lawful.{Lawful}
use Rattle.plir_walk.specs.ChangedBelow.{ChangedBelow, WasBelow, WasUnder}
use Rattle.plir_walk.proofs.Climbs.{climb-bottom}
use Rattle.plir_walk.specs.AdditionLaws.{moved-given, moved-live}
use Rattle.plir_walk.proofs.Lawfulness.{SeesTheSame, block-edit-seen, climb-first, not-both, op-edit-seen}
use Rattle.plir_walk.proofs.Nodes.{same_tells}

-- the first step of a climb
climb-up : (up : IRNode → Option IRNode) (k : ℕ) (m x : IRNode) → climb up (suc k) (Some m) ≡ Some x → (p : IRNode) ×
    (up m ≡ Some p) × (climb up k (Some p) ≡ Some x)
climb-up up k m x e = go (up m) refl e
  where
    nowhere : (j : ℕ) → climb up j None ≡ None
    nowhere zero = refl
    nowhere (suc j) = refl

    go : (o : Option IRNode) → up m ≡ o → climb up k o ≡ Some x → (p : IRNode) × (up m ≡ Some p) ×
        (climb up k (Some p) ≡ Some x)
    go None is e = absurd (none-some x (sym (nowhere k) ∙ e))
    go (Some p) is e = (p, is, e)

-- a climb that ends reaches n or does not
reach-or-not : (s : Shape) (n : IRNode) (k : ℕ) (x : IRNode) → climb s.parent k (Some x) ≡ None → Reaches s.parent x n ⊎
    (Reaches s.parent x n → ⊥)
reach-or-not s n zero x e = absurd (none-some x (sym e))
reach-or-not s n (suc k) x e = elim (same_tells x n) [
  | inl h ↦ inl (zero, ap Some h.1)
  | inr h ↦ go (s.parent x) refl e h.1 (λ p. reach-or-not s n k p)
]
  where
    go : (o : Option IRNode) → s.parent x ≡ o → climb s.parent k o ≡ None → x ≢ n
        → ((p : IRNode) → climb s.parent k (Some p) ≡ None → Reaches s.parent p n ⊎ (Reaches s.parent p n → ⊥))
        → Reaches s.parent x n ⊎ (Reaches s.parent x n → ⊥)
    go None is e ne above = inr (λ z. stop z.0 z.1)
      where
        stop : (j : ℕ) → climb s.parent j (Some x) ≡ Some n → ⊥
        stop zero h = ne (same_Some x n h)
        stop (suc j) h = (let u = climb-up s.parent j x n h in none-some u.0 (sym is ∙ u.1))
    go (Some p) is e ne above = elim (above p e) [
      | inl z ↦ inl (suc z.0, climb-bottom s z.0 x p is ∙ z.1)
      | inr apart ↦ inr (λ z. stop apart z.0 z.1)
    ]
      where
        stop : (Reaches s.parent p n → ⊥) → (j : ℕ) → climb s.parent j (Some x) ≡ Some n → ⊥
        stop apart zero h = ne (same_Some x n h)
        stop apart (suc j) h = apart (j, sym (climb-bottom s j x p is) ∙ h)

-- a node is below n or is not
below-or-not : (s : Shape) (w : IsForest s) (n x : IRNode) → IsBelow s n x ⊎ (IsBelow s n x → ⊥)
below-or-not s w n x = go (2 ^ 40) w.ends (s.parent x) refl
  where
    go : (k : ℕ) → ((p : IRNode) → climb s.parent k (Some p) ≡ None) → (o : Option IRNode) → s.parent x ≡ o → IsBelow s
        n x ⊎ (IsBelow s n x → ⊥)
    go k ends None is = inr (λ z. (let u = climb-up s.parent z.0 x n z.1 in none-some u.0 (sym is ∙ u.1)))
    go k ends (Some p) is = elim (reach-or-not s n k p (ends p)) [
      | inl z ↦ inl (z.0, climb-bottom s z.0 x p is ∙ z.1)
      | inr apart ↦ inr (λ z. apart (z.0, sym (climb-bottom s z.0 x p is) ∙ z.1))
    ]

-- where t has what was given out in s, what was not given out in t was not in s
was-fresh : (b c : Bool) → (b ≡ true → c ≡ true) → c ≡ false → b ≡ false
was-fresh true c h k = (let e = h refl in cc (e, k))
was-fresh false c h k = refl

module _ (s t : Shape) (n : IRNode) (w : IsForest s) (c : ChangedBelow s n t) where
  -- the parent of a node that was not below n was not below n
  parent-apart : (m p : IRNode) → (IsBelow s n m → ⊥) → s.parent m ≡ Some p → IsBelow s n p → ⊥
  parent-apart m p nb up z = nb (suc z.0, climb-bottom s (suc z.0) m p up ∙ z.1)

  -- from a node that was not below n no climb comes to one that was, or is new
  pub never-below : (x : IRNode) → WasBelow s n x → (k : ℕ) (m : IRNode) → s.live m ≡ true → (IsBelow s n m → ⊥) → climb
      t.parent k (Some m) ≡ Some x → ⊥
  never-below x b zero m v nb e = let q = same_Some m x e in nb (subst (IsBelow s n) (sym q)
      (b (subst (λ z. s.live z ≡ true) q v)))
  never-below x b (suc k) m v nb e =
      let u = climb-up t.parent k m x e in
      let up : s.parent m ≡ Some u.0 = sym (c.kept m v nb).1 ∙ u.1 in
      never-below x b k u.0 (w.parent_live u.0 m up) (parent-apart m u.0 nb up) u.2

  -- nor to n, but with no step
  never-at : (k : ℕ) (m : IRNode) → s.live m ≡ true → (IsBelow s n m → ⊥) → climb t.parent (suc k) (Some m) ≡ Some n → ⊥
  never-at zero m v nb e = nb (zero, sym (c.kept m v nb).1 ∙ e)
  never-at (suc k) m v nb e =
      let u = climb-up t.parent (suc k) m n e in
      let up : s.parent m ≡ Some u.0 = sym (c.kept m v nb).1 ∙ u.1 in
      never-at k u.0 (w.parent_live u.0 m up) (parent-apart m u.0 nb up) u.2

  -- a node whose child was below n, or is new, was below n, or is n, or is new
  pub over-below : IsForest t → (x m : IRNode) → WasBelow s n x → s.live m ≡ true → (IsBelow s n m → ⊥) → m ≢ n →
      t.parent x ≡ Some m → ⊥
  over-below w' x m b v nb ne e =
      let has : Has (s.children m) x = subst (λ (z : List IRNode). Has z x) ((c.kept m v nb).2 ne)
      (w'.parent_child m x e) in
      let below = b (w.child_live m x has) in
      let up : s.parent x ≡ Some m = w.child_parent m x has in
      at below.0 (sym (climb-bottom s below.0 x m up) ∙ below.1)
    where
      at : (k : ℕ) → climb s.parent k (Some m) ≡ Some n → ⊥
      at zero h = ne (same_Some m n h)
      at (suc k) h = nb (k, h)

  -- it is lawful
  pub changed-lawful : IsForest t → Lawful s n t
  changed-lawful w' = record {
    kept = c.kept;
    below = λ m z. (let f = climb-first t z.0 m n z.1 in by m z (w'.child_live f.0 m (w'.parent_child f.0 m f.1))
        (s.live m) refl);
    given = c.given;
  }
    where
      by : (m : IRNode) → IsBelow t n m → t.live m ≡ true → (b : Bool) → s.live m ≡ b → IsBelow s n m ⊎
          (s.given m ≡ false)
      by m z v false l = inr (c.fresh m v l)
      by m z v true l = elim (below-or-not s w n m) [ inl y ↦ inl y | inr nb ↦ absurd (never-at z.0 m l nb z.1) ]

module _ (s : Shape) (n : IRNode) where
  -- nothing is done as a call begins
  pub changed-begun : ChangedBelow s n s
  changed-begun = record {
    kept = λ m v nb. (v, refl, λ ne. refl);
    fresh = λ m v l. absurd (not-both (s.live m) v l);
    given = λ m g. g;
  }

  -- a node that was not below n is not one that was, or is new
  pub is-not : (x m : IRNode) → WasBelow s n x → s.live m ≡ true → (IsBelow s n m → ⊥) → m ≡ x → ⊥
  is-not x m b v nb q = nb (subst (IsBelow s n) (sym q) (b (subst (λ z. s.live z ≡ true) q v)))

  -- nor one under n, unless it is n
  pub is-not-under : (x m : IRNode) → WasUnder s n x → s.live m ≡ true → (IsBelow s n m → ⊥) → m ≢ n → m ≡ x → ⊥
  is-not-under x m b v nb ne q = at (b (subst (λ z. s.live z ≡ true) q v))
    where
      at : Reaches s.parent x n → ⊥
      at (zero, h) = ne (q ∙ same_Some x n h)
      at (suc k, h) = nb (subst (IsBelow s n) (sym q) (k, h))

  -- One more step, from t to u: what was kept is kept by it, and what it makes live is new.
  pub changed-on : (t u : Shape) → ChangedBelow s n t
      → ((m : IRNode) → s.live m ≡ true → (IsBelow s n m → ⊥) → t.live m ≡ true → (u.live m ≡ true) ×
      (u.parent m ≡ t.parent m) × (m ≢ n → u.children m ≡ t.children m))
      → ((m : IRNode) → u.live m ≡ true → (t.live m ≡ true) ⊎ (t.given m ≡ false))
      → ((m : IRNode) → t.given m ≡ true → u.given m ≡ true)
      → ChangedBelow s n u
  changed-on t u c kept fresh given = record {
    kept = λ m v nb. (let k = c.kept m v nb in let h = kept m v nb k.0 in (h.0, h.1 ∙ k.1, λ ne. h.2 ne ∙ k.2 ne));
    fresh = λ m v l. elim (fresh m v) [
      | inl z ↦ c.fresh m z l
      | inr z ↦ was-fresh (s.given m) (t.given m) (c.given m) z
    ];
    given = λ m g. given m (c.given m g);
  }

module _ {K A T : Type 0} (s t u : ContextView K A T) (n : IRNode) (c : ChangedBelow (look s) n (look t)) where
  live-or-new : ((m : IRNode) → is_live u m ≡ true → is_live t m ≡ false → given_out t m ≡ false) → (m : IRNode) →
      is_live u m ≡ true → (is_live t m ≡ true) ⊎ (given_out t m ≡ false)
  live-or-new new m v = by (is_live t m) refl
    where
      by : (b : Bool) → is_live t m ≡ b → (is_live t m ≡ true) ⊎ (given_out t m ≡ false)
      by true l = inl l
      by false l = inr (new m v l)

  pub changed-made : (x : IRNode) → IsMade t.nodes u.nodes x → ChangedBelow (look s) n (look u)
  changed-made x e =
      changed-on (look s) n (look t) (look u) c
      (λ m v nb l. (e.keeps.live m l, e.keeps.parents m l, λ ne. e.children m l))
      (live-or-new e.fresh)
      e.keeps.given

  pub changed-refused : SameLive t u → ((m : IRNode) → given_out t m ≡ true → given_out u m ≡ true) → ChangedBelow
      (look s) n (look u)
  changed-refused e given =
      changed-on (look s) n (look t) (look u) c
      (λ m v nb l. (e.nodes.live m ∙ l, e.nodes.parents m, λ ne. e.nodes.children m))
      (λ m v. inl (sym (e.nodes.live m) ∙ v))
      given

  pub changed-region : (o x : IRNode) → WasUnder (look s) n o → IsRegionAdded t.nodes u.nodes o x → ChangedBelow
      (look s) n (look u)
  changed-region o x b e =
      let a = e.added in
      changed-on (look s) n (look t) (look u) c
      (λ m v nb l. (
        a.keeps.live m l,
        a.keeps.parents m l,
        λ ne. a.children m l (λ q. is-not-under (look s) n o m b v nb
            ne (sym (same_Some o m q))),
      ))
      (live-or-new (λ m v l. subst (λ z. given_out t z ≡ false) (sym (a.only m v l)) a.fresh))
      a.keeps.given

  pub changed-unlinked : (x : IRNode) → IsForest (look s) → IsForest (look t) → WasBelow (look s) n x → IsUnlinked
      t.nodes u.nodes x → ChangedBelow (look s) n (look u)
  changed-unlinked x w w' b e =
      changed-on (look s) n (look t) (look u) c
      (λ m v nb l. (
        moved-live t.nodes u.nodes x e.moved m ∙ l,
        e.moved.parents m (is-not (look s) n x m b v nb),
        λ ne. e.children m (over-below (look s) (look t) n w c w' x m b v nb ne),
      ))
      (λ m v. inl (sym (moved-live t.nodes u.nodes x e.moved m) ∙ v))
      (λ m g. moved-given t.nodes u.nodes x e.moved m ∙ g)

  pub changed-placed : (x over : IRNode) (ks : List IRNode) → WasBelow (look s) n x → WasUnder (look s) n over →
      IsPlaced t.nodes u.nodes x over ks → ChangedBelow (look s) n (look u)
  changed-placed x over ks b o e =
      changed-on (look s) n (look t) (look u) c
      (λ m v nb l. (
        moved-live t.nodes u.nodes x e.moved m ∙ l,
        e.moved.parents m (is-not (look s) n x m b v nb),
        λ ne. e.children m (is-not-under (look s) n over m o v nb ne),
      ))
      (λ m v. inl (sym (moved-live t.nodes u.nodes x e.moved m) ∙ v))
      (λ m g. moved-given t.nodes u.nodes x e.moved m ∙ g)

  pub changed-erased : (x : IRNode) → IsForest (look s) → IsForest (look t) → WasBelow (look s) n x → IsErased t.nodes
      u.nodes x → ChangedBelow (look s) n (look u)
  changed-erased x w w' b e =
      changed-on (look s) n (look t) (look u) c
      (λ m v nb l.
      (let away = λ (r : Reaches (node_parent t.nodes) m x). never-below (look s) (look t) n w c x b r.0 m v nb r.1 in (
        e.live m away ∙ l,
        e.parents m away,
        λ ne. e.children m away (over-below (look s) (look t) n w c w' x m b v nb
            ne),
      )))
      (λ m v. inl (sym (e.live m (λ r. not-both (is_node_live u.nodes m) v (e.gone m r))) ∙ v))
      (λ m g. e.given m ∙ g)

-- an edit of what an operation or a block holds
module _ {K A T : Type 0} (s t : ContextView K A T) (n : IRNode) (c : ChangedBelow (look s) n (look t)) where
  pub changed-seen : (u : ContextView K A T) → SeesTheSame t u → ChangedBelow (look s) n (look u)
  changed-seen u e =
      changed-on (look s) n (look t) (look u) c
      (λ m v nb l. (e.live m ∙ l, e.parents m, λ ne. e.children m))
      (λ m v. inl (sym (e.live m) ∙ v))
      (λ m g. e.given m ∙ g)

  pub changed-op-edit : (p : Ptr OperationKind) (f : OpView K A → OpView K A) → ChangedBelow (look s) n
      (look (with_op_edit t p f))
  changed-op-edit p f = changed-seen (with_op_edit t p f) (op-edit-seen t p f)

  pub changed-block-edit : (p : Ptr BasicBlockKind) (f : BlockView A → BlockView A) → ChangedBelow (look s) n
      (look (with_block_edit t p f))
  changed-block-edit p f = changed-seen (with_block_edit t p f) (block-edit-seen t p f)

-- what stands under a node that was unlinked stood under it before
pub unlinked-under : {K A T : Type 0} (s t : ContextView K A T) (x m : IRNode) → IsUnlinked s.nodes t.nodes x → Reaches
    (parent_of t) m x → Reaches (parent_of s) m x
unlinked-under s t x m e (k, h) = go k m h
  where
    go : (k : ℕ) (m : IRNode) → climb (parent_of t) k (Some m) ≡ Some x → Reaches (parent_of s) m x
    go zero m h = (zero, h)
    go (suc k) m h = elim (same_tells m x) [
      | inl q ↦ (zero, ap Some q.1)
      | inr q ↦
          let u = climb-up (parent_of t) k m x h in
          let up : parent_of s m ≡ Some u.0 = sym (e.moved.parents m q.1) ∙ u.1 in
          let r = go k u.0 u.2 in
          (suc r.0, climb-bottom (look s) r.0 m u.0 up ∙ r.1)
    ]
