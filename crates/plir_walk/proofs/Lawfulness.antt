-- What a callback at a node may do to a context: the changes that are lawful, and one after another.
use Rattle.std.proofs.Common.{◌≡◌, ◌≢◌, ℕ, zero, suc, ◌+◌, Bool, true, false, cond, List, Option, Some, None, ◌⊎◌, inl}
use Rattle.std.proofs.Common.{inr, refl, sym, ap, subst, ◌∙◌, arith}
use Rattle.std.proofs.lemmas.Option.{none-some, same_Some}
use Rattle.plir_core.specs.declared.ptr.Ptr.{Ptr}
use Rattle.plir_core.specs.declared.ptr.Operation.{Operation as OperationKind}
use Rattle.plir_core.specs.declared.ptr.BasicBlock.{BasicBlock as BasicBlockKind}
use Rattle.plir_core.specs.declared.ptr.IRNode.{IRNode}
use Rattle.plir_core.specs.declared.ptr.IRNode.TheVariants.{Operation, Region, BasicBlock}
use Rattle.plir_core.specs.Above.{Reaches, climb}
use Rattle.plir_store.specs.Table.{Table}
use Rattle.plir_core.specs.Nodes.{Nodes, is_node_live, node_parent, node_over}
use Rattle.plir_core.specs.Contents.{OpView, BlockView}
use Rattle.plir_core.specs.ContextView.{ContextView, is_live, given_out, children, parent_of}
use Rattle.plir_core.specs.Changes.{SameLive, with_op_edit, with_block_edit}
use Rattle.plir_core.specs.Erase.{IsErased}
use Rattle.plir_core.specs.Made.{IsRegionAdded, IsMade}
use Rattle.plir_core.specs.Held.{KeepsNodes}
use Rattle.plir_core.specs.Placed.{IsPlaced}
use Rattle.plir_core.specs.Forest.{Shape, IsBelow, IsForest, look}
use Rattle.plir_walk.specs.Lawful.{Lawful, SameShape}
use Rattle.plir_walk.specs.AdditionLaws.{moved-live, moved-given}
use Rattle.plir_walk.proofs.Climbs.{climb-bottom, climb-split, climb-top, not-below-itself}
use Rattle.plir_walk.proofs.NamedStores.{op-edit-is, block-edit-is}
use Rattle.plir_walk.specs.Unnamed.{SameSlots}
use Rattle.plir_walk.proofs.Refilled.{edited-slots, refilled-given, refilled-children, refilled-live, refilled-parents}

-- nothing done is lawful
pub lawful-none : (s : Shape) (n : IRNode) → Lawful s n s
lawful-none s n = record {
  kept = λ m v b. (v, refl, λ k. refl);
  below = λ m b. inl b;
  given = λ m g. g;
}

pub not-both : (b : Bool) → b ≡ true → b ≡ false → ⊥
not-both b h k = (let z : ⊥ = cc (h, k) in z)

-- one lawful change after another
pub lawful-then : (s t u : Shape) (n : IRNode) → IsForest s → Lawful s n t → Lawful t n u → Lawful s n u
lawful-then s t u n w f g = record {
  kept = λ m v b.
      (let k = f.kept m v b in
      let h = g.kept m k.0 (λ z. elim (f.below m z) [ inl y ↦ b y | inr y ↦ not-both (s.given m) (w.live_given m v) y ])
      in
      (h.0, h.1 ∙ k.1, λ ne. h.2 ne ∙ k.2 ne));
  below = λ m z. elim (g.below m z) [
    | inl y ↦ f.below m y
    | inr y ↦ inr (was (s.given m) (t.given m) (f.given m) y)
  ];
  given = λ m h. g.given m (f.given m h);
}
  where
    was : (b c : Bool) → (b ≡ true → c ≡ true) → c ≡ false → b ≡ false
    was true c h k = (let e = h refl in cc (e, k))
    was false c h k = refl

-- a lawful call leaves its own node live
pub lawful-stays : (s t : Shape) (n : IRNode) → IsForest s → Lawful s n t → s.live n ≡ true → t.live n ≡ true
lawful-stays s t n w f v = (f.kept n v (not-below-itself s w n)).0

-- a change that keeps live nodes, parents, children and what was given out
pub lawful-same : (s t : Shape) (n : IRNode) → ((m : IRNode) → t.live m ≡ s.live m) →
    ((m : IRNode) → t.parent m ≡ s.parent m) → ((m : IRNode) → t.children m ≡ s.children m) →
    ((m : IRNode) → s.given m ≡ true → t.given m ≡ true) → Lawful s n t
lawful-same s t n live parent children given = record {
  kept = λ m v b. (live m ∙ v, parent m, λ k. children m);
  below = λ m z. inl (z.0, sym (climbs (suc z.0) (Some m)) ∙ z.1);
  given = given;
}
  where
    climbs : (k : ℕ) (o : Option IRNode) → climb t.parent k o ≡ climb s.parent k o
    climbs zero o = refl
    climbs (suc k) None = refl
    climbs (suc k) (Some m) = climbs k (t.parent m) ∙ ap (climb s.parent k) (parent m)

-- where the parents of the nodes on the way are the same, so is the way
pub climb-back : (s t : Shape) (P : IRNode → Type 0) → ((m a : IRNode) → P m → t.parent m ≡ Some a →
    (s.parent m ≡ Some a) × P a) → (k : ℕ) (m a : IRNode) → P m
    → climb t.parent k (Some m) ≡ Some a → (climb s.parent k (Some m) ≡ Some a) × P a
climb-back s t P up zero m a p e = (e, subst P (same_Some m a e) p)
climb-back s t P up (suc k) m a p e =
    let r = climb-split t k m a e in
    let z = climb-back s t P up k m r.0 p r.1 in
    let y = up r.0 a z.1 r.2 in
    (climb-top s k m r.0 a z.0 y.0, y.1)

-- j steps above k steps
pub climb-plus : (s : Shape) (j k i : ℕ) (x y a : IRNode) → i ≡ j + k → climb s.parent k (Some x) ≡ Some y → climb
    s.parent j (Some y) ≡ Some a → climb s.parent i (Some x) ≡ Some a
climb-plus s zero k i x y a q e g = (let h : k ≡ i = omega (arith, q) in subst
    (λ (v : ℕ). climb s.parent v (Some x) ≡ Some a) h (e ∙ g))
climb-plus s (suc j) k zero x y a q e g = absurd (omega (arith, q))
climb-plus s (suc j) k (suc i) x y a q e g =
    let r = climb-split s j y a g in
    climb-top s i x r.0 a (climb-plus s j k i x y r.0 (omega (arith, q)) e r.1) r.2

-- a node below another has a parent
pub climb-first : (s : Shape) (k : ℕ) (x a : IRNode) → climb s.parent (suc k) (Some x) ≡ Some a → (p : IRNode) ×
    (s.parent x ≡ Some p)
climb-first s zero x a e = (a, e)
climb-first s (suc k) x a e = (let r = climb-split s (suc k) x a e in climb-first s k x r.0 r.1)

-- a node that has a parent is live
pub linked-live : {O B : Type 0} (s : Nodes O B) (m a : IRNode) → node_parent s m ≡ Some a → is_node_live s m ≡ true
linked-live s m a e = go (is_node_live s m) (node_over s m) e
  where
    go : (b : Bool) (o : Option IRNode) → cond b o None ≡ Some a → b ≡ true
    go true o e = refl
    go false o e = absurd (none-some a e)

module _ {K A T : Type 0} (s t : ContextView K A T) where
  -- erasing a tree below n
  pub lawful-erased : (n x : IRNode) → IsBelow (look s) n x → IsErased s.nodes t.nodes x → Lawful (look s) n (look t)
  lawful-erased n x b e = record {
    kept = λ m v nb.
        (let away = λ (r : Reaches (node_parent s.nodes) m x). nb (deep m r) in
        (e.live m away ∙ v, e.parents m away, λ ne. e.children m away (λ p. over m ne nb p)));
    below = λ m z. inl (
      z.0,
      (climb-back (look s) (look t) (λ k. Unit {0}) (λ k a p q. (still k a q, tt)) (suc z.0) m n
          tt z.1).0,
    );
    given = λ m g. e.given m ∙ g;
  }
    where
      -- what is at or below x is below n
      deep : (m : IRNode) → Reaches (look s).parent m x → IsBelow (look s) n m
      deep m r = (b.0 + r.0, climb-plus (look s) (suc b.0) r.0 (suc (b.0 + r.0)) m x n (omega arith) r.1 b.1)

      over : (m : IRNode) → m ≢ n → (IsBelow (look s) n m → ⊥) → node_parent s.nodes x ≡ Some m → ⊥
      over m ne nb p = go b.0 b.1
        where
          go : (k : ℕ) → climb (look s).parent (suc k) (Some x) ≡ Some n → ⊥
          go zero c = ne (same_Some m n (sym p ∙ c))
          go (suc k) c = nb (k, sym (climb-bottom (look s) (suc k) x m p) ∙ c)

      still : (k a : IRNode) → node_parent t.nodes k ≡ Some a → node_parent s.nodes k ≡ Some a
      still k a q = sym (e.parents k (λ r. not-both (is_node_live t.nodes k) (linked-live t.nodes k a q) (e.gone k r)))
          ∙ q

  -- What was live stands where it stood, and the children of n at most, or of what is below it, are others. What is new
  -- was never given out.
  lawful-new : (n : IRNode) → IsForest (look s)
      → ((m : IRNode) → is_live s m ≡ true → is_live t m ≡ true)
      → ((m : IRNode) → is_live s m ≡ true → parent_of t m ≡ parent_of s m)
      → ((m : IRNode) → is_live s m ≡ true → (IsBelow (look s) n m → ⊥) → m ≢ n → children t m ≡ children s m)
      → ((m : IRNode) → given_out s m ≡ true → given_out t m ≡ true)
      → ((m : IRNode) → is_live t m ≡ true → is_live s m ≡ false → given_out s m ≡ false)
      → Lawful (look s) n (look t)
  lawful-new n w live parents children given fresh = record {
    kept = λ m l nb. (live m l, parents m l, λ ne. children m l nb ne);
    below = λ m z. go (is_live s m) m refl z;
    given = given;
  }
    where
      go : (b : Bool) (m : IRNode) → is_live s m ≡ b → IsBelow (look t) n m → IsBelow (look s) n m ⊎
          (given_out s m ≡ false)
      go true m l z = inl (
        z.0,
        (climb-back (look s) (look t) (λ k. is_live s k ≡ true) (λ k a p q.
            (let h : parent_of s k ≡ Some a = sym (parents k p) ∙ q in (h, w.parent_live a k h))) (suc z.0) m n l
            z.1).0,
      )
      go false m l z =
          let up = climb-first (look t) z.0 m n z.1 in
          inr (fresh m (linked-live t.nodes m up.0 up.1) l)

  -- giving a region to n
  pub lawful-region : (n r : IRNode) → IsForest (look s) → IsRegionAdded s.nodes t.nodes n r → Lawful (look s) n
      (look t)
  lawful-region n r w e =
      let a = e.added in
      lawful-new n w a.keeps.live a.keeps.parents (λ m l nb ne. a.children m l (λ q. ne (sym (same_Some n m q))))
      a.keeps.given
      (λ m l d. subst (λ z. given_out s z ≡ false) (sym (a.only m l d)) a.fresh)

  -- no live node has changed
  pub lawful-refused : (n : IRNode) → SameLive s t → ((m : IRNode) → given_out s m ≡ true → given_out t m ≡ true) →
      Lawful (look s) n (look t)
  lawful-refused n e given = lawful-same (look s) (look t) n e.nodes.live e.nodes.parents e.nodes.children given

-- making a tree, and putting it under n or below it
pub lawful-placed : {K A T : Type 0} (s t u : ContextView K A T) (n x a : IRNode) (ks : List IRNode) → IsForest (look s)
    → Reaches (parent_of s) a n → IsMade s.nodes t.nodes x → IsPlaced t.nodes u.nodes x a ks → Lawful (look s) n
    (look u)
lawful-placed s t u n x a ks w under made placed =
    lawful-new s u n w
    (λ m l. moved-live t.nodes u.nodes x placed.moved m ∙ made.keeps.live m l)
    (λ m l. placed.moved.parents m (older m l) ∙ made.keeps.parents m l)
    (λ m l nb ne. placed.children m (λ q. over m nb ne under q) ∙ made.children m l)
    (λ m g. moved-given t.nodes u.nodes x placed.moved m ∙ made.keeps.given m g)
    (λ m l d. made.fresh m (sym (moved-live t.nodes u.nodes x placed.moved m) ∙ l) d)
  where
    older : (m : IRNode) → is_live s m ≡ true → m ≡ x → ⊥
    older m l q = not-both (is_live s x) (subst (λ z. is_live s z ≡ true) q l) made.new

    over : (m : IRNode) → (IsBelow (look s) n m → ⊥) → m ≢ n → Reaches (parent_of s) a n → m ≡ a → ⊥
    over m nb ne (zero, c) q = ne (q ∙ same_Some a n c)
    over m nb ne (suc k, c) q = nb (subst (IsBelow (look s) n) (sym q) (k, c))

-- an edit of what an operation or a block holds: a walk sees nothing of it
module _ {K A T : Type 0} (s : ContextView K A T) where
  same_slots : {C : Type 0} (t : Table C) → SameSlots t t
  same_slots t = record { number = refl; full = λ j. refl; versions = λ j. refl; free = refl }

  pub record SeesTheSame (t : ContextView K A T) : Type 0 where
    pub live : (m : IRNode) → is_live t m ≡ is_live s m
    pub parents : (m : IRNode) → parent_of t m ≡ parent_of s m
    pub children : (m : IRNode) → children t m ≡ children s m
    pub given : (m : IRNode) → given_out t m ≡ given_out s m

  pub lawful-seen : (t : ContextView K A T) (n : IRNode) → SeesTheSame t → Lawful (look s) n (look t)
  lawful-seen t n e = lawful-same (look s) (look t) n e.live e.parents e.children (λ m g. e.given m ∙ g)

  pub shape-seen : (t : ContextView K A T) → SeesTheSame t → SameShape (look s) (look t)
  shape-seen t e = record { live = e.live; children = e.children }

  -- where all nodes are kept, a walk sees the same
  pub kept-seen : (t : ContextView K A T) → KeepsNodes s t → SeesTheSame t
  kept-seen t e = record { live = e.live; parents = e.parents; children = e.children; given = e.given }

  pub op-edit-seen : (p : Ptr OperationKind) (f : OpView K A → OpView K A) → SeesTheSame (with_op_edit s p f)
  op-edit-seen p f =
      let os = edited-slots s.nodes.ops p.slot f in
      let bs = same_slots s.nodes.blocks in
      subst SeesTheSame (sym (op-edit-is s p f)) (record {
        live = refilled-live s _ _ os bs;
        parents = refilled-parents
            s _ _ os bs;
        children = refilled-children s _ _ os bs;
        given = refilled-given s _ _ os bs;
      })

  pub block-edit-seen : (p : Ptr BasicBlockKind) (f : BlockView A → BlockView A) → SeesTheSame (with_block_edit s p f)
  block-edit-seen p f =
      let os = same_slots s.nodes.ops in
      let bs = edited-slots s.nodes.blocks p.slot f in
      subst SeesTheSame (sym (block-edit-is s p f)) (record {
        live = refilled-live s _ _ os bs;
        parents =
            refilled-parents s _ _ os bs;
        children = refilled-children s _ _ os bs;
        given = refilled-given s _ _ os bs;
      })

  pub op-edit-lawful : (p : Ptr OperationKind) (f : OpView K A → OpView K A) (n : IRNode) → Lawful (look s) n
      (look (with_op_edit s p f))
  op-edit-lawful p f n = lawful-seen (with_op_edit s p f) n (op-edit-seen p f)

  pub block-edit-lawful : (p : Ptr BasicBlockKind) (f : BlockView A → BlockView A) (n : IRNode) → Lawful (look s) n
      (look (with_block_edit s p f))
  block-edit-lawful p f n = lawful-seen (with_block_edit s p f) n (block-edit-seen p f)

  pub op-edit-shape : (p : Ptr OperationKind) (f : OpView K A → OpView K A) → SameShape (look s)
      (look (with_op_edit s p f))
  op-edit-shape p f = shape-seen (with_op_edit s p f) (op-edit-seen p f)

  pub block-edit-shape : (p : Ptr BasicBlockKind) (f : BlockView A → BlockView A) → SameShape (look s)
      (look (with_block_edit s p f))
  block-edit-shape p f = shape-seen (with_block_edit s p f) (block-edit-seen p f)
