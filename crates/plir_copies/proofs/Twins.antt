-- How a copy of a tree goes on: the children of one more node are copied.
use Rattle.std.proofs.Common.{◌≡◌, ◌∙◌, ◌⊎◌, Bool, true, false, true≢false, List, [], ◌∷◌, ◌++◌}
use Rattle.std.proofs.Common.{map, Some, inl, inr, refl, sym, ap, subst, append_assoc}
use Rattle.std.proofs.lemmas.Option.{same_Some}
use Rattle.plir_store.specs.Members.{Has, Distinct}
use Rattle.plir_store.specs.MemberLaws.{Has-append_left, Has-append_right, Has-append_cases, Has-mid, Has-map, map-Has}
use Rattle.plir_store.specs.MemberLaws.{Distinct-append, Distinct-cross, Distinct-right}
use Rattle.plir_core.specs.declared.ptr.IRNode.{IRNode}
use Rattle.plir_core.specs.declared.ptr.IRNode.TheVariants.{Operation, Region, BasicBlock}
use Rattle.plir_core.specs.ContextView.{ContextView, IsLive, IsAncestor, is_live, children, parent_of}
use Rattle.plir_core.specs.Forest.{look, IsForest}
use Rattle.plir_core.specs.Grown.{IsGrown}
use Rattle.plir_core.specs.Made.{KeepsLive}
use Rattle.plir_core.specs.Stored.{IsStored}
use Rattle.plir_core.specs.Room.{IsFullFor, HaveCome}
use Rattle.plir_core.specs.RoomLaws.{full_before, full_more}
use Rattle.plir_copies.specs.declared.trees.Twin.{Twin}
use Rattle.plir_copies.specs.Room.{count_of, tree_count}
use Rattle.plir_copies.specs.Twins.{nodes_of, copies_of, AreOfOneKind, HoldsAs, IsTwin, AreTogether, IsCopying}
use Rattle.plir_copies.proofs.RoomLaws.{come_both, count_append}
use Rattle.plir_copies.proofs.TreeNodes.{no-cycle, one_up, tree-most}

-- a list in two parts
pub map-append : {X Y : Type 0} (f : X → Y) (xs ys : List X) → map f (xs ++ ys) ≡ map f xs ++ map f ys
map-append f [] ys = refl
map-append f (x ∷ xs) ys = ap (λ zs. f x ∷ zs) (map-append f xs ys)

bool-false : (b : Bool) → (b ≡ true → ⊥) → b ≡ false
bool-false true h = absurd (h refl)
bool-false false h = refl

module _ {K A T : Type 0} (s t u : ContextView K A T) where
  -- what a copy holds stays
  pub holds-later : KeepsLive t.nodes u.nodes → (n c : IRNode) → IsLive t c → HoldsAs s t n c → HoldsAs s u n c
  holds-later k (Operation p) (Operation q) l h = k.ops q l ∙ h
  holds-later k (Region p) (Region q) l h = h
  holds-later k (BasicBlock p) (BasicBlock q) l h = k.blocks q l ∙ h
  holds-later k (Operation p) (Region q) l h = h
  holds-later k (Operation p) (BasicBlock q) l h = h
  holds-later k (Region p) (Operation q) l h = h
  holds-later k (Region p) (BasicBlock q) l h = h
  holds-later k (BasicBlock p) (Operation q) l h = h
  holds-later k (BasicBlock p) (Region q) l h = h

  -- and what it copies was there before
  pub holds-before : KeepsLive s.nodes t.nodes → (n c : IRNode) → IsLive s n → HoldsAs t u n c → HoldsAs s u n c
  holds-before k (Operation p) (Operation q) l h = h ∙ k.ops p l
  holds-before k (Region p) (Region q) l h = h
  holds-before k (BasicBlock p) (BasicBlock q) l h = h ∙ k.blocks p l
  holds-before k (Operation p) (Region q) l h = h
  holds-before k (Operation p) (BasicBlock q) l h = h
  holds-before k (Region p) (Operation q) l h = h
  holds-before k (Region p) (BasicBlock q) l h = h
  holds-before k (BasicBlock p) (Operation q) l h = h
  holds-before k (BasicBlock p) (Region q) l h = h

module _ {K A T : Type 0} (s t : ContextView K A T) where
  pub holds-kind : (n c : IRNode) → HoldsAs s t n c → AreOfOneKind n c
  holds-kind (Operation p) (Operation q) h = tt
  holds-kind (Region p) (Region q) h = tt
  holds-kind (BasicBlock p) (BasicBlock q) h = tt
  holds-kind (Operation p) (Region q) h = h
  holds-kind (Operation p) (BasicBlock q) h = h
  holds-kind (Region p) (Operation q) h = h
  holds-kind (Region p) (BasicBlock q) h = h
  holds-kind (BasicBlock p) (Operation q) h = h
  holds-kind (BasicBlock p) (Region q) h = h

  -- a node is not the copy of one
  pub twin-apart : (w : Twin) → IsTwin s t w → w.node ≡ w.copy → ⊥
  twin-apart w h e = true≢false (sym h.live ∙ ap (is_live s) e ∙ h.new)

-- two of a list, one of which stands in the midst, differ
module _ (f : Twin → IRNode) (ds rs : List Twin) (w : Twin) (d : Distinct (map f (ds ++ w ∷ rs))) where
  parted : Distinct (map f ds ++ f w ∷ map f rs)
  parted = subst Distinct (map-append f ds (w ∷ rs)) d

  front-differs : (x : Twin) → Has ds x → f x ≡ f w → ⊥
  front-differs x h e =
      Distinct-cross (map f ds) (f w ∷ map f rs) parted (f w) (subst (Has (map f ds)) e (map-Has f ds x h)) (inl refl)

  back-differs : (x : Twin) → Has rs x → f x ≡ f w → ⊥
  back-differs x h e =
      (Distinct-right (map f ds) (f w ∷ map f rs) parted).0 (subst (Has (map f rs)) e (map-Has f rs x h))

module _ {K A T : Type 0} (s t : ContextView K A T) (root copy : IRNode) (ds rs : List Twin) (w : Twin)
    (h : IsCopying s t root copy ds (w ∷ rs)) where
  next : IsTwin s t w
  next = h.each w (Has-mid ds rs w)

  -- a child of the next node is not listed yet
  not-listed : (n : IRNode) → Has (nodes_of (ds ++ w ∷ rs)) n → Has (children s w.node) n → ⊥
  not-listed n a b =
      let x = Has-map (λ z. z.node) (ds ++ w ∷ rs) n a in
      let over = ap (parent_of s) x.1.1 ∙ h.forest.child_parent w.node n b in
      elim (h.over x.0 x.1.0) [
        | inl e ↦ no-cycle s h.measured root w.node (h.below w (Has-mid ds rs w)) (ap (parent_of s) (sym e) ∙ over)
        | inr v ↦ front-differs (λ z. z.node) ds rs w h.nodes v.0 v.1 (same_Some v.0.node w.node (sym v.2 ∙ over))
      ]

  -- where its children have no room any more, the tree had none
  pub full-below : IsFullFor t.nodes (count_of (children t w.node)) → IsFullFor s.nodes (tree_count s.nodes root)
  full-below full =
      let listed = nodes_of (ds ++ w ∷ rs) in
      let some = listed ++ children s w.node in
      let below : (n : IRNode) → Has some n → IsAncestor s root n = λ n m.
      elim (Has-append_cases listed (children s w.node) n m) [
        | inl a ↦ (
            let x = Has-map (λ z. z.node) (ds ++ w ∷ rs) n a in
            subst (IsAncestor s root) x.1.1 (h.below x.0 x.1.0))
        | inr b ↦ one_up s w.node n root (h.forest.child_parent w.node n b) (h.below w (Has-mid ds rs w))
      ] in
      let once : Distinct some =
      Distinct-append listed (children s w.node) h.nodes (h.forest.once w.node) not-listed in
      full_more s.nodes (count_of some) (tree_count s.nodes root) (tree-most s h.forest h.measured root some once below)
      (subst (IsFullFor s.nodes) (sym (count_append listed (children s w.node)))
      (full_before s.nodes t.nodes (count_of listed) (count_of (children s w.node)) h.come
      (subst (λ l. IsFullFor t.nodes (count_of l)) (h.made.children w.node next.live) full)))

module _ {K A T : Type 0} (s t u : ContextView K A T) (root copy : IRNode) (ds rs vs : List Twin) (w : Twin)
    (h : IsCopying s t root copy ds (w ∷ rs)) (stored : IsStored t.nodes) (forest : IsForest (look u))
    (g : IsGrown t.nodes u.nodes w.copy) (types : u.types ≡ t.types)
    (nodes : nodes_of vs ≡ children t w.node) (copies : copies_of vs ≡ children u w.copy)
    (each : (x : Twin) → Has vs x → IsTwin t u x) (leaves : (x : Twin) → Has vs x → children u x.copy ≡ [])
    (come : HaveCome t.nodes u.nodes (count_of (children t w.node))) where
  before : List Twin
  before = ds ++ w ∷ rs

  after : List Twin
  after = (ds ++ w ∷ []) ++ (rs ++ vs)

  same : after ≡ (ds ++ w ∷ rs) ++ vs
  unfolding after
  same = append_assoc ds (w ∷ []) (rs ++ vs) ∙ sym (append_assoc ds (w ∷ rs) vs)

  in_after : (x : Twin) → Has (ds ++ w ∷ rs) x → Has after x
  in_after x m = subst (λ l. Has l x) (sym same) (Has-append_left (ds ++ w ∷ rs) vs x m)

  new_after : (x : Twin) → Has vs x → Has after x
  new_after x m = subst (λ l. Has l x) (sym same) (Has-append_right (ds ++ w ∷ rs) vs x m)

  after-cases : (x : Twin) → Has after x → Has (ds ++ w ∷ rs) x ⊎ Has vs x
  after-cases x m = Has-append_cases (ds ++ w ∷ rs) vs x (subst (λ l. Has l x) same m)

  here : IsTwin s t w
  here = h.each w (Has-mid ds rs w)

  children_s : nodes_of vs ≡ children s w.node
  children_s = nodes ∙ h.made.children w.node here.live

  is-child : (x : Twin) → Has vs x → Has (children s w.node) x.node
  is-child x m = subst (λ l. Has l x.node) children_s (map-Has (λ z. z.node) vs x m)

  parent : (x : Twin) → Has vs x → parent_of s x.node ≡ Some w.node
  parent x m = h.forest.child_parent w.node x.node (is-child x m)

  -- no new node was there before
  fresh : (n : IRNode) → Has (nodes_of (ds ++ w ∷ rs)) n → Has (nodes_of vs) n → ⊥
  fresh n a b = not-listed s t root copy ds rs w h n a (subst (λ l. Has l n) children_s b)

  fresh_copy : (n : IRNode) → Has (copies_of (ds ++ w ∷ rs)) n → Has (copies_of vs) n → ⊥
  fresh_copy n a b =
      let x = Has-map (λ z. z.copy) (ds ++ w ∷ rs) n a in
      let y = Has-map (λ z. z.copy) vs n b in
      true≢false (sym (h.each x.0 x.1.0).copy_live ∙ ap (is_live t) (x.1.1 ∙ sym y.1.1) ∙ (each y.0 y.1.0).new)

  -- the copies of other nodes have the children that they had
  other-front : (x : Twin) → Has ds x → children u x.copy ≡ children t x.copy
  other-front x m = g.children x.copy (h.each x (Has-append_left ds (w ∷ rs) x m)).copy_live
      (front-differs (λ z. z.copy) ds rs w h.copies x m)

  other-back : (x : Twin) → Has rs x → children u x.copy ≡ children t x.copy
  other-back x m = g.children x.copy (h.each x (Has-append_right ds (w ∷ rs) x (inr m))).copy_live
      (back-differs (λ z. z.copy) ds rs w h.copies x m)

  twin-old : (x : Twin) → IsTwin s t x → IsTwin s u x
  twin-old x e = record {
    live = e.live;
    copy_live = g.keeps.live x.copy e.copy_live;
    new = e.new;
    holds = holds-later s t u g.keeps x.node x.copy e.copy_live e.holds;
  }

  twin-new : (x : Twin) → Has vs x → IsTwin s u x
  twin-new x m =
      let e = each x m in
      let live = h.forest.child_live w.node x.node (is-child x m) in
      record {
        live = live;
        copy_live = e.copy_live;
        new = bool-false (is_live s x.copy) (λ l. true≢false (sym (h.made.keeps.live x.copy l) ∙ e.new));
        holds = holds-before s t u h.made.keeps x.node x.copy live e.holds;
      }

  distinct : (f : Twin → IRNode) → Distinct (map f (ds ++ w ∷ rs)) → Distinct (map f vs)
      → ((n : IRNode) → Has (map f (ds ++ w ∷ rs)) n → Has (map f vs) n → ⊥) → Distinct (map f after)
  distinct f a b c =
      subst Distinct (sym (ap (map f) same ∙ map-append f (ds ++ w ∷ rs) vs))
      (Distinct-append (map f (ds ++ w ∷ rs)) (map f vs) a b c)

  whole-next : (x : Twin) → Has (ds ++ w ∷ []) x → AreTogether after (children s x.node) (children u x.copy)
  whole-next x m =
      elim (Has-append_cases ds (w ∷ []) x m) [
        | inl a ↦ (let r = h.whole x a in (r.0, (λ y k. in_after y (r.1 y k)), r.2, r.3 ∙ sym (other-front x a)))
        | inr b ↦ elim b [
          | inl e ↦ (vs, new_after, children_s ∙ ap (λ z. children s z.node) e, copies ∙ ap (λ z. children u z.copy) e)
          | inr k ↦ absurd k
        ]
      ]

  bare-next : (x : Twin) → Has (rs ++ vs) x → children u x.copy ≡ []
  bare-next x m = elim (Has-append_cases rs vs x m) [
    | inl a ↦ other-back x a ∙ h.bare x (inr a)
    | inr b ↦ leaves x b
  ]

  over-next : (x : Twin) → Has after x → (x.node ≡ root) ⊎ ((v : Twin) × Has (ds ++ w ∷ []) v ×
      (parent_of s x.node ≡ Some v.node))
  over-next x m = elim (after-cases x m) [
    | inl a ↦ elim (h.over x a) [
      | inl e ↦ inl e
      | inr v ↦ inr (v.0, Has-append_left ds (w ∷ []) v.0 v.1, v.2)
    ]
    | inr b ↦ inr (w, Has-append_right ds (w ∷ []) w (inl refl), parent x b)
  ]

  come-next : HaveCome s.nodes u.nodes (count_of (nodes_of after))
  come-next =
      subst (λ l. HaveCome s.nodes u.nodes (count_of l))
      (sym (ap nodes_of same ∙ map-append (λ z. z.node) (ds ++ w ∷ rs) vs))
      (come_both s.nodes t.nodes u.nodes (nodes_of (ds ++ w ∷ rs)) (nodes_of vs) h.come
      (subst (λ l. HaveCome t.nodes u.nodes (count_of l)) (sym nodes) come))

  pub copying-next : IsCopying s u root copy (ds ++ w ∷ []) (rs ++ vs)
  unfolding after
  copying-next = record {
    growth = h.growth;
    forest = h.forest;
    measured = h.measured;
    made = h.growth.made t.nodes u.nodes copy w.copy stored h.made here.copy_live here.new g;
    types = types ∙ h.types;
    first = in_after (record { node = root; copy = copy }) h.first;
    nodes = distinct (λ z. z.node) h.nodes (subst Distinct (sym children_s) (h.forest.once w.node)) fresh;
    copies = distinct (λ z. z.copy) h.copies (subst Distinct (sym copies) (forest.once w.copy)) fresh_copy;
    each = λ x m. elim (after-cases x m) [ inl a ↦ twin-old x (h.each x a) | inr b ↦ twin-new x b ];
    below = λ x m. elim (after-cases x m) [
      | inl a ↦ h.below x a
      | inr b ↦ one_up s w.node x.node root (parent x b) (h.below w (Has-mid ds rs w))
    ];
    whole = whole-next;
    bare = bare-next;
    over = over-next;
    come = come-next;
  }
