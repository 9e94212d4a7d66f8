-- How the children of a node are copied, one after another.
use Rattle.std.proofs.Common.{◌+◌, ◌-◌, ◌<◌, length, length-append, suc, arith}
use Rattle.std.proofs.Common.{◌≡◌, ◌∙◌, Bool, true, false, true≢false, cond, List, [], ◌∷◌, ◌++◌, map}
use Rattle.std.proofs.Common.{Option, Some, None, inl, inr, refl, sym, ap, subst, append_assoc}
use Rattle.std.proofs.lemmas.Option.{same_Some, none-some}
use Rattle.plir_store.specs.Members.{Has, head}
use Rattle.plir_store.specs.MemberLaws.{Has-append_cases, Has-mid, Has-map}
use Rattle.plir_core.specs.declared.ptr.IRNode.{IRNode}
use Rattle.plir_core.specs.declared.ptr.IRNode.TheVariants.{Operation, Region, BasicBlock}
use Rattle.plir_core.specs.Nodes.{region_node, block_node, op_node, nodes_under, was_given_out}
use Rattle.plir_core.specs.ContextView.{ContextView, IsLive, is_live, children}
use Rattle.plir_core.specs.Changes.{SameLive}
use Rattle.plir_core.specs.Forest.{look, IsForest}
use Rattle.plir_core.specs.Grown.{Growth, IsGrown}
use Rattle.plir_core.specs.Stored.{IsStored}
use Rattle.plir_core.specs.Room.{IsFullFor, HaveCome}
use Rattle.plir_core.specs.RoomLaws.{come_itself}
use Rattle.plir_copies.specs.declared.trees.Twin.{Twin}
use Rattle.plir_copies.specs.Twins.{nodes_of, copies_of, AreOfOneKind, CanStandUnder, HoldsAs, IsTwin, IsAddedLast}
use Rattle.plir_copies.specs.Twins.{AreChildrenCopied}
use Rattle.plir_copies.specs.Room.{one_like, count_of}
use Rattle.plir_copies.proofs.Keeping.{keeps-same}
use Rattle.plir_copies.proofs.RoomLaws.{come_both, come_one, full_part}
use Rattle.plir_copies.proofs.Twins.{map-append, holds-later, holds-before}

bool-false : (b : Bool) → (b ≡ true → ⊥) → b ≡ false
bool-false true h = absurd (h refl)
bool-false false h = refl

has-chosen : {X : Type 0} (b : Bool) (xs : List X) (x : X) → Has (cond b xs []) x → Has xs x
has-chosen true xs x h = h
has-chosen false xs x h = absurd h

module _ {K A T : Type 0} (s : ContextView K A T) where
  -- a child can stand under its parent
  under : (n x : IRNode) → Has (nodes_under s.nodes n) x → CanStandUnder x n
  under (Operation p) (Region q) h = tt
  under (Region p) (BasicBlock q) h = tt
  under (BasicBlock p) (Operation q) h = tt
  under (Operation p) (Operation q) h = let r = Has-map (region_node s.nodes) _ (Operation q) h in let e = r.1.1 in cc
  under (Operation p) (BasicBlock q) h = let r = Has-map (region_node s.nodes) _ (BasicBlock q) h in let e = r.1.1 in cc
  under (Region p) (Operation q) h = let r = Has-map (block_node s.nodes) _ (Operation q) h in let e = r.1.1 in cc
  under (Region p) (Region q) h = let r = Has-map (block_node s.nodes) _ (Region q) h in let e = r.1.1 in cc
  under (BasicBlock p) (Region q) h = let r = Has-map (op_node s.nodes) _ (Region q) h in let e = r.1.1 in cc
  under (BasicBlock p) (BasicBlock q) h = let r = Has-map (op_node s.nodes) _ (BasicBlock q) h in let e = r.1.1 in cc

  pub child-under : (n x : IRNode) → Has (children s n) x → CanStandUnder x n
  child-under n x h = under n x (has-chosen (is_live s n) (nodes_under s.nodes n) x h)

-- and under what is of its parent's kind
pub under-alike : (x n c : IRNode) → AreOfOneKind n c → CanStandUnder x n → CanStandUnder x c
under-alike (Operation x) (BasicBlock p) (BasicBlock q) k h = tt
under-alike (BasicBlock x) (Region p) (Region q) k h = tt
under-alike (Region x) (Operation p) (Operation q) k h = tt
under-alike (Operation x) (Operation p) c k h = absurd h
under-alike (Operation x) (Region p) c k h = absurd h
under-alike (BasicBlock x) (BasicBlock p) c k h = absurd h
under-alike (BasicBlock x) (Operation p) c k h = absurd h
under-alike (Region x) (Region p) c k h = absurd h
under-alike (Region x) (BasicBlock p) c k h = absurd h
under-alike (Operation x) (BasicBlock p) (Operation q) k h = absurd k
under-alike (Operation x) (BasicBlock p) (Region q) k h = absurd k
under-alike (BasicBlock x) (Region p) (Operation q) k h = absurd k
under-alike (BasicBlock x) (Region p) (BasicBlock q) k h = absurd k
under-alike (Region x) (Operation p) (Region q) k h = absurd k
under-alike (Region x) (Operation p) (BasicBlock q) k h = absurd k

module _ {K A T : Type 0} where
  -- where nothing has changed, nothing has grown
  pub grown-none : (s : ContextView K A T) (over : IRNode) → IsGrown s.nodes s.nodes over
  grown-none s over = record {
    keeps = keeps-same s.nodes;
    children = λ m l n. refl;
    below = λ m l n. absurd (true≢false (sym l ∙ n));
    fresh = λ m l n. absurd (true≢false (sym l ∙ n));
  }

  pub grown-same : (s t : ContextView K A T) (over : IRNode) → SameLive s t
      → ((n : IRNode) → was_given_out s.nodes n ≡ true → was_given_out t.nodes n ≡ true)
      → IsGrown s.nodes t.nodes over
  grown-same s t over e given = record {
    keeps = record {
      live = λ m l. e.nodes.live m ∙ l;
      parents = λ m l. e.nodes.parents m;
      ops = e.nodes.ops;
      blocks = e.nodes.blocks;
      given = given;
      limit = e.nodes.limit;
    };
    children = λ m l n. e.nodes.children m;
    below = λ m l n. absurd (true≢false (sym l ∙ (e.nodes.live m ∙ n)));
    fresh = λ m l n. absurd (true≢false (sym l ∙ (e.nodes.live m ∙ n)));
  }

-- From s to t the children of n that stand before `rest` have been copied, the next of which is `next`.
pub record AreSomeCopied {K A T : Type 0} (s t : ContextView K A T) (n c : IRNode) (before now : List Twin)
    (next : Option IRNode) : Type 0 where
  pub twins : List Twin
  pub rest : List IRNode
  pub listed : now ≡ before ++ twins
  pub nodes : nodes_of twins ++ rest ≡ children s n
  pub next_is : next ≡ head rest
  pub copies : copies_of twins ≡ children t c
  pub each : (w : Twin) → Has twins w → IsTwin s t w
  pub leaves : (w : Twin) → Has twins w → children t w.copy ≡ []
  pub grown : IsGrown s.nodes t.nodes c
  pub types : t.types ≡ s.types
  pub stored : IsStored t.nodes
  pub come : HaveCome s.nodes t.nodes (count_of (nodes_of twins))

append-none : {X : Type 0} (xs : List X) → xs ++ [] ≡ xs
append-none [] = refl
append-none (x ∷ xs) = ap (λ zs. x ∷ zs) (append-none xs)

-- the first of a list, if there is one
head-of : {X : Type 0} (xs : List X) (x : X) → head xs ≡ Some x → (ys : List X) × (xs ≡ x ∷ ys)
head-of [] x e = absurd (none-some x e)
head-of (y ∷ ys) x e = (ys, ap (λ z. z ∷ ys) (same_Some y x e))

length-map : {X Y : Type 0} (f : X → Y) (xs : List X) → length (map f xs) ≡ length xs
length-map f [] = refl
length-map f (x ∷ xs) = ap suc (length-map f xs)

head-none : {X : Type 0} (xs : List X) → head xs ≡ None → xs ≡ []
head-none [] e = refl
head-none (y ∷ ys) e = absurd (none-some y (sym e))

module _ {K A T : Type 0} (s : ContextView K A T) (n c : IRNode) (ws : List Twin) where
  pub some-none : (next : Option IRNode) → next ≡ head (children s n) → children s c ≡ [] → IsStored s.nodes
      → AreSomeCopied s s n c ws ws next
  some-none next e leaf stored = record {
    twins = [];
    rest = children s n;
    listed = sym (append-none ws);
    nodes = refl;
    next_is = e;
    copies = sym leaf;
    each = λ w h. absurd h;
    leaves = λ w h. absurd h;
    grown = grown-none s c;
    types = refl;
    stored = stored;
    come = come_itself s.nodes;
  }

  module _ (t : ContextView K A T) (now : List Twin) where
    -- the next child
    pub next-child : (next : Option IRNode) (h : AreSomeCopied s t n c ws now next) (x : IRNode) → next ≡ Some x
        → (ys : List IRNode) × (children s n ≡ nodes_of h.twins ++ x ∷ ys)
    next-child next h x e =
        let r = head-of h.rest x (sym h.next_is ∙ e) in
        (r.0, sym h.nodes ∙ ap (λ zs. nodes_of h.twins ++ zs) r.1)

    pub is-child : (next : Option IRNode) → AreSomeCopied s t n c ws now next → (x : IRNode) → next ≡ Some x
        → Has (children s n) x
    is-child next h x e =
        let r = next-child next h x e in subst (λ l. Has l x) (sym r.1) (Has-mid (nodes_of h.twins) r.0 x)

    -- how many are left
    pub fewer-left : (next : Option IRNode) → AreSomeCopied s t n c ws now next → (x y : IRNode) → next ≡ Some x
        → length (children s n) - (length (now ++ record { node = x; copy = y } ∷ []) - length ws)
        < length (children s n) - (length now - length ws)
    fewer-left next h x y e =
        let r = next-child next h x e in
        let all : length (children s n) ≡ length h.twins + suc (length r.0) =
        ap length r.1 ∙ length-append (nodes_of h.twins) (x ∷ r.0) ∙ ap (λ k. k + suc (length r.0)) (length-map (λ w. w.node) h.twins) in
        let here : length now ≡ length ws + length h.twins = ap length h.listed ∙ length-append ws h.twins in
        let more : length (now ++ record { node = x; copy = y } ∷ []) ≡ length now + 1 =
        length-append now (record { node = x; copy = y } ∷ []) in
        omega (arith, all, here, more)

    -- none is left
    pub all-copied : (next : Option IRNode) → AreSomeCopied s t n c ws now next → next ≡ None
        → AreChildrenCopied s t n c ws now
    all-copied next h e = record {
      twins = h.twins;
      listed = h.listed;
      nodes = sym (append-none (nodes_of h.twins))
          ∙ ap (λ zs. nodes_of h.twins ++ zs) (sym (head-none h.rest (sym h.next_is ∙ e))) ∙ h.nodes;
      copies = h.copies;
      each = h.each;
      leaves = h.leaves;
    }

    -- and then as many nodes have come as the node has children
    pub all-come : (next : Option IRNode) → AreSomeCopied s t n c ws now next → next ≡ None
        → HaveCome s.nodes t.nodes (count_of (children s n))
    all-come next h e =
        subst (λ l. HaveCome s.nodes t.nodes (count_of l)) (sym (append-none (nodes_of h.twins))
        ∙ ap (λ zs. nodes_of h.twins ++ zs) (sym (head-none h.rest (sym h.next_is ∙ e))) ∙ h.nodes) h.come

    -- the next one has no room
    pub full-here : (next : Option IRNode) → AreSomeCopied s t n c ws now next → (x : IRNode) → next ≡ Some x
        → IsFullFor t.nodes (one_like x) → IsFullFor s.nodes (count_of (children s n))
    full-here next h x e full =
        let r = next-child next h x e in
        subst (λ l. IsFullFor s.nodes (count_of l)) (sym r.1)
        (full_part s.nodes t.nodes (nodes_of h.twins) r.0 x h.come full)

    -- and one more
    module _ (u : ContextView K A T) (growth : Growth s.nodes) (forest : IsForest (look s)) (n_live : IsLive s n)
        (c_live : IsLive s c) (next : Option IRNode) (h : AreSomeCopied s t n c ws now next) (x y : IRNode)
        (is : next ≡ Some x) (added : IsAddedLast t.nodes u.nodes c y) (holds : HoldsAs t u x y)
        (grown : IsGrown t.nodes u.nodes c) (types : u.types ≡ t.types) (stored : IsStored u.nodes)
        (come : HaveCome t.nodes u.nodes (one_like x)) where
      twin : Twin
      twin = record { node = x; copy = y }

      in_children : Has (children s n) x
      in_children =
          let r = next-child next h x is in subst (λ l. Has l x) (sym r.1) (Has-mid (nodes_of h.twins) r.0 x)

      new : is_live s y ≡ false
      new = bool-false (is_live s y) (λ l. true≢false (sym (h.grown.keeps.live y l) ∙ added.added.new))

      pub some-next : (after : Option IRNode)
          → ((xs ys : List IRNode) → children u n ≡ xs ++ x ∷ ys → after ≡ head ys) → children u n ≡ children t n
          → children t n ≡ children s n
          → AreSomeCopied s u n c ws (now ++ record { node = x; copy = y } ∷ []) after
      some-next after behind same_u same_t =
          let r = next-child next h x is in
          let live = forest.child_live n x in_children in
          record {
            twins = h.twins ++ record { node = x; copy = y } ∷ [];
            rest = r.0;
            listed = ap (λ l. l ++ record { node = x; copy = y } ∷ []) h.listed
                ∙ append_assoc ws h.twins (record { node = x; copy = y } ∷ []);
            nodes = ap (λ l. l ++ r.0) (map-append (λ w. w.node) h.twins (record { node = x; copy = y } ∷ []))
                ∙ append_assoc (nodes_of h.twins) (x ∷ []) r.0 ∙ sym r.1;
            next_is = behind (nodes_of h.twins) r.0 (same_u ∙ same_t ∙ r.1);
            copies = map-append (λ w. w.copy) h.twins (record { node = x; copy = y } ∷ [])
                ∙ ap (λ l. l ++ y ∷ []) h.copies ∙ sym added.last;
            each = λ w k. elim (Has-append_cases h.twins (record { node = x; copy = y } ∷ []) w k) [
              | inl a ↦ (let e = h.each w a in record {
                live = e.live;
                copy_live = added.added.keeps.live w.copy e.copy_live;
                new = e.new;
                holds = holds-later s t u added.added.keeps w.node w.copy e.copy_live e.holds;
              })
              | inr b ↦ elim b [
                | inl e ↦ subst (IsTwin s u) e (record {
                  live = live;
                  copy_live = added.added.added;
                  new = new;
                  holds = holds-before s t u h.grown.keeps x y live holds;
                })
                | inr k ↦ absurd k
              ]
            ];
            leaves = λ w k. elim (Has-append_cases h.twins (record { node = x; copy = y } ∷ []) w k) [
              | inl a ↦ added.added.children w.copy (h.each w a).copy_live (λ e.
                  true≢false (sym c_live ∙ ap (is_live s) (same_Some c w.copy e) ∙ (h.each w a).new)) ∙ h.leaves w a
              | inr b ↦ elim b [
                | inl e ↦ ap (λ z. children u z.copy) (sym e) ∙ added.added.leaf
                | inr k ↦ absurd k
              ]
            ];
            grown = growth.twice t.nodes u.nodes c h.stored h.grown grown;
            types = types ∙ h.types;
            stored = stored;
            come = subst (λ l. HaveCome s.nodes u.nodes (count_of l))
                (sym (map-append (λ w. w.node) h.twins (record { node = x; copy = y } ∷ [])))
                (come_both s.nodes t.nodes u.nodes (nodes_of h.twins) (x ∷ []) h.come
                (come_one t.nodes u.nodes x come));
          }
