use Rattle.std.proofs.Common.{◌≡◌, ◌≢◌, zero, Bool, true, false, cond, List, [], ◌∷◌, ◌++◌, Some, inl, inr, refl, sym}
use Rattle.std.proofs.Common.{ap, subst, ◌∙◌, append_assoc}
use Rattle.std.proofs.lemmas.List.{append-nil}
use Rattle.plir_walk.specs.AsRead.{children_at, children_by, tree_read}
use Rattle.plir_walk.specs.Calls.{Call, nodes_of}
use Rattle.plir_walk.specs.Config.{AllPost, direction_of, order_of}
use Rattle.plir_store.specs.Members.{Distinct, Has, head}
use Rattle.plir_walk.specs.Tree.{Tree, same}
use Rattle.plir_walk.specs.declared.config.Order.{Order}
use Rattle.plir_walk.specs.declared.config.Order.TheVariants.{PostOrder, PreOrder}
use Rattle.plir_walk.specs.declared.config.WalkConfig.{WalkConfig}
use Rattle.plir_core.specs.Above.{Reaches}
use Rattle.plir_core.specs.declared.ptr.IRNode.{IRNode}
use Rattle.plir_core.specs.Forest.{IsBelow, IsForest, Shape}
use Rattle.plir_store.specs.MemberLaws.{Has-append_right}
use Rattle.plir_walk.specs.Step.{after, taken}
use Rattle.plir_walk.proofs.Climbs.{IsBelow-Reaches, child-below}
use Rattle.plir_walk.proofs.Groves.{Grove, Has-taken, Reads, Reads-beside, beside, first, flat, flat-beside, grow, last}
use Rattle.plir_walk.proofs.Groves.{leaf, no-both, roots}
use Rattle.plir_walk.proofs.Nodes.{after-at, same_tells}
use Rattle.plir_walk.proofs.Steps.{Fits, Frame, Path, frame-distinct, frame-child, frame-parent, so_far, top, under}

-- the tree as the calls read it

pub cond-split : {A : Type 0} (b : Bool) (x y z : A) → (b ≡ true → x ≡ z) → (b ≡ false → y ≡ z) → cond b x y ≡ z
cond-split true x y z p q = p refl
cond-split false x y z p q = q refl

pub nodes-append : {C S B : Type 0} (xs ys : List (Call C S B)) → nodes_of (xs ++ ys) ≡ nodes_of xs ++ nodes_of ys
nodes-append [] ys = refl
nodes-append (x ∷ xs) ys = ap (λ v. x.node ∷ v) (nodes-append xs ys)

pub told-side : (x y z g : List IRNode) (ns : List IRNode) → (x ++ (y ++ z)) ++ g ≡ ns → x ++ (y ++ (z ++ g)) ≡ ns
told-side x y z g ns h = (simp append_assoc at h)

pub side-roots : (d : Grove) (c : IRNode) (o : Order) (b : Grove) (td : List IRNode) → roots
    (beside d (grow c o b leaf)) ++ td ≡ roots d ++ c ∷ td
side-roots leaf c o b td = refl
side-roots (grow n p x y) c o b td = ap (λ v. n ∷ v) (side-roots y c o b td)

-- the tree u, with nothing below a PreOrder node whose call answered Skip
abbrev pub cut : {C S B : Type 0} → WalkConfig → List (Call C S B) → Tree → Tree
cut w [] u n = u n
cut w (x ∷ xs) u n = cond (same x.node n) (children_by (order_of w n) x.answer (u n) (u n)) (cut w xs u n)

pub cut-same : (w : WalkConfig) {C S B : Type 0} (xs : List (Call C S B)) (u v : Tree) (n : IRNode) → u n ≡ v n → cut w
    xs u n ≡ cut w xs v n
cut-same w [] u v n h = h
cut-same w (x ∷ xs) u v n h = (let p = cut-same w xs u v n h in rw (h, p) refl)

pub cut-called : (w : WalkConfig) {C S B : Type 0} (xs ys : List (Call C S B)) (u : Tree) (n : IRNode) → Has
    (nodes_of xs) n → cut w (xs ++ ys) u n ≡ cut w xs u n
cut-called w [] ys u n h = absurd h
cut-called w (x ∷ xs) ys u n h = elim (same_tells x.node n) [
  | inl k ↦ rw k.0 refl
  | inr k ↦ rw k.0 (elim h [ inl g ↦ absurd (k.1 g) | inr g ↦ cut-called w xs ys u n g ])
]

pub cut-fresh : (w : WalkConfig) {C S B : Type 0} (xs : List (Call C S B)) (u : Tree) (n : IRNode) →
    (Has (nodes_of xs) n → ⊥) → cut w xs u n ≡ u n
cut-fresh w [] u n h = refl
cut-fresh w (x ∷ xs) u n h = elim (same_tells x.node n) [
  | inl k ↦ absurd (h (inl k.1))
  | inr k ↦ rw k.0 (cut-fresh w xs u n (λ g. h (inr g)))
]

pub cut-new : (w : WalkConfig) {C S B : Type 0} (xs : List (Call C S B)) (x : Call C S B) (u : Tree) →
    (Has (nodes_of xs) x.node → ⊥) → cut w (xs ++ x ∷ []) u x.node ≡ children_by (order_of w x.node) x.answer (u x.node)
    (u x.node)
cut-new w [] x u h = elim (same_tells x.node x.node) [ inl k ↦ rw k.0 refl | inr k ↦ absurd (k.1 refl) ]
cut-new w (y ∷ xs) x u h = elim (same_tells y.node x.node) [
  | inl k ↦ absurd (h (inl k.1))
  | inr k ↦ rw k.0 (cut-new w xs x u (λ g. h (inr g)))
]

module _ {C S B : Type 0} (look : C → Shape) (w : WalkConfig) where
  pub read-called : (xs ys : List (Call C S B)) (e e' : C) (n : IRNode) → Has (nodes_of xs) n → tree_read look w
      (xs ++ ys) e' n ≡ tree_read look w xs e n
  read-called [] ys e e' n h = absurd h
  read-called (x ∷ xs) ys e e' n h = elim (same_tells x.node n) [
    | inl k ↦ rw k.0 refl
    | inr k ↦ rw k.0 (elim h [ inl g ↦ absurd (k.1 g) | inr g ↦ read-called xs ys e e' n g ])
  ]

  pub read-fresh : (xs : List (Call C S B)) (e : C) (n : IRNode) → (Has (nodes_of xs) n → ⊥) → tree_read look w xs e n ≡
      (look e).children n
  read-fresh [] e n h = refl
  read-fresh (x ∷ xs) e n h = elim (same_tells x.node n) [
    | inl k ↦ absurd (h (inl k.1))
    | inr k ↦ rw k.0 (read-fresh xs e n (λ g. h (inr g)))
  ]

  pub read-new : (xs : List (Call C S B)) (x : Call C S B) (e : C) → (Has (nodes_of xs) x.node → ⊥) → tree_read look w
      (xs ++ x ∷ []) e x.node ≡ children_at look w x
  read-new [] x e h = elim (same_tells x.node x.node) [ inl k ↦ rw k.0 refl | inr k ↦ absurd (k.1 refl) ]
  read-new (y ∷ xs) x e h = elim (same_tells y.node x.node) [
    | inl k ↦ absurd (h (inl k.1))
    | inr k ↦ rw k.0 (read-new xs x e (λ g. h (inr g)))
  ]

module _ {C S B : Type 0} (look : C → Shape) (w : WalkConfig) (base : Tree) where
  -- What holds at each stage of the walk, of the calls so far, the context, the root and the cursor.

  pub record Entering (xs : List (Call C S B)) (e : C) (r c : IRNode) : Type 0 where
    pub path : Path
    pub fits : Fits w (look e) base (tree_read look w xs e) r (nodes_of xs) path c
    pub told : so_far path ≡ nodes_of xs
    pub live : (look e).live c ≡ true
    pub fresh : (x : IRNode) → Reaches (look e).parent x c → Has (nodes_of xs) x → ⊥
    pub given : (x : IRNode) → Has (nodes_of xs) x → (look e).given x ≡ true
    pub distinct : Distinct (nodes_of xs)
    pub base_done : AllPost w → (x : IRNode) → Has (nodes_of xs) x → tree_read look w xs e x ≡ base x
    pub base_here : AllPost w → (x : IRNode) → Reaches (look e).parent x c → (look e).children x ≡ base x

  -- the cursor was entered, and its children come next
  pub record Opening (xs : List (Call C S B)) (e : C) (r c : IRNode) : Type 0 where
    pub path : Path
    pub fits : Fits w (look e) base (tree_read look w xs e) r (nodes_of xs) path c
    pub o : Order
    pub order_is : o ≡ (order_of w c)
    pub now : (look e).children c ≡ tree_read look w xs e c
    pub told : so_far path ++ first o c ≡ nodes_of xs
    pub live : (look e).live c ≡ true
    pub fresh : (x : IRNode) → IsBelow (look e) c x → Has (nodes_of xs) x → ⊥
    pub post_fresh : o ≡ PostOrder → Has (nodes_of xs) c → ⊥
    pub given : (x : IRNode) → Has (nodes_of xs) x → (look e).given x ≡ true
    pub distinct : Distinct (nodes_of xs)
    pub base_done : AllPost w → (x : IRNode) → Has (nodes_of xs) x → tree_read look w xs e x ≡ base x
    pub base_here : AllPost w → (x : IRNode) → Reaches (look e).parent x c → (look e).children x ≡ base x

  -- what is below the cursor was walked
  pub record Leaving (xs : List (Call C S B)) (e : C) (r c : IRNode) : Type 0 where
    pub path : Path
    pub fits : Fits w (look e) base (tree_read look w xs e) r (nodes_of xs) path c
    pub o : Order
    pub b : Grove
    pub order_is : o ≡ (order_of w c)
    pub children_are : roots b ≡ taken (direction_of w c) (tree_read look w xs e c)
    pub read : Reads w (tree_read look w xs e) b
    pub now : (look e).children c ≡ tree_read look w xs e c
    pub told : so_far path ++ (first o c ++ flat b) ≡ nodes_of xs
    pub live : (look e).live c ≡ true
    pub post_fresh : o ≡ PostOrder → Has (nodes_of xs) c → ⊥
    pub given : (x : IRNode) → Has (nodes_of xs) x → (look e).given x ≡ true
    pub distinct : Distinct (nodes_of xs)
    pub base_done : AllPost w → (x : IRNode) → Has (nodes_of xs) x → tree_read look w xs e x ≡ base x
    pub base_here : AllPost w → (look e).children c ≡ base c

  -- the cursor and what is below it were walked
  pub record Closing (xs : List (Call C S B)) (e : C) (r c : IRNode) : Type 0 where
    pub path : Path
    pub fits : Fits w (look e) base (tree_read look w xs e) r (nodes_of xs) path c
    pub o : Order
    pub b : Grove
    pub read : Reads w (tree_read look w xs e) (grow c o b leaf)
    pub told : so_far path ++ flat (grow c o b leaf) ≡ nodes_of xs
    pub live : (look e).live c ≡ true
    pub given : (x : IRNode) → Has (nodes_of xs) x → (look e).given x ≡ true
    pub distinct : Distinct (nodes_of xs)
    pub base_done : AllPost w → (x : IRNode) → Has (nodes_of xs) x → tree_read look w xs e x ≡ base x

  -- steps with no call

  pub start : (e : C) (r : IRNode) → (look e).live r ≡ true → ((x : IRNode) → (look e).children x ≡ base x) → Entering
      [] e r r
  start e r v same = record {
    path = top;
    fits = refl;
    told = refl;
    live = v;
    fresh = λ x h k. k;
    given = λ x h. absurd
        h;
    distinct = tt;
    base_done = λ all x h. absurd h;
    base_here = λ all x b. same x;
  }

  pub pass-enter : (xs : List (Call C S B)) (e : C) (r c : IRNode) → Entering xs e r c → order_of w c ≡ PostOrder →
      Opening xs e r c
  pass-enter xs e r c h o =
      let un : Has (nodes_of xs) c → ⊥ = h.fresh c (zero, refl) in
      let k : tree_read look w xs e c ≡ (look e).children c = read-fresh look w xs e c un in
      record {
        path = h.path;
        fits = h.fits;
        o = PostOrder;
        order_is = sym o;
        now = sym k;
        told = append-nil (so_far h.path) ∙ h.told;
        live = h.live;
        fresh = λ x b z. h.fresh x (IsBelow-Reaches (look e) c x b) z;
        post_fresh = λ z. un;
        given = h.given;
        distinct = h.distinct;
        base_done = h.base_done;
        base_here = h.base_here;
      }

  pub pass-leave : (xs : List (Call C S B)) (e : C) (r c : IRNode) → Leaving xs e r c → order_of w c ≡ PreOrder →
      Closing xs e r c
  pass-leave xs e r c h o =
      let k : h.o ≡ PreOrder = h.order_is ∙ o in
      record {
        path = h.path;
        fits = h.fits;
        o = h.o;
        b = h.b;
        read = (h.order_is, h.children_are, h.read, tt);
        told = ap (λ v. so_far h.path ++ v) (pre-flat h.o c h.b k) ∙ h.told;
        live = h.live;
        given = h.given;
        distinct = h.distinct;
        base_done = h.base_done;
      }
    where
      pre-flat : (o : Order) (c : IRNode) (b : Grove) → o ≡ PreOrder → first o c ++ (flat b ++ (last o c ++ [])) ≡ first
          o c ++ flat b
      pre-flat PreOrder c b k = ap (λ v. c ∷ v) (append-nil (flat b))
      pre-flat PostOrder c b k = absurd (no-both PostOrder k refl)

  pub down : (xs : List (Call C S B)) (e : C) (f : IsForest (look e)) (r c : IRNode) → Opening xs e r c
      → (k : IRNode) (rest : List IRNode) → taken (direction_of w c) ((look e).children c) ≡ k ∷ rest → Entering xs e r
      k
  down xs e f r c h k rest g =
      let s : Shape = look e in
      let g' : k ∷ rest ≡ taken (direction_of w c) (tree_read look w xs e c) = rw (← h.now) (sym g) in
      let child = λ (n : IRNode) (z : Has (k ∷ rest) n). Has-taken (direction_of w c) (s.children c) n
      (subst (λ (v : List IRNode). Has v n) (sym g) z) in
      record {
        path = under c h.o leaf rest h.path;
        fits = (
          record {
            order_is = h.order_is;
            children_are = g';
            read = tt;
            now = h.now;
            live = h.live;
            fresh = h.post_fresh;
            ahead = λ y x z b u. h.fresh x (child-below s c y x (f.child_parent c y (child y (inr z))) b) u;
            base_at = λ all. h.base_here all c (zero, refl);
            base_ahead = λ all y x z b. h.base_here all x (IsBelow-Reaches s c x
                (child-below s c y x (f.child_parent c y (child y (inr z))) b));
          },
          h.fits,
        );
        told = ap (λ v. so_far h.path ++ v) (append-nil (first h.o c)) ∙ h.told;
        live = f.child_live c k (child k (inl refl));
        fresh = λ x b u. h.fresh x (child-below s c k x (f.child_parent c k (child k (inl refl))) b) u;
        given = h.given;
        distinct = h.distinct;
        base_done = h.base_done;
        base_here = λ all x b. h.base_here all x (IsBelow-Reaches s c x (child-below s c k x
            (f.child_parent c k (child k (inl refl))) b));
      }

  pub bottom : (xs : List (Call C S B)) (e : C) (r c : IRNode) → Opening xs e r c
      → taken (direction_of w c) ((look e).children c) ≡ [] → Leaving xs e r c
  bottom xs e r c h g = record {
    path = h.path;
    fits = h.fits;
    o = h.o;
    b = leaf;
    order_is = h.order_is;
    children_are = rw (← h.now) (sym g);
    read = tt;
    now = h.now;
    told = ap (λ v. so_far h.path ++ v) (append-nil (first h.o c)) ∙ h.told;
    live = h.live;
    post_fresh = h.post_fresh;
    given = h.given;
    distinct = h.distinct;
    base_done = h.base_done;
    base_here = λ all. h.base_here all c (zero, refl);
  }

  -- Above the cursor stands its parent, unless it is the root.
  pub not-root : (xs : List (Call C S B)) (e : C) (f : IsForest (look e)) (r c : IRNode) → Closing xs e r c → c ≢ r
      → (a : IRNode) × ((look e).parent c ≡ Some a) × (td : List IRNode) × (after c
      (taken (direction_of w a) ((look e).children a)) ≡ head td)
      × (((k : IRNode) (rest : List IRNode) → td ≡ k ∷ rest → Entering xs e r k) × (td ≡ [] → Leaving xs e r a))
  not-root xs e f r c h ne = go h.path h.fits h.told
    where
      go : (path : Path) → Fits w (look e) base (tree_read look w xs e) r (nodes_of xs) path c → so_far path ++ flat
          (grow c h.o h.b leaf) ≡ nodes_of xs
          → (a : IRNode) × ((look e).parent c ≡ Some a) × (td : List IRNode) × (after c
          (taken (direction_of w a) ((look e).children a)) ≡ head td)
          × (((k : IRNode) (rest : List IRNode) → td ≡ k ∷ rest → Entering xs e r k) × (td ≡ [] → Leaving xs e r a))
      go top fits told = absurd (ne fits)
      go (under a o d td u) fits told =
          let t : Tree = tree_read look w xs e in
          let ns : List IRNode = nodes_of xs in
          let g : Grove = grow c h.o h.b leaf in
          let fr : Frame w (look e) base t ns a o d td c = fits.0 in
          let read : Reads w t (beside d g) = Reads-beside w t d g fr.read h.read in
          let told' : so_far u ++ (first o a ++ flat (beside d g)) ≡ ns = rw (flat-beside d g)
          (told-side (so_far u) (first o a) (flat d) (flat g) ns told) in
          let dis = frame-distinct w (look e) f base t ns a o d td c fr in
          let is : taken (direction_of w a) ((look e).children a) ≡ roots d ++ c ∷ td = ap (taken (direction_of w a))
          fr.now ∙ sym fr.children_are in (
            a,
            frame-parent w (look e) f base t ns a o d td c fr,
            td,
            rw is (after-at (roots d) c td dis),
            (
              λ k rest z.
                  (let kd : Has (roots d ++ c ∷ td) k = rw z (Has-append_right (roots d) (c ∷ k ∷ rest) k
                  (inr (inl refl))) in
                  record {
                    path = under a o (beside d g) rest u;
                    fits = (
                      record {
                        order_is = fr.order_is;
                        children_are = side-roots d c h.o h.b (k ∷ rest) ∙ (rw (← z) fr.children_are);
                        read = read;
                        now = fr.now;
                        live = fr.live;
                        fresh = fr.fresh;
                        ahead = λ y x m. fr.ahead y x (rw z (inr m));
                        base_at = fr.base_at;
                        base_ahead = λ all y x m. fr.base_ahead all y x (rw z (inr m));
                      },
                      fits.1,
                    );
                    told = told';
                    live = f.child_live a k (frame-child w (look e) base t ns a o d td c fr k kd);
                    fresh = λ x b. fr.ahead k x (rw z (inl refl)) b;
                    given = h.given;
                    distinct = h.distinct;
                    base_done = h.base_done;
                    base_here = λ all x b. fr.base_ahead all k x (rw z (inl refl)) b;
                  }),
              λ z. record {
                path = u;
                fits = fits.1;
                o = o;
                b = beside d g;
                order_is = fr.order_is;
                children_are = sym (append-nil (roots (beside d g))) ∙ (side-roots d c h.o h.b [] ∙
                    (rw (← z) fr.children_are));
                read = read;
                now = fr.now;
                told = told';
                live = fr.live;
                post_fresh = fr.fresh;
                given = h.given;
                distinct = h.distinct;
                base_done = h.base_done;
                base_here = fr.base_at;
              },
            ),
          )
