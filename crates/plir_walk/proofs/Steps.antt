use Rattle.std.proofs.Common.{◌≡◌, ◌≢◌, zero, suc, ◌≤◌, true, List, [], ◌∷◌, ◌++◌, Some, inl, inr, reverse, refl, sym}
use Rattle.std.proofs.Common.{ap, subst, arith, ◌∙◌}
use Rattle.std.proofs.lemmas.List.{reverse-append}
use Rattle.plir_walk.specs.Config.{AllPost, direction_of, order_of}
use Rattle.plir_store.specs.Members.{Distinct, Has}
use Rattle.plir_walk.specs.Tree.{Tree, same}
use Rattle.plir_walk.specs.declared.config.Direction.{Direction}
use Rattle.plir_walk.specs.declared.config.Direction.TheVariants.{Forward, Reverse}
use Rattle.plir_walk.specs.declared.config.Order.{Order}
use Rattle.plir_walk.specs.declared.config.Order.TheVariants.{PostOrder, PreOrder}
use Rattle.plir_walk.specs.declared.config.WalkConfig.{WalkConfig}
use Rattle.plir_core.specs.Above.{Reaches}
use Rattle.plir_core.specs.declared.ptr.IRNode.{IRNode}
use Rattle.plir_core.specs.Forest.{IsBelow, IsForest, Shape}
use Rattle.plir_store.specs.MemberLaws.{Distinct-append, Distinct-one, Distinct-right, Has-append_cases}
use Rattle.plir_store.specs.MemberLaws.{Has-append_left, Has-append_right}
use Rattle.plir_walk.specs.Step.{taken}
use Rattle.plir_walk.specs.Lawful.{Lawful}
use Rattle.plir_walk.proofs.Climbs.{IsBelow-Reaches, apart-kept, below-live, beside-branch, climb-bottom, climb-depth}
use Rattle.plir_walk.proofs.Climbs.{child-below, not-below-itself, same-branch, two-above}
use Rattle.plir_walk.proofs.Groves.{Grove, Has-reverse, Has-taken, Reads, Reads-same, first, flat, roots}
use Rattle.plir_walk.proofs.Heights.{deeper, depth_in}

-- The way from the root to the cursor, the innermost first: an ancestor of the cursor, its order, the trees below it
-- that were walked, and its children that are still to be walked, after the one on the way.
pub data Path : Type 0 where
  top : Path
  under : IRNode → Order → Grove → List IRNode → Path → Path

-- the nodes that were called before the cursor
abbrev pub so_far : Path → List IRNode
so_far top = []
so_far (under a o d td u) = so_far u ++ (first o a ++ flat d)

abbrev pub todo_of : Path → List IRNode
todo_of top = []
todo_of (under a o d td u) = td

pub record Frame (w : WalkConfig) (s : Shape) (base : Tree) (t : Tree) (ns : List IRNode) (a : IRNode) (o : Order)
    (d : Grove) (td : List IRNode) (c : IRNode) : Type 0 where
  pub order_is : o ≡ (order_of w a)
  pub children_are : roots d ++ c ∷ td ≡ taken (direction_of w a) (t a)
  pub read : Reads w t d
  pub now : s.children a ≡ t a
  pub live : s.live a ≡ true
  pub fresh : o ≡ PostOrder → Has ns a → ⊥
  pub ahead : (e x : IRNode) → Has td e → Reaches s.parent x e → Has ns x → ⊥
  pub base_at : AllPost w → s.children a ≡ base a
  pub base_ahead : AllPost w → (e x : IRNode) → Has td e → Reaches s.parent x e → s.children x ≡ base x

abbrev pub Fits : WalkConfig → Shape → Tree → Tree → IRNode → List IRNode → Path → IRNode → Type 0
Fits w s base t r ns top c = c ≡ r
Fits w s base t r ns (under a o d td u) c = Frame w s base t ns a o d td c × Fits w s base t r ns u a

-- lists

pub Distinct-reverse : (xs : List IRNode) → Distinct xs → Distinct (reverse xs)
Distinct-reverse [] d = d
Distinct-reverse (x ∷ xs) d =
    subst (λ (v : List IRNode). Distinct v) (sym (reverse-append (x ∷ []) xs))
    (Distinct-append (reverse xs) (x ∷ []) (Distinct-reverse xs d.1) (Distinct-one x)
    (λ n h k. elim k [ inl e ↦ d.0 (subst (λ (v : IRNode). Has xs v) (sym e) (Has-reverse xs n h)) | inr b ↦ b ]))

pub Distinct-taken : (d : Direction) (xs : List IRNode) → Distinct xs → Distinct (taken d xs)
Distinct-taken Forward xs h = h
Distinct-taken Reverse xs h = Distinct-reverse xs h

-- frames

pub frame-child : (w : WalkConfig) (s : Shape) (base : Tree) (t : Tree) (ns : List IRNode) (a : IRNode) (o : Order)
    (d : Grove) (td : List IRNode) (c : IRNode)
    → Frame w s base t ns a o d td c → (n : IRNode) → Has (roots d ++ c ∷ td) n → Has (s.children a) n
frame-child w s base t ns a o d td c h n k =
    let e : Has (taken (direction_of w a) (t a)) n = subst (λ (v : List IRNode). Has v n) h.children_are k in
    let e' : Has (t a) n = Has-taken (direction_of w a) (t a) n e in
    subst (λ (v : List IRNode). Has v n) (sym h.now) e'

pub frame-parent : (w : WalkConfig) (s : Shape) (f : IsForest s) (base : Tree) (t : Tree) (ns : List IRNode)
    (a : IRNode) (o : Order) (d : Grove) (td : List IRNode) (c : IRNode)
    → Frame w s base t ns a o d td c → s.parent c ≡ Some a
frame-parent w s f base t ns a o d td c h = f.child_parent a c (frame-child w s base t ns a o d td c h c
    (Has-append_right (roots d) (c ∷ td) c (inl refl)))

pub frame-distinct : (w : WalkConfig) (s : Shape) (f : IsForest s) (base : Tree) (t : Tree) (ns : List IRNode)
    (a : IRNode) (o : Order) (d : Grove) (td : List IRNode) (c : IRNode)
    → Frame w s base t ns a o d td c → Distinct (roots d ++ c ∷ td)
frame-distinct w s f base t ns a o d td c h =
    subst (λ (v : List IRNode). Distinct v) (sym h.children_are)
    (Distinct-taken (direction_of w a) (t a) (subst (λ (v : List IRNode). Distinct v) h.now (f.once a)))

-- what is still to do in a frame was not called
pub ahead-of : (w : WalkConfig) (s : Shape) (base : Tree) (t : Tree) (r : IRNode) (ns : List IRNode) (path : Path)
    (c : IRNode) → Fits w s base t r ns path c
    → (e x : IRNode) → Has (todo_of path) e → Reaches s.parent x e → Has ns x → ⊥
ahead-of w s base t r ns top c h e x k b z = k
ahead-of w s base t r ns (under a o d td u) c h e x k b z = h.0.ahead e x k b z

pub base-of : (w : WalkConfig) (s : Shape) (base : Tree) (t : Tree) (r : IRNode) (ns : List IRNode) (path : Path)
    (c : IRNode) → Fits w s base t r ns path c
    → AllPost w → (e x : IRNode) → Has (todo_of path) e → Reaches s.parent x e → s.children x ≡ base x
base-of w s base t r ns top c h all e x k b = absurd k
base-of w s base t r ns (under a o d td u) c h all e x k b = h.0.base_ahead all e x k b

-- the cursor is deeper than the root, but for the root itself
pub path-depth : (w : WalkConfig) (s : Shape) (f : IsForest s) (base : Tree) (t : Tree) (r : IRNode) (ns : List IRNode)
    (path : Path) (c : IRNode) → Fits w s base t r ns path c → depth_in s r ≤ depth_in s c
path-depth w s f base t r ns top c h = rw h (omega arith)
path-depth w s f base t r ns (under a o d td u) c h =
    omega (arith, path-depth w s f base t r ns u a h.1, deeper s f a c (frame-parent w s f base t ns a o d td c h.0))

-- the cursor is the root, or below it
pub path-under : (w : WalkConfig) (s : Shape) (f : IsForest s) (base : Tree) (t : Tree) (r : IRNode) (ns : List IRNode)
    (path : Path) (c : IRNode) → Fits w s base t r ns path c → Reaches s.parent c r
path-under w s f base t r ns top c h = (zero, ap Some h)
path-under w s f base t r ns (under a o d td u) c h =
    let z = path-under w s f base t r ns u a h.1 in
    (suc z.0, climb-bottom s z.0 c a (frame-parent w s f base t ns a o d td c h.0) ∙ z.1)

-- A lawful call at n keeps the way to n.
pub frame-keep : (w : WalkConfig) (s s' : Shape) (f : IsForest s) (f' : IsForest s') (n : IRNode) (l : Lawful s n s')
    (base : Tree) (t t' : Tree) (ns : List IRNode)
    → ((m : IRNode) → Has ns m → t' m ≡ t m)
    → ((m : IRNode) → (Has ns m → ⊥) → m ≢ n → t' m ≡ s'.children m)
    → (a : IRNode) (o : Order) (d : Grove) (td : List IRNode) (c : IRNode)
    → ((m : IRNode) → Has (first o a ++ flat d) m → Has ns m)
    → Reaches s.parent n c
    → Frame w s base t ns a o d td c → Frame w s' base t' (ns ++ n ∷ []) a o d td c
frame-keep w s s' f f' n l base t t' ns same new a o d td c called b h =
    let up : s.parent c ≡ Some a = frame-parent w s f base t ns a o d td c h in
    let below : IsBelow s a n = child-below s a c n up b in
    let not_n : a ≢ n = λ (e : a ≡ n). not-below-itself s f n (subst (λ (v : IRNode). IsBelow s v n) e below) in
    let not_below = λ (k : IsBelow s n a). (
    let p = climb-depth s f (suc below.0) n a below.1 in
    let q = climb-depth s f (suc k.0) a n k.1 in
    let z : ⊥ = omega (arith, p, q) in z) in
    let kept = l.kept a h.live not_below in
    let stays : s'.children a ≡ s.children a = kept.2 not_n in
    let at_a : t' a ≡ t a = frame-same w s s' a o d (t a) (t' a) ns called (same a)
    (λ k. new a k not_n) h.fresh stays h.now in
    record {
      order_is = h.order_is;
      children_are = rw at_a h.children_are;
      read = Reads-same w t t' d (λ m k. same m (called m (Has-append_right (first o a) (flat d) m k))) h.read;
      now = stays ∙ (h.now ∙ sym at_a);
      live = kept.0;
      fresh = λ e k. elim (Has-append_cases ns (n ∷ []) a k) [
        | inl z ↦ h.fresh e z
        | inr z ↦ elim z
            [ inl g ↦ not_n (sym g) | inr g ↦ g ]
      ];
      ahead = λ e x k z y.
          (let dis = frame-distinct w s f base t ns a o d td c h in
          let c_e : c ≢ e = λ (g : c ≡ e). (Distinct-right (roots d) (c ∷ td) dis).0
          (subst (λ (v : IRNode). Has td v) (sym g) k) in
          let e_child : Has (s.children a) e = frame-child w s base t ns a o d td c h e
          (Has-append_right (roots d) (c ∷ td) e (inr k)) in
          let depths : depth_in s c ≡ depth_in s e = omega (
            arith,
            deeper s f a c up,
            deeper s f a e
                (f.child_parent a e e_child),
          ) in
          let n_e = λ (g : Reaches s.parent e n). c_e (beside-branch s f c e n depths b g) in
          let e_n = λ (g : Reaches s.parent n e). c_e (same-branch s f c e n depths b g) in
          let was : Reaches s.parent x e = (
            z.0,
            apart-kept s s' n f f' l z.0 x e z.1 (f.child_live a e e_child) n_e
                e_n,
          ) in
          elim (Has-append_cases ns (n ∷ []) x y) [
            | inl g ↦ h.ahead e x k was g
            | inr g ↦ elim g [ inl g' ↦ e_n (subst (λ (v : IRNode). Reaches s.parent v e) (sym g') was) | inr g' ↦ g' ]
          ]);
      base_at = λ all. stays ∙ h.base_at all;
      base_ahead = λ all e x k z.
          (let dis = frame-distinct w s f base t ns a o d td c h in
          let c_e : c ≢ e = λ (g : c ≡ e). (Distinct-right (roots d) (c ∷ td) dis).0
          (subst (λ (v : IRNode). Has td v) (sym g) k) in
          let e_child : Has (s.children a) e = frame-child w s base t ns a o d td c h e
          (Has-append_right (roots d) (c ∷ td) e (inr k)) in
          let depths : depth_in s c ≡ depth_in s e = omega (
            arith,
            deeper s f a c up,
            deeper s f a e
                (f.child_parent a e e_child),
          ) in
          let n_e = λ (g : Reaches s.parent e n). c_e (beside-branch s f c e n depths b g) in
          let e_n = λ (g : Reaches s.parent n e). c_e (same-branch s f c e n depths b g) in
          let e_live : s.live e ≡ true = f.child_live a e e_child in
          let was : Reaches s.parent x e = (z.0, apart-kept s s' n f f' l z.0 x e z.1 e_live n_e e_n) in
          let x_kept = l.kept x (below-live s f e x e_live was)
          (λ g. elim (two-above s e n x was (IsBelow-Reaches s n x g)) [ inl q ↦ n_e q | inr q ↦ e_n q ]) in
          let x_n : x ≢ n = λ (g : x ≡ n). e_n (subst (λ (v : IRNode). Reaches s.parent v e) g was) in
          let x_stays : s'.children x ≡ s.children x = x_kept.2 x_n in
          x_stays ∙ h.base_ahead all e x k was);
    }
  where
    frame-same : (w : WalkConfig) (s s' : Shape) (a : IRNode) (o : Order) (d : Grove) (p p' : List IRNode)
        (ns : List IRNode) → ((m : IRNode) → Has (first o a ++ flat d) m → Has ns m)
        → (Has ns a → p' ≡ p) → ((Has ns a → ⊥) → p' ≡ s'.children a) → (o ≡ PostOrder → Has ns a → ⊥) → s'.children a ≡
        s.children a → s.children a ≡ p → p' ≡ p
    frame-same w s s' a PreOrder d p p' ns called same new fresh e e' = same (called a (inl refl))
    frame-same w s s' a PostOrder d p p' ns called same new fresh e e' = new (fresh refl) ∙ (e ∙ e')

pub path-keep : (w : WalkConfig) (s s' : Shape) (f : IsForest s) (f' : IsForest s') (n : IRNode) (l : Lawful s n s')
    (base : Tree) (t t' : Tree) (r : IRNode) (ns : List IRNode)
    → ((m : IRNode) → Has ns m → t' m ≡ t m)
    → ((m : IRNode) → (Has ns m → ⊥) → m ≢ n → t' m ≡ s'.children m)
    → (path : Path) (c : IRNode)
    → ((m : IRNode) → Has (so_far path) m → Has ns m)
    → Reaches s.parent n c
    → Fits w s base t r ns path c → Fits w s' base t' r (ns ++ n ∷ []) path c
path-keep w s s' f f' n l base t t' r ns same new top c called b h = h
path-keep w s s' f f' n l base t t' r ns same new (under a o d td u) c called b h = (
  frame-keep w s s' f f' n l base t t' ns same new a o d td c
      (λ m k. called m (Has-append_right (so_far u) (first o a ++ flat d) m k)) b h.0,
  path-keep w s s' f f' n l base t t' r ns same new u a (λ m k. called m (Has-append_left (so_far u)
      (first o a ++ flat d) m k))
      (IsBelow-Reaches s a n (child-below s a c n (frame-parent w s f base t ns a o d td c h.0) b)) h.1,
)
