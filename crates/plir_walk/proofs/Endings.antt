use Rattle.std.proofs.Common.{◌≡◌, ℕ, zero, suc, ◌+◌, ◌<◌, List, [], ◌∷◌, ◌++◌, Some, slice_get, ◌⊎◌, inl, inr, refl}
use Rattle.std.proofs.Common.{sym, ap, subst, arith, ◌∙◌, append_assoc}
use Rattle.std.proofs.lemmas.List.{append-nil}
use Rattle.plir_walk.specs.AsRead.{tree_read}
use Rattle.plir_walk.specs.Calls.{Call, nodes_of}
use Rattle.plir_walk.specs.Config.{AllPost, direction_of, order_of}
use Rattle.plir_store.specs.Members.{Distinct, Has}
use Rattle.plir_walk.specs.Tree.{Place, Tree, node_at}
use Rattle.plir_walk.specs.declared.config.Order.{Order}
use Rattle.plir_walk.specs.declared.config.Order.TheVariants.{PostOrder, PreOrder}
use Rattle.plir_walk.specs.declared.config.WalkConfig.{WalkConfig}
use Rattle.plir_core.specs.Above.{Reaches}
use Rattle.plir_core.specs.declared.ptr.IRNode.{IRNode}
use Rattle.plir_core.specs.Forest.{IsBelow, IsForest, Shape}
use Rattle.plir_store.specs.MemberLaws.{Distinct-append, Distinct-one, Distinct-right, Has-append_cases}
use Rattle.plir_store.specs.MemberLaws.{Has-append_left, Has-append_right, Has-at}
use Rattle.plir_walk.specs.Step.{taken}
use Rattle.plir_walk.proofs.Climbs.{IsBelow-Reaches, climb-top, child-below, not-below-itself, same-branch}
use Rattle.plir_walk.proofs.Groves.{Grove, Has-taken, Reads, Reads-beside, Reads-same, and_then-some, beside, first}
use Rattle.plir_walk.proofs.Groves.{flat, flat-beside, flat-cases, flat-root, flat-under, grow, last, last-is, leaf}
use Rattle.plir_walk.proofs.Groves.{no-both, roots, roots-beside}
use Rattle.plir_walk.proofs.Stages.{Closing, Entering, Leaving, Opening, read-fresh}
use Rattle.plir_walk.proofs.Steps.{Distinct-taken, Fits, Frame, Path, ahead-of, base-of, frame-distinct, frame-child}
use Rattle.plir_walk.proofs.Steps.{frame-parent, path-depth, so_far, todo_of, top, under}
use Rattle.plir_walk.proofs.Heights.{bounded, deepest, deeper, depth_in}

pub last-has : (o : Order) (c : IRNode) → o ≡ PostOrder → Has (last o c) c
last-has PostOrder c e = inl refl
last-has PreOrder c e = absurd (no-both PreOrder refl e)

-- Trees of a context, as they stand: those of the nodes xs, k levels deep.

abbrev pub row : WalkConfig → Shape → (List IRNode → Grove) → List IRNode → Grove
row w s f [] = leaf
row w s f (x ∷ xs) = grow x (order_of w x) (f (taken (direction_of w x) (s.children x))) (row w s f xs)

abbrev pub unread : WalkConfig → Shape → ℕ → List IRNode → Grove
unread w s zero xs = leaf
unread w s (suc k) xs = row w s (unread w s k) xs

pub row-roots : (w : WalkConfig) (s : Shape) (f : List IRNode → Grove) (xs : List IRNode) → roots (row w s f xs) ≡ xs
row-roots w s f [] = refl
row-roots w s f (x ∷ xs) = ap (λ v. x ∷ v) (row-roots w s f xs)

pub unread-roots : (w : WalkConfig) (s : Shape) (f : IsForest s) (k : ℕ) (xs : List IRNode) →
    ((x : IRNode) → Has xs x → deepest < depth_in s x + k) → roots (unread w s k xs) ≡ xs
unread-roots w s f zero [] h = refl
unread-roots w s f zero (x ∷ xs) h = absurd (let p = h x (inl refl) in let q = bounded s x in omega (arith, p, q))
unread-roots w s f (suc k) xs h = row-roots w s (unread w s k) xs

pub row-reads : (w : WalkConfig) (s : Shape) (f : List IRNode → Grove) (xs : List IRNode)
    → ((x : IRNode) → Has xs x → (roots (f (taken (direction_of w x) (s.children x))) ≡ taken (direction_of w x)
    (s.children x)) × Reads w s.children (f (taken (direction_of w x) (s.children x))))
    → Reads w s.children (row w s f xs)
row-reads w s f [] h = tt
row-reads w s f (x ∷ xs) h = (refl, (h x (inl refl)).0, (h x (inl refl)).1, row-reads w s f xs (λ y k. h y (inr k)))

pub unread-reads : (w : WalkConfig) (s : Shape) (f : IsForest s) (k : ℕ) (xs : List IRNode) →
    ((x : IRNode) → Has xs x → deepest < depth_in s x + k) → Reads w s.children (unread w s k xs)
unread-reads w s f zero xs h = tt
unread-reads w s f (suc k) xs h = row-reads w s (unread w s k) xs (λ x z.
    (let deep = λ (y : IRNode) (u : Has (taken (direction_of w x) (s.children x)) y).
    (let p = h x z in
    let q = deeper s f x y (f.child_parent x y (Has-taken (direction_of w x) (s.children x) y u)) in
    let g : deepest < depth_in s y + k = omega (arith, p, q) in g) in (
      unread-roots w s f k (taken (direction_of w x) (s.children x)) deep,
      unread-reads w s f k
          (taken (direction_of w x) (s.children x)) deep,
    )))

-- a place in a context's tree is at or below its root
pub place-below : (s : Shape) (f : IsForest s) (c n : IRNode) (p : Place) → node_at s.children c p ≡ Some n → Reaches
    s.parent n c
place-below s f c n [] e = (zero, (let g : c ≡ n = cc in ap Some (sym g)))
place-below s f c n (i ∷ p) e =
    let d = and_then-some (λ c. node_at s.children c p) (slice_get (s.children c) i) n e in
    let up : s.parent d.0 ≡ Some c = f.child_parent c d.0 (Has-at (s.children c) i d.0 d.1) in
    let b = place-below s f d.0 n p d.2 in
    (suc b.0, climb-top s b.0 n d.0 c b.1 up)

pub place-below-child : (s : Shape) (f : IsForest s) (c n : IRNode) (i : ℕ) (p : Place) → node_at s.children c (i ∷ p) ≡
    Some n → IsBelow s c n
place-below-child s f c n i p e =
    let d = and_then-some (λ c. node_at s.children c p) (slice_get (s.children c) i) n e in
    child-below s c d.0 n (f.child_parent c d.0 (Has-at (s.children c) i d.0 d.1)) (place-below s f d.0 n p d.2)

-- the trees of xs as they stand in s, in any tree that agrees at what was not called
abbrev pub rest_of : WalkConfig → Shape → List IRNode → Grove
rest_of w s xs = unread w s (suc deepest) xs

pub rest-roots : (w : WalkConfig) (s : Shape) (f : IsForest s) (xs : List IRNode) → roots (rest_of w s xs) ≡ xs
rest-roots w s f xs = unread-roots w s f (suc deepest) xs (λ x h. omega arith)

pub rest-reads : (w : WalkConfig) (s : Shape) (f : IsForest s) (t : Tree) (ns : List IRNode) (xs : List IRNode)
    → ((m : IRNode) → (Has ns m → ⊥) → t m ≡ s.children m) → ((c x : IRNode) → Has xs c → Reaches s.parent x c → Has ns
    x → ⊥) → Reads w t (rest_of w s xs)
rest-reads w s f t ns xs new un =
    let g : Grove = rest_of w s xs in
    let rd : Reads w s.children g = unread-reads w s f (suc deepest) xs (λ x h. omega arith) in
    Reads-same w s.children t g
    (λ n h. new n (λ z. (let u = flat-under w s.children g n rd h in
    un u.0 n (subst (λ (v : List IRNode). Has v u.0) (rest-roots w s f xs) u.1) (place-below s f u.0 n u.2.0 u.2.1) z)))
    rd

pub rest-base : (w : WalkConfig) (s : Shape) (f : IsForest s) (t : Tree) (ns : List IRNode) (base : Tree)
    (xs : List IRNode)
    → ((m : IRNode) → (Has ns m → ⊥) → t m ≡ s.children m) → ((c x : IRNode) → Has xs c → Reaches s.parent x c → Has ns
    x → ⊥)
    → ((c x : IRNode) → Has xs c → Reaches s.parent x c → s.children x ≡ base x) → (n : IRNode) → Has
    (flat (rest_of w s xs)) n → t n ≡ base n
rest-base w s f t ns base xs new un is n h =
    let g : Grove = rest_of w s xs in
    let rd : Reads w s.children g = unread-reads w s f (suc deepest) xs (λ x h. omega arith) in
    let u = flat-under w s.children g n rd h in
    let c_in : Has xs u.0 = subst (λ (v : List IRNode). Has v u.0) (rest-roots w s f xs) u.1 in
    let b : Reaches s.parent n u.0 = place-below s f u.0 n u.2.0 u.2.1 in
    new n (un u.0 n c_in b) ∙ is u.0 n c_in b

pub grow-base : (t base : Tree) (m : IRNode) (o : Order) (b x : Grove) → t m ≡ base m →
    ((n : IRNode) → Has (flat b) n → t n ≡ base n) → ((n : IRNode) → Has (flat x) n → t n ≡ base n)
    → (n : IRNode) → Has (flat (grow m o b x)) n → t n ≡ base n
grow-base t base m o b x p q r n h = elim (flat-cases m o b x n h) [
  | inl e ↦ subst (λ (v : IRNode). t v ≡ base v) e p
  | inr a ↦ elim a [ inl k ↦ q n k | inr k ↦ r n k ]
]

pub beside-base : (t base : Tree) (d g : Grove) → ((n : IRNode) → Has (flat d) n → t n ≡ base n) →
    ((n : IRNode) → Has (flat g) n → t n ≡ base n)
    → (n : IRNode) → Has (flat (beside d g)) n → t n ≡ base n
beside-base t base d g p q n h = elim (Has-append_cases (flat d) (flat g) n (subst
    (λ (v : List IRNode). Has v n) (flat-beside d g) h)) [ inl k ↦ p n k | inr k ↦ q n k ]

-- No node stands twice in the trees of a context.

pub grow-distinct : (m : IRNode) (o : Order) (b s : Grove) → Distinct (flat b) → Distinct (flat s) →
    (Has (flat b) m → ⊥) → (Has (flat s) m → ⊥) → ((n : IRNode) → Has (flat b) n → Has (flat s) n → ⊥) → Distinct
    (flat (grow m o b s))
grow-distinct m PreOrder b s p q f g c = (
  λ h. elim (Has-append_cases (flat b) (flat s) m h) [ inl k ↦ f k | inr k ↦ g k ],
  Distinct-append (flat b) (flat s)
      p q c,
)
grow-distinct m PostOrder b s p q f g c =
    Distinct-append (flat b) (m ∷ flat s) p (g, q) (λ n h k. elim k [
      | inl e ↦ f (subst (λ (v : IRNode). Has (flat b) v)
          (sym e) h)
      | inr z ↦ c n h z
    ])

pub last-distinct : (o : Order) (m : IRNode) → Distinct (last o m)
last-distinct PreOrder m = tt
last-distinct PostOrder m = Distinct-one m

pub row-under : (w : WalkConfig) (s : Shape) (f : IsForest s) (g : List IRNode → Grove) (xs : List IRNode)
    → ((ys : List IRNode) (n : IRNode) → Has (flat (g ys)) n → (c : IRNode) × Has ys c × Reaches s.parent n c)
    → (n : IRNode) → Has (flat (row w s g xs)) n → (c : IRNode) × Has xs c × Reaches s.parent n c
row-under w s f g [] h n k = absurd k
row-under w s f g (x ∷ xs) h n k =
    let ks : List IRNode = taken (direction_of w x) (s.children x) in
    elim (flat-cases x (order_of w x) (g ks) (row w s g xs) n k) [
      | inl e ↦ (x, inl refl, (zero, ap Some (sym e)))
      | inr a ↦ elim a [
        | inl z ↦ (let r = h ks n z in (
          x,
          inl refl,
          IsBelow-Reaches s x n (child-below s x r.0 n
              (f.child_parent x r.0 (Has-taken (direction_of w x) (s.children x) r.0 r.1)) r.2),
        ))
        | inr z ↦ (let r = row-under w s f g xs h n z in (r.0, inr r.1, r.2))
      ]
    ]

pub unread-under : (w : WalkConfig) (s : Shape) (f : IsForest s) (k : ℕ) (xs : List IRNode) (n : IRNode) → Has
    (flat (unread w s k xs)) n → (c : IRNode) × Has xs c × Reaches s.parent n c
unread-under w s f zero xs n h = absurd h
unread-under w s f (suc k) xs n h = row-under w s f (unread w s k) xs (λ ys m z. unread-under w s f k ys m z) n h

pub row-distinct : (w : WalkConfig) (s : Shape) (f : IsForest s) (g : List IRNode → Grove) (xs : List IRNode)
    → ((ys : List IRNode) (n : IRNode) → Has (flat (g ys)) n → (c : IRNode) × Has ys c × Reaches s.parent n c)
    → ((ys : List IRNode) → Distinct ys → ((a b : IRNode) → Has ys a → Has ys b → depth_in s a ≡ depth_in s b) →
    Distinct (flat (g ys)))
    → Distinct xs → ((a b : IRNode) → Has xs a → Has xs b → depth_in s a ≡ depth_in s b) → Distinct
    (flat (row w s g xs))
row-distinct w s f g [] hu hd d e = tt
row-distinct w s f g (x ∷ xs) hu hd d e =
    let ks : List IRNode = taken (direction_of w x) (s.children x) in
    let up = λ (y : IRNode) (z : Has ks y). f.child_parent x y (Has-taken (direction_of w x) (s.children x) y z) in
    let under-x = λ (n : IRNode) (z : Has (flat (g ks)) n). (let r = hu ks n z in child-below s x r.0 n (up r.0 r.1)
    r.2) in
    let apart = λ (n : IRNode) (b : Reaches s.parent n x) (z : Has (flat (row w s g xs)) n).
    (let r = row-under w s f g xs hu n z in
    d.0 (subst (λ (v : IRNode). Has xs v) (sym (same-branch s f x r.0 n (e x r.0 (inl refl) (inr r.1)) b r.2)) r.1)) in
    grow-distinct x (order_of w x) (g ks) (row w s g xs)
    (hd ks (Distinct-taken (direction_of w x) (s.children x) (f.once x))
    (λ a b i j. (let p = deeper s f x a (up a i) in let q = deeper s f x b (up b j) in omega (arith, p, q))))
    (row-distinct w s f g xs hu hd d.1 (λ a b i j. e a b (inr i) (inr j)))
    (λ z. not-below-itself s f x (under-x x z))
    (λ z. apart x (zero, refl) z)
    (λ n i j. apart n (IsBelow-Reaches s x n (under-x n i)) j)

pub unread-distinct : (w : WalkConfig) (s : Shape) (f : IsForest s) (k : ℕ) (xs : List IRNode) → Distinct xs →
    ((a b : IRNode) → Has xs a → Has xs b → depth_in s a ≡ depth_in s b) → Distinct (flat (unread w s k xs))
unread-distinct w s f zero xs d e = tt
unread-distinct w s f (suc k) xs d e =
    row-distinct w s f (unread w s k) xs (λ ys m z. unread-under w s f k ys m z)
    (λ ys p q. unread-distinct w s f k ys p q) d e

-- the cursor, and what is still to be walked beside it, are apart and at one depth
pub todo-beside : (w : WalkConfig) (s : Shape) (f : IsForest s) (base : Tree) (t : Tree) (r : IRNode) (ns : List IRNode)
    (path : Path) (c : IRNode) → Fits w s base t r ns path c
    → Distinct (c ∷ todo_of path) × ((a : IRNode) → Has (c ∷ todo_of path) a → depth_in s a ≡ depth_in s c)
todo-beside w s f base t r ns top c h = (
  Distinct-one c,
  λ a k. elim k [
    | inl e ↦ ap (depth_in s) (sym e)
    | inr z ↦
        absurd z
  ],
)
todo-beside w s f base t r ns (under a o d td u) c h = (
  Distinct-right (roots d) (c ∷ td) (frame-distinct w s f base t ns a o d td c h.0),
  λ x k. (let kd = frame-child w s base t ns a o d td c h.0 x (Has-append_right (roots d) (c ∷ td) x k) in
      let p = deeper s f a x (f.child_parent a x kd) in
      let q = deeper s f a c (frame-parent w s f base t ns a o d td c h.0) in
      omega (arith, p, q)),
)

pub rest-distinct : (w : WalkConfig) (s : Shape) (f : IsForest s) (base : Tree) (t : Tree) (r : IRNode)
    (ns : List IRNode) (path : Path) (c : IRNode) → Fits w s base t r ns path c
    → Distinct (flat (rest_of w s (c ∷ todo_of path)))
rest-distinct w s f base t r ns path c h =
    let z = todo-beside w s f base t r ns path c h in
    unread-distinct w s f (suc deepest) (c ∷ todo_of path) z.0 (λ a b i j. z.1 a i ∙ sym (z.1 b j))

pub todo-distinct : (w : WalkConfig) (s : Shape) (f : IsForest s) (base : Tree) (t : Tree) (r : IRNode)
    (ns : List IRNode) (path : Path) (c : IRNode) → Fits w s base t r ns path c
    → Distinct (flat (rest_of w s (todo_of path)))
todo-distinct w s f base t r ns path c h =
    let z = todo-beside w s f base t r ns path c h in
    unread-distinct w s f (suc deepest) (todo_of path) z.0.1 (λ a b i j. z.1 a (inr i) ∙ sym (z.1 b (inr j)))

-- what is still to be walked beside the cursor is not at or below it
pub todo-apart : (w : WalkConfig) (s : Shape) (f : IsForest s) (base : Tree) (t : Tree) (r : IRNode) (ns : List IRNode)
    (path : Path) (c : IRNode) → Fits w s base t r ns path c
    → (x : IRNode) → Reaches s.parent x c → Has (flat (rest_of w s (todo_of path))) x → ⊥
todo-apart w s f base t r ns path c h x b k =
    let z = todo-beside w s f base t r ns path c h in
    let u = unread-under w s f (suc deepest) (todo_of path) x k in
    z.0.0 (subst (λ (v : IRNode). Has (todo_of path) v) (sym (same-branch s f c u.0 x (sym (z.1 u.0 (inr u.1))) b u.2))
    u.1)

-- What comes behind the cursor's trees: its nodes are apart, uncalled, and under none of those trees.
pub record Behind (s : Shape) (ns : List IRNode) (front : List IRNode) (rest : List IRNode) : Type 0 where
  pub once : Distinct rest
  pub uncalled : (x : IRNode) → Has rest x → Has ns x → ⊥
  pub outside : (x e : IRNode) → Has rest x → Has front e → Reaches s.parent x e → ⊥

pub behind-up : (w : WalkConfig) (s : Shape) (f : IsForest s) (base : Tree) (t : Tree) (r : IRNode) (ns : List IRNode)
    (a : IRNode) (o : Order) (d : Grove) (td : List IRNode) (u : Path) (c : IRNode) → Fits w s base t r ns
    (under a o d td u) c → (rest : List IRNode) → Behind s ns (a ∷ todo_of u) rest
    → Behind s ns (c ∷ td) ((last o a ++ flat (rest_of w s (todo_of u))) ++ rest)
behind-up w s f base t r ns a o d td u c h rest b =
    let U : List IRNode = flat (rest_of w s (todo_of u)) in
    let cases = λ (x : IRNode) (k : Has ((last o a ++ U) ++ rest) x). where-is x k in
    record {
      once = Distinct-append (last o a ++ U) rest
          (Distinct-append (last o a) U (last-distinct o a) (todo-distinct w s f base t r ns u a h.1)
          (λ n i j. todo-apart w s f base t r ns u a h.1 n (zero, ap Some (sym (last-is o a n i).0)) j))
          b.once
          (λ n i j. elim (Has-append_cases (last o a) U n i) [
            | inl k ↦ b.outside n a j (inl refl) (zero, ap Some (sym (last-is o a n k).0))
            | inr k ↦ (let z = unread-under w s f (suc deepest) (todo_of u) n k in b.outside n z.0 j (inr z.1) z.2)
          ]);
      uncalled = λ x k z. elim (where-is x k) [
        | inl i ↦ (let q = last-is o a x i in h.0.fresh q.1 (subst (λ (v : IRNode). Has ns v) (sym q.0) z))
        | inr y ↦ elim y [
          | inl i ↦ (let q = unread-under w s f (suc deepest) (todo_of u) x i in ahead-of w s base t r ns u a h.1 q.0 x
              q.1 q.2 z)
          | inr i ↦ b.uncalled x i z
        ]
      ];
      outside = λ x e k z y.
          (let up : s.parent e ≡ Some a = f.child_parent a e (frame-child w s base t ns a o d td c h.0 e
          (Has-append_right (roots d) (c ∷ td) e z)) in
          let below : IsBelow s a x = child-below s a e x up y in
          elim (where-is x k) [
            | inl i ↦ not-below-itself s f a (subst (λ (v : IRNode). IsBelow s a v) (sym (last-is o a x i).0) below)
            | inr v ↦ elim v [
              | inl i ↦ todo-apart w s f base t r ns u a h.1 x (IsBelow-Reaches s a x below) i
              | inr i ↦ b.outside x a i (inl refl) (IsBelow-Reaches s a x below)
            ]
          ]);
    }
  where
    where-is : (x : IRNode) → Has ((last o a ++ flat (rest_of w s (todo_of u))) ++ rest) x → Has (last o a) x ⊎
        (Has (flat (rest_of w s (todo_of u))) x ⊎ Has rest x)
    where-is x k = elim (Has-append_cases (last o a ++ flat (rest_of w s (todo_of u))) rest x k) [
      | inl i ↦ elim (Has-append_cases (last o a) (flat (rest_of w s (todo_of u))) x i)
          [ inl j ↦ inl j | inr j ↦ inr (inl j) ]
      | inr i ↦ inr (inr i)
    ]

-- the calls, what is left of the cursor's trees, and what comes behind them, are apart
pub all-apart : (s : Shape) (ns front y rest : List IRNode) → Distinct ns → Distinct y →
    ((x : IRNode) → Has y x → Has ns x → ⊥) → ((x : IRNode) → Has y x → (e : IRNode) × Has front e × Reaches s.parent x
    e) → Behind s ns front rest
    → Distinct (ns ++ (y ++ rest))
all-apart s ns front y rest d dy un low b =
    Distinct-append ns (y ++ rest) d
    (Distinct-append y rest dy b.once (λ n i j. (let u = low n i in b.outside n u.0 j u.1 u.2)))
    (λ n i j. elim (Has-append_cases y rest n j) [ inl k ↦ un n k i | inr k ↦ b.uncalled n k i ])

-- The trees that the calls read, and those of the context where no call was, make one tree of the root.
pub record Told (w : WalkConfig) (t : Tree) (r : IRNode) (ns : List IRNode) (P : Type 0) (base : Tree) : Type 0 where
  pub grove : Grove
  pub root : roots grove ≡ r ∷ []
  pub reads : Reads w t grove
  pub rest : List IRNode
  pub told : flat grove ≡ ns ++ rest
  pub once : Distinct (flat grove)
  pub at_base : P → (n : IRNode) → Has (flat grove) n → t n ≡ base n

pub close : (w : WalkConfig) (s : Shape) (f : IsForest s) (base : Tree) (t : Tree) (r : IRNode) (ns : List IRNode)
    → ((m : IRNode) → (Has ns m → ⊥) → t m ≡ s.children m)
    → (AllPost w → (m : IRNode) → Has ns m → t m ≡ base m)
    → (path : Path) (c : IRNode) (g : Grove) → Fits w s base t r ns path c → roots g ≡ c ∷ todo_of path → Reads w t g
    → ((m : IRNode) → Has (so_far path) m → Has ns m)
    → (AllPost w → (n : IRNode) → Has (flat g) n → t n ≡ base n)
    → (G : Grove) × (roots G ≡ r ∷ []) × Reads w t G × (rest : List IRNode) × (flat G ≡ so_far path ++ (flat g ++ rest))
    × (AllPost w → (n : IRNode) → Has (flat G) n → t n ≡ base n) × Behind s ns (c ∷ todo_of path) rest
close w s f base t r ns new old top c g h e rd called bs = (
  g,
  e ∙ ap (λ v. v ∷ []) h,
  rd,
  [],
  sym (append-nil (flat g)),
  bs,
  record { once = tt; uncalled = λ x k z. k; outside = λ x e k z y. k },
)
close w s f base t r ns new old (under a o d td u) c g h e rd called bs =
    let fr : Frame w s base t ns a o d td c = h.0 in
    let td' : List IRNode = todo_of u in
    let U : Grove = rest_of w s td' in
    let g' : Grove = grow a o (beside d g) U in
    let z = close w s f base t r ns new old u a g' h.1
    (ap (λ v. a ∷ v) (rest-roots w s f td')) (
      fr.order_is,
      roots-beside d g ∙ (ap (λ v. roots d ++ v) e ∙ fr.children_are),
      Reads-beside w t d g fr.read rd,
      rest-reads w s f t ns td' new (λ y x k b q. ahead-of w s base t r ns u a h.1 y x k b q),
    )
    (λ m k. called m (Has-append_left (so_far u) (first o a ++ flat d) m k))
    (λ all. grow-base t base a o (beside d g) U (sym fr.now ∙ fr.base_at all)
    (beside-base t base d g (λ n k. old all n (called n (Has-append_right (so_far u) (first o a ++ flat d) n
    (Has-append_right (first o a) (flat d) n k)))) (bs all))
    (rest-base w s f t ns base td' new (λ y x k b q. ahead-of w s base t r ns u a h.1 y x k b q)
    (λ y x k b. base-of w s base t r ns u a h.1 all y x k b))) in (
      z.0,
      z.1,
      z.2,
      (last o a ++ flat U) ++ z.3,
      z.4 ∙ (rw (flat-beside d g) (join (so_far u) (first o a) (flat d)
          (flat g) (last o a) (flat U) z.3)),
      z.5,
      behind-up w s f base t r ns a o d td u c h z.3 z.6,
    )
  where
    join : (x y d g l v z : List IRNode) → x ++ ((y ++ ((d ++ g) ++ (l ++ v))) ++ z) ≡ (x ++ (y ++ d)) ++
        (g ++ ((l ++ v) ++ z))
    join x y d g l v z = simp append_assoc

module _ {C S B : Type 0} (look : C → Shape) (w : WalkConfig) (base : Tree)
    (xs : List (Call C S B)) (e : C) (f : IsForest (look e)) (r c : IRNode) where
  pub entering-told : Entering look w base xs e r c → (t : Told w (tree_read look w xs e) r (nodes_of xs) (AllPost w)
      base) × Has t.rest c
  entering-told h =
      let s : Shape = look e in
      let t : Tree = tree_read look w xs e in
      let ns : List IRNode = nodes_of xs in
      let new = λ (m : IRNode) (z : Has ns m → ⊥). read-fresh look w xs e m z in
      let td : List IRNode = todo_of h.path in
      let g : Grove = rest_of w s (c ∷ td) in
      let rd : Reads w t g = rest-reads w s f t ns (c ∷ td) new (λ y x k b q. elim k [
        | inl i ↦ h.fresh x (subst (λ (v : IRNode). Reaches s.parent x v) (sym i) b) q
        | inr i ↦ ahead-of w s base t r ns h.path c h.fits y x i b q
      ]) in
      let z = close w s f base t r ns new h.base_done h.path c g h.fits (rest-roots w s f (c ∷ td)) rd
      (λ m k. subst (λ (v : List IRNode). Has v m) h.told k)
      (λ all. rest-base w s f t ns base (c ∷ td) new (λ y x k b q. elim k [
        | inl i ↦ h.fresh x (subst (λ (v : IRNode). Reaches s.parent x v) (sym i) b) q
        | inr i ↦ ahead-of w s base t r ns h.path c h.fits y x i b q
      ])
      (λ y x k b. elim k [
        | inl i ↦ h.base_here all x (subst (λ (v : IRNode). Reaches s.parent x v) (sym i) b)
        | inr i ↦ base-of w s base t r ns h.path c h.fits all y x i b
      ])) in (
        record {
          grove = z.0;
          root = z.1;
          reads = z.2;
          rest = flat g ++ z.3;
          told = z.4 ∙ ap (λ v. v ++ (flat g ++ z.3)) h.told;
          at_base = z.5;
          once = subst (λ (v : List IRNode). Distinct v) (sym (z.4 ∙ ap (λ v. v ++ (flat g ++ z.3)) h.told))
              (all-apart s ns (c ∷ td) (flat g) z.3 h.distinct (rest-distinct w s f base t r ns h.path c h.fits)
              (λ x k q. (let u = unread-under w s f (suc deepest) (c ∷ td) x k in elim u.1 [
                | inl i ↦ h.fresh x (subst (λ (v : IRNode). Reaches s.parent x v) (sym i) u.2) q
                | inr i ↦ ahead-of w s base t r ns h.path c h.fits u.0 x i u.2 q
              ]))
              (λ x k. unread-under w s f (suc deepest) (c ∷ td) x k) z.6);
        },
        Has-append_left (flat g) z.3 c (flat-root c (order_of w c) (unread w s deepest
            (taken (direction_of w c) (s.children c))) (row w s (unread w s deepest) td)),
      )

  pub opening-told : Opening look w base xs e r c → Told w (tree_read look w xs e) r (nodes_of xs) (AllPost w) base
  opening-told h =
      let s : Shape = look e in
      let t : Tree = tree_read look w xs e in
      let ns : List IRNode = nodes_of xs in
      let new = λ (m : IRNode) (z : Has ns m → ⊥). read-fresh look w xs e m z in
      let td : List IRNode = todo_of h.path in
      let ks : List IRNode = taken (direction_of w c) (s.children c) in
      let U : Grove = rest_of w s ks in
      let V : Grove = rest_of w s td in
      let child-up = λ (y : IRNode) (z : Has ks y). f.child_parent c y (Has-taken (direction_of w c) (s.children c) y z)
      in
      let child-under = λ (n : IRNode) (z : Has (flat U) n). (let u = unread-under w s f (suc deepest) ks n z in
      child-below s c u.0 n (child-up u.0 u.1) u.2) in
      let tail-distinct : Distinct (last h.o c ++ flat V) = Distinct-append (last h.o c) (flat V) (last-distinct h.o c)
      (todo-distinct w s f base t r ns h.path c h.fits)
      (λ n i j. todo-apart w s f base t r ns h.path c h.fits n (zero, ap Some (sym (last-is h.o c n i).0)) j) in
      let g : Grove = grow c h.o U V in
      let rd : Reads w t g = (
        h.order_is,
        rest-roots w s f ks ∙ ap (taken (direction_of w c)) h.now,
        rest-reads w s f t ns ks new (λ y x k b q. h.fresh x (child-below s c y x
            (f.child_parent c y (Has-taken (direction_of w c) (s.children c) y k)) b) q),
        rest-reads w s f t ns td new (λ y x k b q. ahead-of w s base t r ns h.path c h.fits y x k b q),
      ) in
      let z = close w s f base t r ns new h.base_done h.path c g h.fits (ap (λ v. c ∷ v) (rest-roots w s f td)) rd
      (λ m k. subst (λ (v : List IRNode). Has v m) h.told (Has-append_left (so_far h.path) (first h.o c) m k))
      (λ all. grow-base t base c h.o U V (sym h.now ∙ h.base_here all c (zero, refl))
      (rest-base w s f t ns base ks new (λ y x k b q. h.fresh x (child-below s c y x
      (f.child_parent c y (Has-taken (direction_of w c) (s.children c) y k)) b) q)
      (λ y x k b. h.base_here all x (IsBelow-Reaches s c x (child-below s c y x (f.child_parent c y
      (Has-taken (direction_of w c) (s.children c) y k)) b))))
      (rest-base w s f t ns base td new (λ y x k b q. ahead-of w s base t r ns h.path c h.fits y x k b q)
      (λ y x k b. base-of w s base t r ns h.path c h.fits all y x k b))) in
      record {
        grove = z.0;
        root = z.1;
        reads = z.2;
        rest = (flat U ++ (last h.o c ++ flat V)) ++ z.3;
        told = z.4 ∙ open-told (so_far h.path) (first h.o c) (flat U ++ (last h.o c ++ flat V)) z.3 ns h.told;
        at_base = z.5;
        once = subst (λ (v : List IRNode). Distinct v) (sym (z.4 ∙ open-told (so_far h.path) (first h.o c)
            (flat U ++ (last h.o c ++ flat V)) z.3 ns h.told))
            (all-apart s ns (c ∷ td) (flat U ++ (last h.o c ++ flat V)) z.3 h.distinct
            (Distinct-append (flat U) (last h.o c ++ flat V)
            (unread-distinct w s f (suc deepest) ks (Distinct-taken (direction_of w c) (s.children c) (f.once c))
            (λ a b i j. (let p = deeper s f c a (child-up a i) in let q = deeper s f c b (child-up b j) in omega
            (arith, p, q))))
            tail-distinct
            (λ n i j. elim (Has-append_cases (last h.o c) (flat V) n j) [
              | inl k ↦ not-below-itself s f c (subst (λ (v : IRNode). IsBelow s c v) (sym (last-is h.o c n k).0)
                  (child-under n i))
              | inr k ↦ todo-apart w s f base t r ns h.path c h.fits n (IsBelow-Reaches s c n (child-under n i)) k
            ]))
            (λ x k q. elim (Has-append_cases (flat U) (last h.o c ++ flat V) x k) [
              | inl i ↦ h.fresh x (child-under x i) q
              | inr i ↦ elim (Has-append_cases (last h.o c) (flat V) x i) [
                | inl j ↦ (let y = last-is h.o c x j in h.post_fresh y.1 (subst (λ (v : IRNode). Has ns v) (sym y.0) q))
                | inr j ↦ (let y = unread-under w s f (suc deepest) td x j in ahead-of w s base t r ns h.path c h.fits
                    y.0 x y.1 y.2 q)
              ]
            ])
            (λ x k. elim (Has-append_cases (flat U) (last h.o c ++ flat V) x k) [
              | inl i ↦ (c, inl refl, IsBelow-Reaches s c x (child-under x i))
              | inr i ↦ elim (Has-append_cases (last h.o c) (flat V) x i) [
                | inl j ↦ (c, inl refl, (zero, ap Some (sym (last-is h.o c x j).0)))
                | inr j ↦ (let y = unread-under w s f (suc deepest) td x j in (y.0, inr y.1, y.2))
              ]
            ]) z.6);
      }
    where
      open-told : (x y u z ns : List IRNode) → x ++ y ≡ ns → x ++ ((y ++ u) ++ z) ≡ ns ++ (u ++ z)
      open-told x y u z ns h = rw (← h) (simp append_assoc)

  pub leaving-told : Leaving look w base xs e r c → order_of w c ≡ PostOrder → (t : Told w (tree_read look w xs e) r
      (nodes_of xs) (AllPost w) base) × Has t.rest c × (Has (nodes_of xs) c → ⊥)
  leaving-told h o =
      let s : Shape = look e in
      let t : Tree = tree_read look w xs e in
      let ns : List IRNode = nodes_of xs in
      let new = λ (m : IRNode) (z : Has ns m → ⊥). read-fresh look w xs e m z in
      let td : List IRNode = todo_of h.path in
      let V : Grove = rest_of w s td in
      let g : Grove = grow c h.o h.b V in
      let ho : h.o ≡ PostOrder = h.order_is ∙ o in
      let rd : Reads w t g = (
        h.order_is,
        h.children_are,
        h.read,
        rest-reads w s f t ns td new
            (λ y x k b q. ahead-of w s base t r ns h.path c h.fits y x k b q),
      ) in
      let z = close w s f base t r ns new h.base_done h.path c g h.fits (ap (λ v. c ∷ v) (rest-roots w s f td)) rd
      (λ m k. subst (λ (v : List IRNode). Has v m) h.told (Has-append_left (so_far h.path) (first h.o c ++ flat h.b)
      m k))
      (λ all. grow-base t base c h.o h.b V (sym h.now ∙ h.base_here all)
      (λ n k. h.base_done all n (subst (λ (v : List IRNode). Has v n) h.told (Has-append_right (so_far h.path)
      (first h.o c ++ flat h.b) n (Has-append_right (first h.o c) (flat h.b) n k))))
      (rest-base w s f t ns base td new (λ y x k b q. ahead-of w s base t r ns h.path c h.fits y x k b q)
      (λ y x k b. base-of w s base t r ns h.path c h.fits all y x k b))) in (
        record {
          grove = z.0;
          root = z.1;
          reads = z.2;
          rest = (last h.o c ++ flat V) ++ z.3;
          told = z.4 ∙ leave-told (so_far h.path) (first h.o c) (flat h.b) (last h.o c ++ flat V) z.3 ns h.told;
          at_base = z.5;
          once = subst (λ (v : List IRNode). Distinct v) (sym (z.4 ∙ leave-told (so_far h.path) (first h.o c) (flat h.b)
              (last h.o c ++ flat V) z.3 ns h.told))
              (all-apart s ns (c ∷ td) (last h.o c ++ flat V) z.3 h.distinct
              (Distinct-append (last h.o c) (flat V) (last-distinct h.o c) (todo-distinct w s f base t r ns h.path c
              h.fits)
              (λ n i j. todo-apart w s f base t r ns h.path c h.fits n (zero, ap Some (sym (last-is h.o c n i).0)) j))
              (λ x k q. elim (Has-append_cases (last h.o c) (flat V) x k) [
                | inl j ↦ (let y = last-is h.o c x j in h.post_fresh y.1 (subst (λ (v : IRNode). Has ns v) (sym y.0) q))
                | inr j ↦ (let y = unread-under w s f (suc deepest) td x j in ahead-of w s base t r ns h.path c h.fits
                    y.0 x y.1 y.2 q)
              ])
              (λ x k. elim (Has-append_cases (last h.o c) (flat V) x k) [
                | inl j ↦ (c, inl refl, (zero, ap Some (sym (last-is h.o c x j).0)))
                | inr j ↦ (let y = unread-under w s f (suc deepest) td x j in (y.0, inr y.1, y.2))
              ]) z.6);
        },
        Has-append_left (last h.o c ++ flat V) z.3 c (Has-append_left (last h.o c) (flat V) c (last-has h.o c ho)),
        h.post_fresh ho,
      )
    where
      leave-told : (x y b u z ns : List IRNode) → x ++ (y ++ b) ≡ ns → x ++ ((y ++ (b ++ u)) ++ z) ≡ ns ++ (u ++ z)
      leave-told x y b u z ns h = rw (← h) (simp append_assoc)

  pub closing-told : Closing look w base xs e r c → Told w (tree_read look w xs e) r (nodes_of xs) (AllPost w) base
  closing-told h =
      let s : Shape = look e in
      let t : Tree = tree_read look w xs e in
      let ns : List IRNode = nodes_of xs in
      let new = λ (m : IRNode) (z : Has ns m → ⊥). read-fresh look w xs e m z in
      let td : List IRNode = todo_of h.path in
      let V : Grove = rest_of w s td in
      let g : Grove = beside (grow c h.o h.b leaf) V in
      let rd : Reads w t g = Reads-beside w t (grow c h.o h.b leaf) V h.read (rest-reads w s f t ns td new
      (λ y x k b q. ahead-of w s base t r ns h.path c h.fits y x k b q)) in
      let z = close w s f base t r ns new h.base_done h.path c g h.fits (ap (λ v. c ∷ v) (rest-roots w s f td)) rd
      (λ m k. subst (λ (v : List IRNode). Has v m) h.told (Has-append_left (so_far h.path)
      (flat (grow c h.o h.b leaf)) m k))
      (λ all. beside-base t base (grow c h.o h.b leaf) V
      (λ n k. h.base_done all n (subst (λ (v : List IRNode). Has v n) h.told (Has-append_right (so_far h.path)
      (flat (grow c h.o h.b leaf)) n k)))
      (rest-base w s f t ns base td new (λ y x k b q. ahead-of w s base t r ns h.path c h.fits y x k b q)
      (λ y x k b. base-of w s base t r ns h.path c h.fits all y x k b))) in
      let told : flat z.0 ≡ ns ++ (flat V ++ z.3) = z.4 ∙ (rw (flat-beside (grow c h.o h.b leaf) V)
      (shut-told (so_far h.path) (flat (grow c h.o h.b leaf)) (flat V) z.3 ns h.told)) in
      record {
        grove = z.0;
        root = z.1;
        reads = z.2;
        rest = flat V ++ z.3;
        told = told;
        at_base = z.5;
        once = subst (λ (v : List IRNode). Distinct v) (sym told)
            (all-apart s ns (c ∷ td) (flat V) z.3 h.distinct (todo-distinct w s f base t r ns h.path c h.fits)
            (λ x j q. (let y = unread-under w s f (suc deepest) td x j in ahead-of w s base t r ns h.path c h.fits y.0 x
            y.1 y.2 q))
            (λ x j. (let y = unread-under w s f (suc deepest) td x j in (y.0, inr y.1, y.2))) z.6);
      }
    where
      shut-told : (x y u z ns : List IRNode) → x ++ y ≡ ns → x ++ ((y ++ u) ++ z) ≡ ns ++ (u ++ z)
      shut-told x y u z ns h = rw (← h) (simp append_assoc)

  pub finished-told : Closing look w base xs e r c → c ≡ r → (t : Told w (tree_read look w xs e) r (nodes_of xs)
      (AllPost w) base) × (t.rest ≡ [])
  finished-told h q = go h.path h.fits h.told
    where
      go : (path : Path) → Fits w (look e) base (tree_read look w xs e) r (nodes_of xs) path c → so_far path ++ flat
          (grow c h.o h.b leaf) ≡ nodes_of xs
          → (t : Told w (tree_read look w xs e) r (nodes_of xs) (AllPost w) base) × (t.rest ≡ [])
      go top fits told = (
        record {
          grove = grow c h.o h.b leaf;
          root = ap (λ v. v ∷ []) q;
          reads = h.read;
          rest = [];
          told = told ∙ sym (append-nil (nodes_of xs));
          once = subst (λ (v : List IRNode). Distinct v) (sym told) h.distinct;
          at_base = λ all n k. h.base_done all n (subst (λ (v : List IRNode). Has v n) told k);
        },
        refl,
      )
      go (under a o d td u) fits told =
          let p = deeper (look e) f a c (frame-parent w (look e) f base (tree_read look w xs e) (nodes_of xs) a o d td c
          fits.0) in
          let k = path-depth w (look e) f base (tree_read look w xs e) r (nodes_of xs) u a fits.1 in
          absurd (omega (arith, p, k, ap (depth_in (look e)) q))
