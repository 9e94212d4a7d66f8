use Rattle.std.proofs.Common.{◌≡◌, ◌≢◌, ℕ, zero, suc, ◌-◌, ◌<◌, List, [], ◌∷◌, ◌++◌, Option, Some, None, slice_get, ◌⊎◌}
use Rattle.std.proofs.Common.{inl, inr, reverse, length, refl, sym, ap, subst, arith, ◌∙◌, option_and_then, MatchOption}
use Rattle.std.proofs.Common.{append_assoc}
use Rattle.std.proofs.lemmas.List.{reverse-append, reverse-reverse, length-reverse, get_or-reverse}
use Rattle.std.proofs.lemmas.Option.{slice_get_within, slice_get-get_or, get_or_from_slice_get}
use Rattle.plir_walk.specs.Config.{direction_of, order_of}
use Rattle.plir_walk.specs.Lists.{Pairs}
use Rattle.plir_store.specs.Members.{Has}
use Rattle.plir_walk.specs.Tree.{Before, Earlier, IsUnder, NodeBefore, Place, Tree, node_at, same}
use Rattle.plir_walk.specs.declared.config.Direction.{Direction}
use Rattle.plir_walk.specs.declared.config.Direction.TheVariants.{Forward, Reverse}
use Rattle.plir_walk.specs.declared.config.Order.{Order}
use Rattle.plir_walk.specs.declared.config.Order.TheVariants.{PostOrder, PreOrder}
use Rattle.plir_walk.specs.declared.config.WalkConfig.{WalkConfig}
use Rattle.plir_core.specs.declared.ptr.IRNode.{IRNode}
use Rattle.plir_store.specs.MemberLaws.{Has-append_cases, Has-append_left, Has-append_right, Has-at, at-Has}
use Rattle.plir_walk.specs.Step.{taken}
use Rattle.plir_walk.proofs.ListLemmas.{Pairs-append, Pairs-map}

-- Trees that stand side by side: the first one's node, how it is called, the trees below it, and the trees beside it.
pub data Grove : Type 0 where
  leaf : Grove
  grow : IRNode → Order → Grove → Grove → Grove

abbrev pub roots : Grove → List IRNode
roots leaf = []
roots (grow n o b s) = n ∷ roots s

abbrev pub first : Order → IRNode → List IRNode
first PreOrder n = n ∷ []
first PostOrder n = []

abbrev pub last : Order → IRNode → List IRNode
last PreOrder n = []
last PostOrder n = n ∷ []

-- the nodes in the order of a walk
abbrev pub flat : Grove → List IRNode
flat leaf = []
flat (grow n o b s) = first o n ++ (flat b ++ (last o n ++ flat s))

-- the trees are those of t
abbrev pub Reads : WalkConfig → Tree → Grove → Type 0
Reads w t leaf = Unit {0}
Reads w t (grow n o b s) = (o ≡ (order_of w n)) × (roots b ≡ taken (direction_of w n) (t n)) × Reads w t b × Reads w t s

abbrev pub beside : Grove → Grove → Grove
beside leaf g = g
beside (grow n o b s) g = grow n o b (beside s g)

-- lists

pub Has-reverse : (xs : List IRNode) (n : IRNode) → Has (reverse xs) n → Has xs n
Has-reverse [] n h = h
Has-reverse (x ∷ xs) n h =
    elim (Has-append_cases (reverse xs) (x ∷ []) n (subst (λ (v : List IRNode). Has v n) (reverse-append (x ∷ []) xs)
    h)) [
      | inl a ↦ inr (Has-reverse xs n a)
      | inr b ↦ elim b [ inl e ↦ inl e | inr k ↦ absurd k ]
    ]

pub reverse-Has : (xs : List IRNode) (n : IRNode) → Has xs n → Has (reverse xs) n
reverse-Has xs n h = Has-reverse (reverse xs) n (subst (λ (v : List IRNode). Has v n) (sym (reverse-reverse xs)) h)

pub Has-taken : (d : Direction) (xs : List IRNode) (n : IRNode) → Has (taken d xs) n → Has xs n
Has-taken Forward xs n h = h
Has-taken Reverse xs n h = Has-reverse xs n h

pub taken-Has : (d : Direction) (xs : List IRNode) (n : IRNode) → Has xs n → Has (taken d xs) n
taken-Has Forward xs n h = h
taken-Has Reverse xs n h = reverse-Has xs n h

pub first-is : (o : Order) (m n : IRNode) → Has (first o m) n → (m ≡ n) × (o ≡ PreOrder)
first-is PreOrder m n (inl e) = (e, refl)
first-is PreOrder m n (inr h) = absurd h
first-is PostOrder m n h = absurd h

pub last-is : (o : Order) (m n : IRNode) → Has (last o m) n → (m ≡ n) × (o ≡ PostOrder)
last-is PostOrder m n (inl e) = (e, refl)
last-is PostOrder m n (inr h) = absurd h
last-is PreOrder m n h = absurd h

pub flat-beside : (a b : Grove) → flat (beside a b) ≡ flat a ++ flat b
flat-beside leaf g = refl
flat-beside (grow n o b s) g = rw (flat-beside s g) (simp append_assoc)

pub roots-beside : (a b : Grove) → roots (beside a b) ≡ roots a ++ roots b
roots-beside leaf g = refl
roots-beside (grow n o b s) g = ap (λ v. n ∷ v) (roots-beside s g)

pub Reads-beside : (w : WalkConfig) (t : Tree) (a b : Grove) → Reads w t a → Reads w t b → Reads w t (beside a b)
Reads-beside w t leaf g p q = q
Reads-beside w t (grow n o b s) g p q = (p.0, p.1, p.2, Reads-beside w t s g p.3 q)

-- a node of the first tree is its root or below it, and the others are beside it
pub flat-cases : (m : IRNode) (o : Order) (b s : Grove) (n : IRNode) → Has (flat (grow m o b s)) n → (m ≡ n) ⊎
    (Has (flat b) n ⊎ Has (flat s) n)
flat-cases m o b s n h =
    elim (Has-append_cases (first o m) (flat b ++ (last o m ++ flat s)) n h) [
      | inl a ↦ inl (first-is o m n a).0
      | inr a ↦ elim (Has-append_cases (flat b) (last o m ++ flat s) n a) [
        | inl c ↦ inr (inl c)
        | inr c ↦ elim (Has-append_cases (last o m) (flat s) n c) [
          | inl d ↦ inl (last-is o m n d).0
          | inr d ↦ inr (inr d)
        ]
      ]
    ]

pub flat-root : (m : IRNode) (o : Order) (b s : Grove) → Has (flat (grow m o b s)) m
flat-root m PreOrder b s = inl refl
flat-root m PostOrder b s = Has-append_right (flat b) (m ∷ flat s) m (inl refl)

pub flat-below : (m : IRNode) (o : Order) (b s : Grove) (n : IRNode) → Has (flat b) n → Has (flat (grow m o b s)) n
flat-below m o b s n h = Has-append_right (first o m) (flat b ++ (last o m ++ flat s)) n
    (Has-append_left (flat b) (last o m ++ flat s) n h)

pub flat-side : (m : IRNode) (o : Order) (b s : Grove) (n : IRNode) → Has (flat s) n → Has (flat (grow m o b s)) n
flat-side m o b s n h = Has-append_right (first o m) (flat b ++ (last o m ++ flat s)) n
    (Has-append_right (flat b) (last o m ++ flat s) n (Has-append_right (last o m) (flat s) n h))

-- a grove that t reads is read by each tree that agrees at its nodes
pub Reads-same : (w : WalkConfig) (t u : Tree) (g : Grove) → ((n : IRNode) → Has (flat g) n → u n ≡ t n) → Reads w t g →
    Reads w u g
Reads-same w t u leaf same r = tt
Reads-same w t u (grow m o b s) same r =
    let e : u m ≡ t m = same m (flat-root m o b s) in (
      r.0,
      rw e r.1,
      Reads-same w t u b (λ n h. same n (flat-below m o b s n h)) r.2,
      Reads-same w t u s
          (λ n h. same n (flat-side m o b s n h)) r.3,
    )

pub step-down : (t : Tree) (m : IRNode) (i : ℕ) (c : IRNode) (p : Place) → slice_get (t m) i ≡ Some c → node_at t m
    (i ∷ p) ≡ node_at t c p
step-down t m i c p e = rw e refl

-- a child, and a place below it, are a place below the parent
pub under-child : (t : Tree) (m c n : IRNode) → Has (t m) c → IsUnder t c n → (i : ℕ) × (p : Place) ×
    (node_at t m (i ∷ p) ≡ Some n)
under-child t m c n h (p, e) = let r = at-Has (t m) c h in (r.0, p, step-down t m r.0 c p r.1 ∙ e)

-- each node is under a root
pub flat-under : (w : WalkConfig) (t : Tree) (g : Grove) (n : IRNode) → Reads w t g → Has (flat g) n → (c : IRNode) ×
    Has (roots g) c × IsUnder t c n
flat-under w t leaf n r h = absurd h
flat-under w t (grow m o b s) n r h =
    elim (flat-cases m o b s n h) [
      | inl e ↦ (m, inl refl, ([], ap Some e))
      | inr a ↦ elim a [
        | inl k ↦ (let u = flat-under w t b n r.2 k in
            let q = under-child t m u.0 n (Has-taken (direction_of w m) (t m) u.0
            (subst (λ (v : List IRNode). Has v u.0) r.1 u.1)) u.2 in
            (m, inl refl, (q.0 ∷ q.1, q.2)))
        | inr k ↦ (let u = flat-under w t s n r.3 k in (u.0, inr u.1, u.2))
      ]
    ]

pub and_then-some : (f : IRNode → Option IRNode) (o : Option IRNode) (n : IRNode) → option_and_then f o ≡ Some n →
    (c : IRNode) × (o ≡ Some c) × (f c ≡ Some n)
and_then-some f None n e = cc
and_then-some f (Some c) n e = (c, refl, e)

-- each place under a root is one of the nodes
pub under-flat : (w : WalkConfig) (t : Tree) (g : Grove) (c n : IRNode) (p : Place) → Reads w t g → Has (roots g) c →
    node_at t c p ≡ Some n → Has (flat g) n
under-flat w t leaf c n p r h e = absurd h
under-flat w t (grow m o b s) c n p r (inr h) e = flat-side m o b s n (under-flat w t s c n p r.3 h e)
under-flat w t (grow m o b s) c n [] r (inl h) e = let k : m ≡ n = cc in subst
    (λ (v : IRNode). Has (flat (grow m o b s)) v) k (flat-root m o b s)
under-flat w t (grow m o b s) c n (i ∷ p) r (inl h) e =
    let e' : node_at t m (i ∷ p) ≡ Some n = rw h e in
    let d = and_then-some (λ c. node_at t c p) (slice_get (t m) i) n e' in
    flat-below m o b s n (under-flat w t b d.0 n p r.2 (subst (λ (v : List IRNode). Has v d.0) (sym r.1)
    (taken-Has (direction_of w m) (t m) d.0 (Has-at (t m) i d.0 d.1))) d.2)

-- The order in which a walk takes nodes.

-- a is before b under the roots xs
pub record Sib (w : WalkConfig) (t : Tree) (xs : List IRNode) (a b : IRNode) : Type 0 where
  pub i : ℕ
  pub j : ℕ
  pub c : IRNode
  pub d : IRNode
  pub p : Place
  pub q : Place
  pub c_is : slice_get xs i ≡ Some c
  pub d_is : slice_get xs j ≡ Some d
  pub a_at : node_at t c p ≡ Some a
  pub b_at : node_at t d q ≡ Some b
  pub before : (i < j) ⊎ ((i ≡ j) × Before w t c p q)

pub Sib-shift : (w : WalkConfig) (t : Tree) (m : IRNode) (xs : List IRNode) (a b : IRNode) → Sib w t xs a b → Sib w t
    (m ∷ xs) a b
Sib-shift w t m xs a b r = record {
  i = suc r.i;
  j = suc r.j;
  c = r.c;
  d = r.d;
  p = r.p;
  q = r.q;
  c_is = r.c_is;
  d_is = r.d_is;
  a_at = r.a_at;
  b_at = r.b_at;
  before = elim r.before [ inl l ↦ inl (omega arith) | inr e ↦ inr (ap suc e.0, e.1) ];
}

pub Sib-in : (w : WalkConfig) (t : Tree) (m : IRNode) (xs : List IRNode) (a b : IRNode) → NodeBefore w t m a b → Sib w t
    (m ∷ xs) a b
Sib-in w t m xs a b r = record {
  i = zero;
  j = zero;
  c = m;
  d = m;
  p = r.place_a;
  q = r.place_b;
  c_is = refl;
  d_is = refl;
  a_at = r.at_a;
  b_at = r.at_b;
  before = inr (refl, r.before);
}

pub Sib-cross : (w : WalkConfig) (t : Tree) (m : IRNode) (xs : List IRNode) (a b d : IRNode) → IsUnder t m a → Has xs d
    → IsUnder t d b → Sib w t (m ∷ xs) a b
Sib-cross w t m xs a b d u h v = let r = at-Has xs d h in record {
  i = zero;
  j = suc r.0;
  c = m;
  d = d;
  p = u.0;
  q = v.0;
  c_is = refl;
  d_is = r.1;
  a_at = u.1;
  b_at = v.1;
  before = inl (omega arith);
}

abbrev pub spot_of : Direction → ℕ → ℕ → ℕ
spot_of Forward n i = i
spot_of Reverse n i = n - 1 - i

pub taken-at : (d : Direction) (xs : List IRNode) (i : ℕ) (c : IRNode) → slice_get (taken d xs) i ≡ Some c → slice_get
    xs (spot_of d (length xs) i) ≡ Some c
taken-at Forward xs i c e = e
taken-at Reverse xs i c e =
    let h : i < length (reverse xs) = slice_get_within (reverse xs) i c e in
    let h' : i < length xs = omega (arith, h, length-reverse xs) in
    let k : length xs - 1 - i < length xs = omega arith in
    slice_get-get_or xs (length xs - 1 - i) c k ∙ ap Some (sym (get_or-reverse xs i c h') ∙ get_or_from_slice_get
    (reverse xs) i c c e)

pub taken-within : (d : Direction) (xs : List IRNode) (i : ℕ) (c : IRNode) → slice_get (taken d xs) i ≡ Some c → i <
    length xs
taken-within Forward xs i c e = slice_get_within xs i c e
taken-within Reverse xs i c e = omega (arith, slice_get_within (reverse xs) i c e, length-reverse xs)

pub earlier : (d : Direction) (n i j : ℕ) → i < j → j < n → (spot_of d n i ≢ spot_of d n j) × Earlier d (spot_of d n i)
    (spot_of d n j)
earlier Forward n i j h k = (omega arith, h)
earlier Reverse n i j h k = (omega arith, omega arith)

-- of two nodes under the children of m, the one before is before under m
pub Sib-up : (w : WalkConfig) (t : Tree) (m : IRNode) (xs : List IRNode) (a b : IRNode) → xs ≡ taken (direction_of w m)
    (t m) → Sib w t xs a b → NodeBefore w t m a b
Sib-up w t m xs a b e r =
    let ks : List IRNode = (t m) in
    let dr : Direction = (direction_of w m) in
    let f : slice_get (taken dr ks) r.i ≡ Some r.c = rw e at r.c_is in
    let g : slice_get (taken dr ks) r.j ≡ Some r.d = rw e at r.d_is in
    let i' : ℕ = spot_of dr (length ks) r.i in
    let j' : ℕ = spot_of dr (length ks) r.j in
    let f' : slice_get ks i' ≡ Some r.c = taken-at dr ks r.i r.c f in
    let g' : slice_get ks j' ≡ Some r.d = taken-at dr ks r.j r.d g in
    record {
      place_a = i' ∷ r.p;
      place_b = j' ∷ r.q;
      at_a = step-down t m i' r.c r.p f' ∙ r.a_at;
      at_b = step-down t m j' r.d r.q g' ∙ r.b_at;
      before = elim r.before [
        | inl l ↦ inl (earlier dr (length ks) r.i r.j l (taken-within dr ks r.j r.d g))
        | inr e ↦ inr (
          ap (spot_of dr (length ks)) e.0,
          subst
              (λ (v : Option IRNode). MatchOption v ⊥ (λ c. Before w t c r.p r.q)) (sym f') e.1,
        )
      ];
    }

pub Pairs-first : (R : IRNode → IRNode → Type 0) (o : Order) (m : IRNode) → Pairs R (first o m)
Pairs-first R PreOrder m = (λ y h. absurd h, tt)
Pairs-first R PostOrder m = tt

pub Pairs-last : (R : IRNode → IRNode → Type 0) (o : Order) (m : IRNode) → Pairs R (last o m)
Pairs-last R PostOrder m = (λ y h. absurd h, tt)
Pairs-last R PreOrder m = tt

-- a node below m, at a place under m
pub below-under : (w : WalkConfig) (t : Tree) (m : IRNode) (b : Grove) (n : IRNode) → roots b ≡ taken (direction_of w m)
    (t m) → Reads w t b → Has (flat b) n → (i : ℕ) × (p : Place) × (node_at t m (i ∷ p) ≡ Some n)
below-under w t m b n e r h =
    let u = flat-under w t b n r h in
    under-child t m u.0 n (Has-taken (direction_of w m) (t m) u.0 (subst (λ (v : List IRNode). Has v u.0) e u.1)) u.2

pub NodeBefore-above : (w : WalkConfig) (t : Tree) (m n : IRNode) → (order_of w m) ≡ PreOrder →
    ((i : ℕ) × (p : Place) × (node_at t m (i ∷ p) ≡ Some n)) → NodeBefore w t m m n
NodeBefore-above w t m n o u = record { place_a = []; place_b = u.0 ∷ u.1; at_a = refl; at_b = u.2; before = o }

pub NodeBefore-below : (w : WalkConfig) (t : Tree) (m n : IRNode) → (order_of w m) ≡ PostOrder →
    ((i : ℕ) × (p : Place) × (node_at t m (i ∷ p) ≡ Some n)) → NodeBefore w t m n m
NodeBefore-below w t m n o u = record { place_a = u.0 ∷ u.1; place_b = []; at_a = u.2; at_b = refl; before = o }

pub no-both : (o : Order) → o ≡ PreOrder → o ≡ PostOrder → ⊥
no-both o p q = cc

pub flat-pairs : (w : WalkConfig) (t : Tree) (g : Grove) → Reads w t g → Pairs (Sib w t (roots g)) (flat g)
flat-pairs w t leaf r = tt
flat-pairs w t (grow m o b s) r =
    let R : IRNode → IRNode → Type 0 = Sib w t (m ∷ roots s) in
    let below = λ (n : IRNode) (h : Has (flat b) n). below-under w t m b n r.1 r.2 h in
    let pB : Pairs R (flat b) = Pairs-map (Sib w t (roots b)) R (flat b)
    (λ x y k. Sib-in w t m (roots s) x y (Sib-up w t m (roots b) x y r.1 k)) (flat-pairs w t b r.2) in
    let pS : Pairs R (flat s) = Pairs-map (Sib w t (roots s)) R (flat s)
    (λ x y k. Sib-shift w t m (roots s) x y k) (flat-pairs w t s r.3) in
    let cross = λ (x y : IRNode) (u : IsUnder t m x) (h : Has (flat s) y). (let v = flat-under w t s y r.3 h in
    Sib-cross w t m (roots s) x y v.0 u v.1 v.2) in
    let pLS : Pairs R (last o m ++ flat s) = Pairs-append R (last o m) (flat s) (Pairs-last R o m) pS
    (λ x y h k. cross x y ([], ap Some (last-is o m x h).0) k) in
    let pBLS : Pairs R (flat b ++ (last o m ++ flat s)) = Pairs-append R (flat b) (last o m ++ flat s) pB pLS
    (λ x y h k. let u = below x h in elim (Has-append_cases (last o m) (flat s) y k) [
      | inl a ↦ (let e = last-is o m y a in subst (λ (v : IRNode). R x v) e.0 (Sib-in w t m (roots s) x m
          (NodeBefore-below w t m x (sym r.0 ∙ e.1) u)))
      | inr a ↦ cross x y (u.0 ∷ u.1, u.2) a
    ]) in
    Pairs-append R (first o m) (flat b ++ (last o m ++ flat s)) (Pairs-first R o m) pBLS
    (λ x y h k. let e = first-is o m x h in elim (Has-append_cases (flat b) (last o m ++ flat s) y k) [
      | inl a ↦ subst (λ (v : IRNode). R v y) e.0 (Sib-in w t m (roots s) m y (NodeBefore-above w t m y (sym r.0 ∙ e.1)
          (below y a)))
      | inr a ↦ elim (Has-append_cases (last o m) (flat s) y a) [
        | inl d ↦ absurd (no-both o e.1 (last-is o m y d).1)
        | inr d ↦ cross x y ([], ap Some e.0) d
      ]
    ])
