-- Trees by their post-order, over children, parents and depths that agree.
use Rattle.std.proofs.Common.{◌≡◌, ℕ, zero, suc, ◌+◌, ◌<◌, ◌≤◌, List, [], ◌∷◌, ◌++◌, Option, Some, None, inl, inr, refl}
use Rattle.std.proofs.Common.{sym, ◌∙◌, ap, subst, arith}
use Rattle.std.specs.List.{flat_map}
use Rattle.std.proofs.lemmas.Option.{same_Some, none-some}
use Rattle.plir_core.specs.Above.{climb, Reaches}
use Rattle.plir_store.specs.MemberLaws.{Has-append_left, Has-append_right, Has-append_cases}
use Rattle.plir_store.specs.Members.{Has, Distinct, head}
use Rattle.plir_core.specs.Erase.{post_order}

module _ {N : Type 0} where
  pub Has-flat_map : (f : N → List N) (ms : List N) (a : N) → Has (flat_map f ms) a → (m : N) × (Has ms m × Has (f m) a)
  Has-flat_map f [] a h = absurd h
  Has-flat_map f (m ∷ ms) a h = elim (Has-append_cases (f m) (flat_map f ms) a h) [
    | inl k ↦ (m, (inl refl, k))
    | inr k ↦ let r = Has-flat_map f ms a k in (r.0, (inr r.1.0, r.1.1))
  ]

  flat_map-Has : (f : N → List N) (ms : List N) (m a : N) → Has ms m → Has (f m) a → Has (flat_map f ms) a
  flat_map-Has f [] m a h k = absurd h
  flat_map-Has f (x ∷ ms) m a h k = elim h [
    | inl e ↦ Has-append_left (f x) (flat_map f ms) a (subst (λ z. Has (f z) a) (sym e) k)
    | inr j ↦ Has-append_right (f x) (flat_map f ms) a (flat_map-Has f ms m a j k)
  ]

  pub flat_map-same : (f g : N → List N) (ms : List N) → ((m : N) → Has ms m → f m ≡ g m) → flat_map f ms ≡ flat_map g
      ms
  flat_map-same f g [] e = refl
  flat_map-same f g (m ∷ ms) e =
      let a = e m (inl refl) in
      let b = flat_map-same f g ms (λ x h. e x (inr h)) in
      rw (a, b) refl

  pub climb_nothing : (up : N → Option N) (k : ℕ) → climb up k None ≡ None
  climb_nothing up zero = refl
  climb_nothing up (suc k) = refl

  pub climb_step : (up : N → Option N) (k : ℕ) (o : Option N) (n : N) → climb up k o ≡ Some n → climb up (suc k) o ≡ up
      n
  climb_step up zero o n e = rw e refl
  climb_step up (suc k) None n e = absurd (none-some n e)
  climb_step up (suc k) (Some m) n e = climb_step up k (up m) n e

  -- the last step of a climb
  pub climb_last : (up : N → Option N) (k : ℕ) (o : Option N) (a : N) → climb up (suc k) o ≡ Some a → (n : N) ×
      ((climb up k o ≡ Some n) × (up n ≡ Some a))
  climb_last up k None a e = absurd (none-some a e)
  climb_last up zero (Some m) a e = (m, (refl, e))
  climb_last up (suc k) (Some m) a e = climb_last up k (up m) a e

-- children, parents and depths that agree
pub record IsTree {N : Type 0} (children : N → List N) (parent : N → Option N) (depth : N → ℕ) : Type 0 where
  pub child_parent : (a x : N) → Has (children a) x → parent x ≡ Some a
  pub parent_child : (a x : N) → parent x ≡ Some a → Has (children a) x
  pub once : (a : N) → Distinct (children a)
  pub deeper : (a x : N) → parent x ≡ Some a → depth x ≡ depth a + 1

module _ {N : Type 0} (K : N → List N) (parent : N → Option N) (depth : N → ℕ) (w : IsTree K parent depth) where
  -- k steps up are k levels
  pub depth-climb : (k : ℕ) (x a : N) → climb parent k (Some x) ≡ Some a → depth x ≡ depth a + k
  depth-climb zero x a e = let q = ap depth (same_Some x a e) in omega arith
  depth-climb (suc k) x a e = elim (parent x) as (λ o. parent x ≡ o → climb parent k o ≡ Some a → depth x ≡ depth a +
      suc k) [
        | None ↦ λ f g. absurd (none-some a (sym (climb_nothing parent k) ∙ g))
        | Some b ↦ λ f g. let d = w.deeper b x f in let r = depth-climb k b a g in omega arith
      ] refl e

  -- two children of one node that a node is below are one
  siblings-one : (n c m p : N) → parent c ≡ Some n → parent m ≡ Some n → Reaches parent p c → Reaches parent p m → c ≡ m
  siblings-one n c m p ec em rc rm =
      let dc = w.deeper n c ec in
      let dm = w.deeper n m em in
      let hc = depth-climb rc.0 p c rc.1 in
      let hm = depth-climb rm.0 p m rm.1 in
      let same : rc.0 ≡ rm.0 = omega arith in
      same_Some c m (sym rc.1 ∙ ap (λ k. climb parent k (Some p)) same ∙ rm.1)

  -- what is below a child is below the node
  pub Reaches-more : (p m n : N) → Reaches parent p m → parent m ≡ Some n → Reaches parent p n
  Reaches-more p m n r e = (suc r.0, climb_step parent r.0 (Some p) m r.1 ∙ e)

  -- the nodes of a tree are its root and those below it
  pub tree-below : (f : ℕ) (n m : N) → Has (post_order K f n) m → Reaches parent m n
  tree-below zero n m h = absurd h
  tree-below (suc f) n m h = elim (Has-append_cases (flat_map (post_order K f) (K n)) (n ∷ []) m h) [
    | inl k ↦
        let r = Has-flat_map (post_order K f) (K n) m k in
        Reaches-more m r.0 n (tree-below f r.0 m r.1.1) (w.child_parent n r.0 r.1.0)
    | inr k ↦ elim k [ inl e ↦ (0, ap (λ z. Some z) (sym e)) | inr j ↦ absurd j ]
  ]

  pub below-tree : (f k : ℕ) (n m : N) → climb parent k (Some m) ≡ Some n → k < f → Has (post_order K f n) m
  below-tree zero k n m e h = absurd (omega arith)
  below-tree (suc f) zero n m e h = Has-append_right (flat_map (post_order K f) (K n)) (n ∷ []) m
      (inl (sym (same_Some m n e)))
  below-tree (suc f) (suc k) n m e h =
      let r = climb_last parent k (Some m) n e in
      Has-append_left (flat_map (post_order K f) (K n)) (n ∷ []) m (flat_map-Has (post_order K f) (K n) r.0 m
      (w.parent_child n r.0 r.1.1) (below-tree f k r.0 m r.1.0 (omega arith)))

  -- by first children alone, k levels down: the same k levels up
  pub down-up : (k : ℕ) (n x : N) → climb (λ z. head (K z)) k (Some n) ≡ Some x → climb parent k (Some x) ≡ Some n
  down-up zero n x e = sym e
  down-up (suc k) n x e = elim (K n) as (λ ks. K n ≡ ks → climb (λ z. head (K z)) k (head ks) ≡ Some x → climb parent
      (suc k) (Some x) ≡ Some n) [
        | [] ↦ λ f g. absurd (none-some x (sym (climb_nothing (λ z. head (K z)) k) ∙ g))
        | c ∷ ms ↦ λ f g. climb_step parent k (Some x) c (down-up k c x g) ∙ w.child_parent n c
            (subst (λ ks. Has ks c) (sym f) (inl refl))
      ] refl e

  -- The first child of p, which has no child, is taken away.
  module _ (K' : N → List N) (p x : N) (rest : List N) (was : K p ≡ x ∷ rest) (is : K' p ≡ rest)
      (same : (n : N) → (n ≡ p → ⊥) → K' n ≡ K n) (leaf : K x ≡ []) where
    x_under : parent x ≡ Some p
    x_under = w.child_parent p x (subst (λ ks. Has ks x) (sym was) (inl refl))

    -- a tree without p stays as it was
    post_order-frame : (f : ℕ) (m : N) → (Reaches parent p m → ⊥) → post_order K' f m ≡ post_order K f m
    post_order-frame zero m away = refl
    post_order-frame (suc f) m away =
        let e : K' m ≡ K m = same m (λ q. away (0, ap (λ z. Some z) (sym q))) in
        let t = flat_map-same (post_order K' f) (post_order K f) (K m)
        (λ y h. post_order-frame f y (λ r. away (Reaches-more p y m r (w.child_parent m y h)))) in
        rw e (ap (λ z. z ++ m ∷ []) t)

    -- the later children of a node, when p is at its first child or below that
    later_frame : (f : ℕ) (n c : N) (ms : List N) → K n ≡ c ∷ ms → Reaches parent p c → flat_map (post_order K' f) ms ≡
        flat_map (post_order K f) ms
    later_frame f n c ms e r =
        flat_map-same (post_order K' f) (post_order K f) ms (λ m h. post_order-frame f m (λ q.
        let child : Has (K n) m = subst (λ ks. Has ks m) (sym e) (inr h) in
        let first : Has (K n) c = subst (λ ks. Has ks c) (sym e) (inl refl) in
        let once : Distinct (c ∷ ms) = subst Distinct e (w.once n) in
        once.0 (subst (λ z. Has ms z) (sym (siblings-one n c m p (w.child_parent n c first) (w.child_parent n m child) r
        q)) h)))

    -- the children of x's own place
    rest_frame : (f : ℕ) → flat_map (post_order K' f) rest ≡ flat_map (post_order K f) rest
    rest_frame f =
        flat_map-same (post_order K' f) (post_order K f) rest (λ m h. post_order-frame f m (λ q.
        let d = w.deeper p m (w.child_parent p m (subst (λ ks. Has ks m) (sym was) (inr h))) in
        let c = depth-climb q.0 p m q.1 in
        absurd (omega arith)))

    post_leaf : (f : ℕ) → 1 ≤ f → post_order K f x ≡ x ∷ []
    post_leaf zero h = absurd (omega arith)
    post_leaf (suc f) h = rw leaf refl

    -- it was the first node of the post-order
    pub post_order-first : (k f : ℕ) (n : N) → climb (λ z. head (K z)) (suc k) (Some n) ≡ Some x → suc k < f →
        post_order K f n ≡ x ∷ post_order K' f n
    post_order-first k zero n e h = absurd (omega arith)
    post_order-first zero (suc f) n e h = elim (K n) as (λ ks. K n ≡ ks → head ks ≡ Some x → post_order K (suc f) n ≡ x
        ∷ post_order K' (suc f) n) [
          | [] ↦ λ g q. absurd (none-some x q)
          | c ∷ ms ↦ λ g q.
              let cx : c ≡ x = same_Some c x q in
              let up : parent x ≡ Some n = w.child_parent n x (subst (λ ks. Has ks x) (sym g) (inl cx)) in
              let np : n ≡ p = same_Some n p (sym up ∙ x_under) in
              rw (np, was, is, post_leaf f (omega arith), rest_frame f) refl
        ] refl e
    post_order-first (suc k) (suc f) n e h = elim (K n) as (λ ks. K n ≡ ks → climb (λ z. head (K z)) (suc k) (head ks) ≡
        Some x → post_order K (suc f) n ≡ x ∷ post_order K' (suc f) n) [
          | [] ↦ λ g q. absurd (none-some x q)
          | c ∷ ms ↦ λ g q.
              let ups = down-up (suc k) c x q in
              let under : climb parent k (Some p) ≡ Some c = ap (climb parent k) (sym x_under) ∙ ups in
              let dc = w.deeper n c (w.child_parent n c (subst (λ ks. Has ks c) (sym g) (inl refl))) in
              let dp = depth-climb k p c under in
              let children : K' n ≡ c ∷ ms = same n (λ z. let d = ap depth z in let b : ⊥ = omega arith in b) ∙ g in
              let first = post_order-first k f c q (omega arith) in
              rw (children, g, first, later_frame f n c ms g (k, under)) refl
        ] refl e

    -- the way by first children to p is as it was
    pub down-frame : (k : ℕ) (n : N) → climb (λ z. head (K z)) k (Some n) ≡ Some p → climb (λ z. head (K' z)) k (Some n)
        ≡ Some p
    down-frame zero n e = e
    down-frame (suc k) n e =
        let d = depth-climb (suc k) p n (down-up (suc k) n p e) in
        let children : K' n ≡ K n = same n (λ z. let q = ap depth z in let b : ⊥ = omega arith in b) in
        rw children (elim (K n) as (λ ks. climb (λ z. head (K z)) k (head ks) ≡ Some p → climb (λ z. head (K' z)) k
        (head ks) ≡ Some p) [
          | [] ↦ λ q. absurd (none-some p (sym (climb_nothing (λ z. head (K z)) k) ∙ q))
          | c ∷ ms ↦ λ q. down-frame k c q
        ] e)
