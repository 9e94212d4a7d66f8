use Rattle.std.proofs.Common.{◌≡◌, ℕ, zero, suc, ◌+◌, ◌<◌, Bool, true, false, cond, List, [], ◌∷◌, Option, Some, None}
use Rattle.std.proofs.Common.{inl, inr, refl, sym, ap, subst, arith, ◌∙◌, option_map}
use Rattle.plir_walk.specs.Config.{direction_of}
use Rattle.plir_store.specs.Members.{Distinct, Has, head}
use Rattle.plir_walk.specs.Step.{enter_or_leave, next_of, step_of, after, taken}
use Rattle.plir_walk.specs.Tree.{same}
use Rattle.plir_walk.specs.declared.config.WalkConfig.{WalkConfig}
use Rattle.plir_core.specs.declared.ptr.IRNode.{IRNode}
use Rattle.plir_core.specs.Forest.{IsForest, Shape}
use Rattle.plir_walk.proofs.Endings.{rest_of, row, unread}
use Rattle.plir_walk.proofs.Groves.{Grove, Has-taken, grow, leaf}
use Rattle.plir_walk.proofs.Nodes.{same_tells}
use Rattle.plir_walk.proofs.Steps.{Distinct-taken}
use Rattle.plir_walk.proofs.Heights.{bounded, deepest, deeper, depth_in}

-- How many steps a walk with no call that changes anything still makes: two for each node that is still to be entered,
-- and one for each that is still to be left.

abbrev pub steps_in : Grove → ℕ
steps_in leaf = 0
steps_in (grow n o b x) = 2 + (steps_in b + steps_in x)

-- the elements behind n
abbrev pub behind : IRNode → List IRNode → List IRNode
behind n [] = []
behind n (x ∷ xs) = cond (same x n) xs (behind n xs)

pub after-behind : (n : IRNode) (xs : List IRNode) → after n xs ≡ head (behind n xs)
after-behind n [] = refl
after-behind n (x ∷ xs) = elim (same_tells x n) [ inl e ↦ rw e.0 refl | inr e ↦ rw e.0 (after-behind n xs) ]

pub behind-Has : (n : IRNode) (xs : List IRNode) (m : IRNode) → Has (behind n xs) m → Has xs m
behind-Has n [] m h = h
behind-Has n (x ∷ xs) m h = elim (same_tells x n) [
  | inl e ↦ inr (rw e.0 at h)
  | inr e ↦ inr
      (behind-Has n xs m (rw e.0 at h))
]

-- the first one behind n, and what is behind it
pub behind-next : (n : IRNode) (xs : List IRNode) (k : IRNode) (rest : List IRNode) → Distinct xs → behind n xs ≡ k ∷
    rest → behind k xs ≡ rest
behind-next n [] k rest d h = cc
behind-next n (x ∷ xs) k rest d h = elim (same_tells x n) [
  | inl e ↦ (let g : xs ≡ k ∷ rest = (rw e.0 at h) in skip x xs k rest d g)
  | inr e ↦ (let g : behind n xs ≡ k ∷ rest = (rw e.0 at h) in
      elim (same_tells x k) [
        | inl i ↦ absurd (d.0 (subst (λ (v : IRNode). Has xs v) (sym i.1) (behind-Has n xs k (rw g (inl refl)))))
        | inr i ↦ rw i.0 (behind-next n xs k rest d.1 g)
      ])
]
  where
    at-front : (k : IRNode) (rest : List IRNode) → behind k (k ∷ rest) ≡ rest
    at-front k rest = elim (same_tells k k) [ inl e ↦ rw e.0 refl | inr e ↦ absurd (e.1 refl) ]

    skip : (x : IRNode) (xs : List IRNode) (k : IRNode) (rest : List IRNode) → Distinct (x ∷ xs) → xs ≡ k ∷ rest →
        behind k (x ∷ xs) ≡ rest
    skip x xs k rest d g = elim (same_tells x k) [
      | inl i ↦ absurd (d.0 (rw g (inl (sym i.1))))
      | inr i ↦ rw i.0 (rw g (at-front k rest))
    ]

module _ (w : WalkConfig) (s : Shape) where
  abbrev pub steps_at : List IRNode → ℕ
  steps_at xs = steps_in (rest_of w s xs)

  -- what is still to be walked behind n, and behind each node above it
  abbrev pub above_by : (IRNode → ℕ) → IRNode → Option IRNode → ℕ
  above_by g n None = 0
  above_by g n (Some a) = steps_at (behind n (taken (direction_of w a) (s.children a))) + (1 + g a)

  abbrev pub above_to : ℕ → IRNode → ℕ
  above_to zero n = 0
  above_to (suc k) n = above_by (above_to k) n (s.parent n)

  abbrev pub above : IRNode → ℕ
  above n = above_to (depth_in s n) n

  abbrev pub left_at : IRNode → Bool → ℕ
  left_at n true = steps_at (n ∷ []) + above n
  left_at n false = 1 + above n

module _ (w : WalkConfig) (s : Shape) (f : IsForest s) where
  abbrev pub children_in : IRNode → List IRNode
  children_in n = taken (direction_of w n) (s.children n)

  pub row-same : (g h : List IRNode → Grove) (xs : List IRNode) → ((x : IRNode) → Has xs x → g
      (taken (direction_of w x) (s.children x)) ≡ h (taken (direction_of w x) (s.children x))) → row w s g xs ≡ row w s
      h xs
  row-same g h [] e = refl
  row-same g h (x ∷ xs) e = (let p = e x (inl refl) in let q = row-same g h xs (λ y k. e y (inr k)) in rw (p, q) refl)

  pub children-deeper : (n k : IRNode) → Has (taken (direction_of w n) (s.children n)) k → depth_in s k ≡ depth_in s n +
      1
  children-deeper n k h = deeper s f n k (f.child_parent n k (Has-taken (direction_of w n) (s.children n) k h))

  pub unread-more : (k : ℕ) (xs : List IRNode) → ((x : IRNode) → Has xs x → deepest < depth_in s x + k) → unread w s k
      xs ≡ unread w s (suc k) xs
  unread-more zero [] h = refl
  unread-more zero (x ∷ xs) h = absurd (let p = h x (inl refl) in let q = bounded s x in omega (arith, p, q))
  unread-more (suc k) xs h = row-same (unread w s k) (unread w s (suc k)) xs
      (λ x z. unread-more k (taken (direction_of w x) (s.children x))
      (λ y u. (let p = h x z in let q = children-deeper x y u in omega (arith, p, q))))

  pub steps-split : (x : IRNode) (xs : List IRNode) → steps_at w s (x ∷ xs) ≡ steps_at w s (x ∷ []) + steps_at w s xs
  steps-split x xs = omega arith

  pub steps-children : (n : IRNode) → steps_at w s (n ∷ []) ≡ 2 + steps_at w s (taken (direction_of w n) (s.children n))
  steps-children n =
      let e = unread-more deepest (taken (direction_of w n) (s.children n))
      (λ y u. (let q = children-deeper n y u in omega (arith, q))) in
      let g = ap steps_in e in omega (arith, g)

  pub above-is : (n a : IRNode) → s.parent n ≡ Some a → above w s n ≡ steps_at w s
      (behind n (taken (direction_of w a) (s.children a))) + (1 + above w s a)
  above-is n a h =
      let e : depth_in s n ≡ suc (depth_in s a) = (let p = deeper s f a n h in omega (arith, p)) in
      rw e (rw h refl)

  pub enter-smaller : (n : IRNode) (ks : List IRNode) (m : IRNode) (en : Bool) → taken (direction_of w n) (s.children n)
      ≡ ks → enter_or_leave (head ks) n ≡ (m, en) → left_at w s m en < left_at w s n true
  enter-smaller n [] m en h z =
      let k = steps-children n in
      let g : left_at w s n false < left_at w s n true = omega (arith, k) in
      subst (λ (v : IRNode × Bool). left_at w s v.0 v.1 < left_at w s n true) z g
  enter-smaller n (k ∷ ks) m en h z =
      let p = steps-children n in
      let q : steps_at w s (taken (direction_of w n) (s.children n)) ≡ steps_at w s (k ∷ []) + steps_at w s ks = ap
      (steps_at w s) h ∙ steps-split k ks in
      let up : s.parent k ≡ Some n = f.child_parent n k (Has-taken (direction_of w n) (s.children n) k
      (rw h (inl refl))) in
      let b : behind k (taken (direction_of w n) (s.children n)) ≡ ks = (rw h (front k ks)) in
      let u : above w s k ≡ steps_at w s ks + (1 + above w s n) = above-is k n up ∙ ap
      (λ v. steps_at w s v + (1 + above w s n)) b in
      let g : left_at w s k true < left_at w s n true = omega (arith, p, q, u) in
      subst (λ (v : IRNode × Bool). left_at w s v.0 v.1 < left_at w s n true) z g
    where
      front : (k : IRNode) (ks : List IRNode) → behind k (k ∷ ks) ≡ ks
      front k ks = elim (same_tells k k) [ inl e ↦ rw e.0 refl | inr e ↦ absurd (e.1 refl) ]

  pub leave-smaller : (n a : IRNode) (td : List IRNode) (m : IRNode) (en : Bool) → s.parent n ≡ Some a → behind n
      (taken (direction_of w a) (s.children a)) ≡ td → enter_or_leave (head td) a ≡ (m, en) → left_at w s m en < left_at
      w s n false
  leave-smaller n a [] m en h e z =
      let u : above w s n ≡ 0 + (1 + above w s a) = above-is n a h ∙ ap (λ v. steps_at w s v + (1 + above w s a)) e in
      let g : left_at w s a false < left_at w s n false = omega (arith, u) in
      subst (λ (v : IRNode × Bool). left_at w s v.0 v.1 < left_at w s n false) z g
  leave-smaller n a (k ∷ rest) m en h e z =
      let ks : List IRNode = taken (direction_of w a) (s.children a) in
      let dis : Distinct ks = Distinct-taken (direction_of w a) (s.children a) (f.once a) in
      let kd : Has ks k = behind-Has n ks k (rw e (inl refl)) in
      let up : s.parent k ≡ Some a = f.child_parent a k (Has-taken (direction_of w a) (s.children a) k kd) in
      let b : behind k ks ≡ rest = behind-next n ks k rest dis e in
      let u : above w s k ≡ steps_at w s rest + (1 + above w s a) = above-is k a up ∙ ap
      (λ v. steps_at w s v + (1 + above w s a)) b in
      let v : above w s n ≡ steps_at w s (k ∷ rest) + (1 + above w s a) = above-is n a h ∙ ap
      (λ v. steps_at w s v + (1 + above w s a)) e in
      let q = steps-split k rest in
      let g : left_at w s k true < left_at w s n false = omega (arith, u, v, q) in
      subst (λ (v : IRNode × Bool). left_at w s v.0 v.1 < left_at w s n false) z g

  pub step-smaller : (r n : IRNode) (en : Bool) (m : IRNode) (en' : Bool) → step_of w s r n en ≡ Some (m, en') → left_at
      w s m en' < left_at w s n en
  step-smaller r n true m en' z = enter-smaller n (taken (direction_of w n) (s.children n)) m en' refl cc
  step-smaller r n false m en' z = elim (same_tells n r) [
    | inl e ↦ absurd (none-some (rw e.0 at z))
    | inr e ↦ go (s.parent n) refl (rw e.0 at z)
  ]
    where
      none-some : {A : Type 0} {x : A} → None ≡ Some x → ⊥
      none-some e = cc

      go : (o : Option IRNode) → s.parent n ≡ o → option_map
          (λ a. enter_or_leave (next_of w s n) a) o ≡ Some (m, en') → left_at w s m en' < left_at w s n false
      go None e z = cc
      go (Some a) e z = leave-smaller n a (behind n (taken (direction_of w a) (s.children a))) m en' e refl
          (let y : Some (enter_or_leave (next_of w s n) a) ≡ Some (m, en') = z in
          let x : next_of w s n ≡ head (behind n (taken (direction_of w a) (s.children a))) =
          (rw e (after-behind n (taken (direction_of w a) (s.children a)))) in
          let v : Some (enter_or_leave (head (behind n (taken (direction_of w a) (s.children a)))) a) ≡ Some (m, en') =
          (rw x at y) in cc v)
