use Rattle.std.proofs.Common.{◌≡◌, ℕ, ◌+◌, ◌-◌, ◌*◌, ◌^◌, ◌<◌, ◌≤◌, Bool, true, false, List, [], ◌∷◌, Option, Some}
use Rattle.std.proofs.Common.{None, inl, inr, refl, subst, arith, option_map}
use Rattle.plir_walk.specs.Config.{direction_of, order_of}
use Rattle.plir_store.specs.Members.{Has, head}
use Rattle.plir_walk.specs.Step.{due_at, enter_or_leave, first_of, next_of, step_of, after, taken}
use Rattle.plir_walk.specs.declared.config.Order.{Order}
use Rattle.plir_walk.specs.declared.config.Order.TheVariants.{PostOrder, PreOrder}
use Rattle.plir_walk.specs.declared.config.WalkConfig.{WalkConfig}
use Rattle.plir_core.specs.declared.ptr.IRNode.{IRNode}
use Rattle.plir_core.specs.Forest.{IsForest, Shape}
use Rattle.plir_walk.proofs.Groves.{Has-taken}
use Rattle.plir_walk.proofs.Nodes.{same_tells}
use Rattle.plir_walk.proofs.Heights.{bounded, deepest-is, deeper, depth_in}

-- Between two calls a walk goes up, from PreOrder nodes that it leaves, and then down, into PostOrder nodes.
abbrev pub part_at : Order → ℕ → Bool → ℕ
part_at PreOrder d true = 0
part_at PreOrder d false = 0x200_0000_0000 + d
part_at PostOrder d true = 0x200_0000_0000 - d
part_at PostOrder d false = 0

abbrev pub part : WalkConfig → Shape → IRNode → Bool → ℕ
part w s c en = part_at (order_of w c) (depth_in s c) en

abbrev pub size_of : WalkConfig → Shape → ℕ → IRNode → Bool → ℕ
size_of w s left c en = left * 0x1000_0000_0000 + part w s c en

pub part-entering : (o : Order) (d : ℕ) → part_at o d true ≤ 0x200_0000_0000 - d
part-entering PreOrder d = omega arith
part-entering PostOrder d = omega arith

pub part-leaving : (o : Order) (d : ℕ) → part_at o d false ≤ 0x200_0000_0000 + d
part-leaving PreOrder d = omega arith
part-leaving PostOrder d = omega arith

pub part-bound : (o : Order) (d : ℕ) (en : Bool) → d ≤ 2 ^ 40 → part_at o d en < 0x1000_0000_0000
part-bound PreOrder d true h = omega arith
part-bound PreOrder d false h = omega arith
part-bound PostOrder d true h = omega arith
part-bound PostOrder d false h = omega arith

pub head-Has : (xs : List IRNode) (n : IRNode) → head xs ≡ Some n → Has xs n
head-Has [] n h = cc
head-Has (x ∷ xs) n h = inl cc

pub after-Has : (xs : List IRNode) (c n : IRNode) → after c xs ≡ Some n → Has xs n
after-Has [] c n h = cc
after-Has (x ∷ xs) c n h = elim (same_tells x c) [
  | inl e ↦ inr (head-Has xs n (rw e.0 at h))
  | inr e ↦ inr (after-Has xs c n (rw e.0 at h))
]

module _ (w : WalkConfig) (s : Shape) (f : IsForest s) where
  pub small : (n : IRNode) → depth_in s n ≤ 2 ^ 40
  small n = (let p = bounded s n in let q = deepest-is in omega (arith, p, q))

  pub child-depth : (a k : IRNode) → Has (taken (direction_of w a) (s.children a)) k → depth_in s k ≡ depth_in s a + 1
  child-depth a k h = deeper s f a k (f.child_parent a k (Has-taken (direction_of w a) (s.children a) k h))

  pub down-smaller : (c : IRNode) (o : Option IRNode) (n : IRNode) (en : Bool) → order_of w c ≡ PostOrder → first_of w s
      c ≡ o → enter_or_leave o c ≡ (n, en) → part w s n en < part w s c true
  down-smaller c None n en d e z =
      let g : part w s c false < part w s c true = (rw d (let p = small c in omega (arith, p))) in
      subst (λ (v : IRNode × Bool). part w s v.0 v.1 < part w s c true) z g
  down-smaller c (Some k) n en d e z =
      let p = child-depth c k (head-Has (taken (direction_of w c) (s.children c)) k e) in
      let q = part-entering (order_of w k) (depth_in s k) in
      let m = small k in
      let g : part w s k true < part w s c true = (rw d (omega (arith, p, q, m))) in
      subst (λ (v : IRNode × Bool). part w s v.0 v.1 < part w s c true) z g

  pub up-smaller : (c a : IRNode) (o : Option IRNode) (n : IRNode) (en : Bool) → order_of w c ≡ PreOrder → s.parent c ≡
      Some a → after c (taken (direction_of w a) (s.children a)) ≡ o → enter_or_leave o a ≡ (n, en) → part w s n en <
      part w s c false
  up-smaller c a None n en d u e z =
      let p = deeper s f a c u in
      let q = part-leaving (order_of w a) (depth_in s a) in
      let g : part w s a false < part w s c false = (rw d (omega (arith, p, q))) in
      subst (λ (v : IRNode × Bool). part w s v.0 v.1 < part w s c false) z g
  up-smaller c a (Some k) n en d u e z =
      let p = child-depth a k (after-Has (taken (direction_of w a) (s.children a)) c k e) in
      let q = part-entering (order_of w k) (depth_in s k) in
      let m = small k in
      let g : part w s k true < part w s c false = (rw d (omega (arith, p, q, m))) in
      subst (λ (v : IRNode × Bool). part w s v.0 v.1 < part w s c false) z g

  pub step-smaller : (r c : IRNode) (en : Bool) (o : Order) (n : IRNode) (en' : Bool) → order_of w c ≡ o → due_at o en ≡
      false → step_of w s r c en ≡ Some (n, en') → part w s n en' < part w s c en
  step-smaller r c true PreOrder n en' k d z = cc
  step-smaller r c true PostOrder n en' k d z = down-smaller c (first_of w s c) n en' k refl (some-is z)
    where
      some-is : {A : Type 0} {x y : A} → Some x ≡ Some y → x ≡ y
      some-is e = cc
  step-smaller r c false PostOrder n en' k d z = cc
  step-smaller r c false PreOrder n en' k d z = elim (same_tells c r) [
    | inl e ↦ absurd (none-some (rw e.0 at z))
    | inr e ↦ go (s.parent c) refl (rw e.0 at z)
  ]
    where
      none-some : {A : Type 0} {x : A} → None ≡ Some x → ⊥
      none-some e = cc

      go : (o : Option IRNode) → s.parent c ≡ o → option_map
          (λ a. enter_or_leave (next_of w s c) a) o ≡ Some (n, en') → part w s n en' < part w s c false
      go None e z = cc
      go (Some a) e z = up-smaller c a (after c (taken (direction_of w a) (s.children a))) n en' k e refl
          (let y : Some (enter_or_leave (next_of w s c) a) ≡ Some (n, en') = z in
          let x : next_of w s c ≡ after c (taken (direction_of w a) (s.children a)) = (rw e refl) in
          let v : Some (enter_or_leave (after c (taken (direction_of w a) (s.children a))) a) ≡ Some (n, en') =
          (rw x at y) in cc v)

-- a step with a call
pub called-smaller : (w : WalkConfig) (s s' : Shape) (f' : IsForest s') (c n : IRNode) (en en' : Bool) (left left' : ℕ)
    → left ≡ left' + 1 → size_of w s' left' n en' < size_of w s left c en
called-smaller w s s' f' c n en en' left left' h = (let p = part-bound (order_of w n) (depth_in s' n) en'
    (small w s' f' n) in rw h (omega (arith, p)))
