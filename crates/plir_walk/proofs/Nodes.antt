-- Whether two nodes are the same.
use Rattle.std.proofs.Common.{◌≡◌, ◌≢◌, true, false, List, [], ◌∷◌, ◌++◌, ◌⊎◌, inl, inr, refl, sym, ap}
use Rattle.plir_core.specs.declared.ptr.Ptr.{Ptr}
use Rattle.plir_core.specs.declared.ptr.IRNode.{IRNode}
use Rattle.plir_core.specs.declared.ptr.IRNode.TheVariants.{Operation, BasicBlock, Region}
use Rattle.plir_store.specs.MemberLaws.{Has-append_right}
use Rattle.plir_walk.specs.Step.{after}
use Rattle.plir_walk.specs.declared.config.Order.TheVariants.{PreOrder, PostOrder}
use Rattle.plir_walk.specs.declared.config.WalkConfig.{WalkConfig}
use Rattle.plir_walk.specs.Config.{order_of, AllPre, AllPost}
use Rattle.plir_walk.specs.NodeLaws.{same_ptr_tells}
use Rattle.plir_walk.specs.Tree.{same}
use Rattle.plir_store.specs.Members.{Has, Distinct, head}

pub same_tells : (a b : IRNode) → ((same a b ≡ true) × (a ≡ b)) ⊎ ((same a b ≡ false) × (a ≢ b))
same_tells (Operation p) (Operation q) = elim (same_ptr_tells p q) [
  | inl h ↦ inl (h.0, ap Operation h.1)
  | inr h ↦ inr
      (h.0, λ e. h.1 (cc e))
]
same_tells (Operation p) (BasicBlock q) = inr (refl, λ e. cc e)
same_tells (Operation p) (Region q) = inr (refl, λ e. cc e)
same_tells (BasicBlock p) (Operation q) = inr (refl, λ e. cc e)
same_tells (BasicBlock p) (BasicBlock q) = elim (same_ptr_tells p q) [
  | inl h ↦ inl (h.0, ap BasicBlock h.1)
  | inr h ↦
      inr (h.0, λ e. h.1 (cc e))
]
same_tells (BasicBlock p) (Region q) = inr (refl, λ e. cc e)
same_tells (Region p) (Operation q) = inr (refl, λ e. cc e)
same_tells (Region p) (BasicBlock q) = inr (refl, λ e. cc e)
same_tells (Region p) (Region q) = elim (same_ptr_tells p q) [
  | inl h ↦ inl (h.0, ap Region h.1)
  | inr h ↦ inr
      (h.0, λ e. h.1 (cc e))
]

-- one order at all levels is the order of each node
pub pre-at : (w : WalkConfig) → AllPre w → (n : IRNode) → order_of w n ≡ PreOrder
pre-at w h (Operation p) = h.0
pre-at w h (BasicBlock p) = h.1
pre-at w h (Region p) = h.2

pub post-at : (w : WalkConfig) → AllPost w → (n : IRNode) → order_of w n ≡ PostOrder
post-at w h (Operation p) = h.0
post-at w h (BasicBlock p) = h.1
post-at w h (Region p) = h.2

-- what follows n where it stands
pub after-at : (xs : List IRNode) (n : IRNode) (ys : List IRNode) → Distinct (xs ++ n ∷ ys) → after n (xs ++ n ∷ ys) ≡
    head ys
after-at [] n ys d = elim (same_tells n n) [ inl e ↦ rw e.0 refl | inr e ↦ absurd (e.1 refl) ]
after-at (x ∷ xs) n ys d = elim (same_tells x n) [
  | inl e ↦ absurd (d.0 (Has-append_right xs (n ∷ ys) x (inl (sym e.1))))
  | inr e ↦ rw e.0 (after-at xs n ys d.1)
]

-- a node is in a list, or is not
pub Has-or-not : (xs : List IRNode) (n : IRNode) → Has xs n ⊎ (Has xs n → ⊥)
Has-or-not [] n = inr (λ h. h)
Has-or-not (x ∷ xs) n = elim (same_tells x n) [
  | inl e ↦ inl (inl e.1)
  | inr e ↦ elim (Has-or-not xs n) [ inl h ↦ inl (inr h) | inr h ↦ inr (λ k. elim k [ inl g ↦ e.1 g | inr g ↦ h g ]) ]
]
